-- The leading bit of a word. Assumes nothing.
use Rattle.std.proofs.Common.{◌≡◌, ℕ, suc, ◌+◌, ◌*◌, ◌^◌, ◌<◌, ◌≤◌, sym, ap, ◌∙◌, subst, le_trans, le_of_eq, mul-le-mul_right, arith, pow-add, shl_lt}
use lib.Count.{count_leading_zeros, leading_top}

-- the shift that brings the leading bit of a word to the front
pub zeros_lt : (h : ℕ) → 0 < h → h < 2 ^ 64 → count_leading_zeros 64 h < 64
zeros_lt h p q = let t = leading_top 64 h p q in under t.0 (count_leading_zeros 64 h) t.1
  where
    under : (k s : ℕ) → s + suc k ≡ 64 → s < 64
    under k s e = omega arith

pub normalized : (h : ℕ) → 0 < h → h < 2 ^ 64 → (2 ^ 63 ≤ h * 2 ^ count_leading_zeros 64 h) × (h * 2 ^ count_leading_zeros 64 h < 2 ^ 64)
normalized h p q =
    let t = leading_top 64 h p q in
    let z = count_leading_zeros 64 h in (
      le_trans (le_of_eq (ap (λ (a : ℕ). 2 ^ a) (sym (front t.0 z t.1)) ∙ pow-add 2 t.0 z)) (mul-le-mul_right (2 ^ z) t.2),
      subst (λ (a : ℕ). h * 2 ^ z < 2 ^ a) (back t.0 z t.1) (shl_lt (suc t.0) z t.3),
    )
  where
    front : (k s : ℕ) → s + suc k ≡ 64 → k + s ≡ 63
    front k s e = omega arith

    back : (k s : ℕ) → s + suc k ≡ 64 → suc k + s ≡ 64
    back k s e = omega arith
