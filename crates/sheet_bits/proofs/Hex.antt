-- Hexadecimal digits: 16 of them, the highest first, by shifts. Assumes nothing.
use mathlib.Core.Path.{◌≡◌, refl, sym, ap, ◌∙◌}
use mathlib.Core.List.{List}
use Prim.Native.Nat.{ℕ, zero, suc, ◌+◌, ◌-◌, ◌*◌, ◌/◌, ◌%◌, ◌^◌, ◌<◌, ◌≤◌}
use native.Mathlib.Nat.{pow-suc}
use native.Mathlib.Omega.{arith}
use lib.ListN.{length, set}
use Rattle.law_lists.specs.Lists.{listed}
use Rattle.law_lists.proofs.Filling.{filled, filled_none, filled_set, filled_all}
use Rattle.law_lists.proofs.Lists.{length-listed}
use Rattle.rules.specs.SheetAnswers.{hex_digit, hex}

-- J11: the j-th of 16 digits
abbrev pub hex_place : ℕ → ℕ → ℕ
hex_place bits j = hex_digit (bits / 16 ^ (15 - j) % 16)

pub length_hex : (bits : ℕ) → length (hex bits) ≡ 16
unfolding hex
length_hex bits = length-listed 16 _

-- four bits a digit
sixteen : (k : ℕ) → 2 ^ (4 * k) ≡ 16 ^ k
sixteen zero = refl
sixteen (suc k) =
    let e : 4 * suc k ≡ suc (suc (suc (suc (4 * k)))) = omega arith in
    ap (λ (n : ℕ). 2 ^ n) e ∙ simp pow-suc (omega (arith, sixteen k))

pub shifted : (bits j : ℕ) → j < 16 → bits / 2 ^ (60 - 4 * j) ≡ bits / 16 ^ (15 - j)
shifted bits j h =
    let e : 60 - 4 * j ≡ 4 * (15 - j) = omega arith in
    ap (λ (n : ℕ). bits / n) (ap (λ (k : ℕ). 2 ^ k) e ∙ sixteen (15 - j))

-- ---- the digits, one after the other

module _ (bits : ℕ) (xs : List ℕ) where
  pub no_digit : xs ≡ filled 0 (hex_place bits) xs
  no_digit = sym (filled_none (hex_place bits) xs)

  module _ {ys : List ℕ} (j : ℕ) (all : length xs ≡ 16) where
    pub digit_set : {digit : ℕ} → j < 16 → digit ≡ hex_digit (bits / 2 ^ (60 - 4 * j) % 16) → ys ≡ filled j (hex_place bits) xs
        → set ys j digit ≡ filled (j + 1) (hex_place bits) xs
    digit_set {digit} l e is =
        ap (λ (zs : List ℕ). set zs j digit) is
        ∙ filled_set 0 j (hex_place bits) xs digit (omega arith) (e ∙ ap (λ (q : ℕ). hex_digit (q % 16)) (shifted bits j l))

    pub digits_all : 16 ≤ j → j ≤ 16 → ys ≡ filled j (hex_place bits) xs → ys ≡ hex bits
    unfolding hex
    digits_all h k is = let e : j ≡ 16 = omega arith in is ∙ filled_all j (hex_place bits) xs (omega arith) ∙ ap (λ (n : ℕ). listed n (hex_place bits)) e
