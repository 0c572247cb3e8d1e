-- A segment's part of the table: where it lies, and what its range says of its coefficients. Assumes nothing.
use mathlib.Core.Path.{◌≡◌, sym, ap, ◌∙◌, subst}
use mathlib.Core.Bool.{Bool, true}
use mathlib.Core.List.{List}
use Prim.Native.Nat.{ℕ, ◌+◌, ◌-◌, ◌*◌, ◌<◌, ◌≤◌}
use native.Mathlib.Nat.{le_trans, mul-le-mul}
use native.Mathlib.Omega.{arith}
use lib.Dec.{T}
use lib.IntN.{ℤ, pos}
use lib.ListN.{length, get_or, take, drop}
use lib.Seq.{get_or-take, get_or-drop}
use Rattle.law_lists.specs.Lists.{all}
use Rattle.rules.specs.Master.{within, coefficient}
use Rattle.law_lists.proofs.Lists.{part_inside, all_at}
use Rattle.law_lists.proofs.Lent.{part_size}
use Rattle.master_numbers.specs.Sums.{Summable}
use Rattle.master_equations.specs.Segment.{Shaped}
use Rattle.master_segments.specs.Answer.{segment_part}

-- what was answered of segment i's part of the table, as the code lends it
pub fit : (m : ℕ) (table : List ℤ) (i : ℕ) {b : Bool}
    → (let at = i * (2 * m + 2) in b ≡ all within (take (at + (2 * m + 2) - at) (drop at table))) → all within (segment_part m table i) ≡ b
unfolding segment_part
fit m table i e = sym (e ∙ ap (all within) (part_size (i * (2 * m + 2)) (2 * m + 2) table))

module _ {m : ℕ} {w end table : List ℤ} (s : Shaped m w end table) {i : ℕ} (l : i < length w - 1) where
  pub segment_inside : i * (2 * m + 2) + (2 * m + 2) ≤ length table
  segment_inside = rw s.table_is (part_inside (2 * m + 2) l)

  most_segments : i ≤ 255
  most_segments = let h = s.most in omega arith

  -- no table is so long that a place in it would not fit
  pub place_most : i * (2 * m + 2) + (2 * m + 2) ≤ 256 * 8
  place_most =
      let few = s.most_m in
      le_trans (part_inside (2 * m + 2) {n = 256} (omega (arith, most_segments))) (mul-le-mul {n₂ = 256} {m₂ = 8} (omega arith) (omega arith))

  -- of a segment in range the sums can be taken
  pub summable : all within (segment_part m table i) ≡ true → Summable m table i
  unfolding within segment_part
  summable e = record {
    most_m = s.most_m;
    most_i = most_segments;
    inside = segment_inside;
    coefficients = λ k b. subst (λ (z : ℤ). T (within z)) (cell k b) (all_at within (segment_part m table i) (pos 0) tt (subst T (sym e) tt) k);
  }
    where
      cell : (k : ℕ) → k < 2 * m + 2 → get_or (segment_part m table i) k (pos 0) ≡ coefficient m table i k
      cell k b = let at = i * (2 * m + 2) in get_or-take (2 * m + 2) (drop at table) k (pos 0) b ∙ get_or-drop at table k (pos 0)
