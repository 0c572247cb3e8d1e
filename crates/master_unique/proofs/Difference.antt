-- Two good tables of the same waypoints and states are equal: `tables_equal`. Their difference solves the homogeneous equations, so it is zero.
-- Assumes nothing.
use mathlib.Core.Path.{◌≡◌, refl, sym, ap, ap₂, ◌∙◌}
use mathlib.Core.List.{List, [], ◌∷◌}
use Prim.Native.Nat.{ℕ, zero, suc, ◌+◌, ◌-◌, ◌*◌, ◌/◌, ◌%◌, ◌<◌, ◌≤◌}
use native.Mathlib.Nat.{div-add-mod', div-lt_iff_lt-mul, mod-lt}
use native.Mathlib.Omega.{arith}
use lib.IntN.{ℤ, pos, ◌+ℤ◌, ◌-ℤ◌, ◌*ℤ◌, +ℤ_invr}
use lib.ListN.{length}
use lib.Seq.{ext_get_or}
use Rattle.law_integers.proofs.Laws.{difference_zero}
use Rattle.law_integers.proofs.Ring.{var, ◌:+◌, ◌:-◌, ◌:*◌, identity}
use Rattle.rules.specs.Tables.{m_of}
use Rattle.rules.specs.Master.{set_of, at, coefficient, binomial, sumℤ, at_end}
use Rattle.theorem_exact.proofs.Sums.{sum_same}
use Rattle.master_unique.proofs.Energy.{end_of, energy_of}
use Rattle.master_unique.proofs.Zero.{Homogeneous, only_zero}
use Rattle.master_unique.proofs.Good.{Good}

-- ---- a difference, coefficient by coefficient, is linear

times_difference : (c a b : ℤ) → c *ℤ (a -ℤ b) ≡ c *ℤ a -ℤ c *ℤ b
times_difference c a b = identity (at (c ∷ a ∷ b ∷ [])) (var 0 :* (var 1 :- var 2)) (var 0 :* var 1 :- var 0 :* var 2) tt

sum_difference : (n : ℕ) (f g : ℕ → ℤ) → sumℤ n (λ i. f i -ℤ g i) ≡ sumℤ n f -ℤ sumℤ n g
unfolding sumℤ
sum_difference zero f g = refl
sum_difference (suc n) f g =
    ap (λ (z : ℤ). z +ℤ (f n -ℤ g n)) (sum_difference n f g)
    ∙ identity (at (sumℤ n f ∷ sumℤ n g ∷ f n ∷ g n ∷ [])) (var 0 :- var 1 :+ (var 2 :- var 3)) (var 0 :+ var 2 :- (var 1 :+ var 3)) tt

end_difference : (m : ℕ) (x y : ℕ → ℤ) (r : ℕ) → end_of m (λ k. x k -ℤ y k) r ≡ end_of m x r -ℤ end_of m y r
unfolding end_of
end_difference m x y r = sum_same (2 * m + 2) _ _ (λ k l. times_difference (pos (binomial k r)) (x k) (y k)) ∙ sum_difference (2 * m + 2) _ _

-- two numbers that are both c
both : {a b : ℤ} (c : ℤ) → a ≡ c → b ≡ c → a -ℤ b ≡ pos 0
both c p q = ap₂ ◌-ℤ◌ p q ∙ +ℤ_invr c

-- ---- two good tables

module _ (order : ℕ) (w start end table table' : List ℤ) (g : Good (set_of order w start end table)) (g' : Good (set_of order w start end table')) where
  abbrev m : ℕ
  m = m_of order

  abbrev n : ℕ
  n = length w - 1

  abbrev x : ℕ → ℕ → ℤ
  x = coefficient m table

  abbrev y : ℕ → ℕ → ℤ
  y = coefficient m table'

  abbrev d : ℕ → ℕ → ℤ
  d i k = x i k -ℤ y i k

  homogeneous : Homogeneous m (n - 1) d
  unfolding at_end end_of
  homogeneous =
      let q = g.equations in
      let q' = g'.equations in
      let two : 2 ≤ length w = g.points in
      record {
        left = λ i l. both _ (q.left i (omega arith)) (q'.left i (omega arith));
        right = λ i l. end_difference m (x i) (y i) 0 ∙ both _ (q.right i (omega arith)) (q'.right i (omega arith));
        start = λ r l. both _ (q.start r l) (q'.start r l);
        end = λ r l. end_difference m (x (n - 1)) (y (n - 1)) (suc r) ∙ both _ (q.end r l) (q'.end r l);
        joint = λ i l r h. end_difference m (x i) (y i) (suc r) ∙ ap₂ ◌-ℤ◌ (q.joint i l r h) (q'.joint i l r h);
      }

  cells_equal : (p : ℕ) → p < length table → at table p ≡ at table' p
  cells_equal p l =
      let size = 2 * m + 2 in
      let inside : p / size < n = (div-lt_iff_lt-mul {k = size} (omega arith)).1 (rw g.cells at l) in
      ap (at table) (sym (div-add-mod' p size))
      ∙ difference_zero _ _ (only_zero (energy_of order g.valid) homogeneous (p / size) (omega arith) (p % size) (mod-lt p (omega arith)))
      ∙ ap (at table') (div-add-mod' p size)

  pub tables_equal : table ≡ table'
  tables_equal = ext_get_or (pos 0) table table' (g.cells ∙ sym g'.cells) cells_equal
