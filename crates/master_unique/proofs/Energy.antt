-- The energy of one segment: the integral of the square of its derivative m + 1. Integrated by parts it is what a boundary form W has at the segment's end less
-- what it has at its start: `energy_by_parts`. It is a sum of squares too, so where it is zero all coefficients from m + 1 on are: `upper_zero`. No integral is
-- taken here: for m = 1, 2 and 3 the solver shows that the two are the same polynomial in the coefficients. Assumes nothing.
use mathlib.Core.Path.{◌≡◌, refl, sym, ap, ap₂, ◌∙◌}
use mathlib.Core.Bool.{Bool, true, ◌&&◌}
use mathlib.Core.List.{List, [], ◌∷◌}
use mathlib.Core.Logic.{◌⊎◌, inl, inr}
use Prim.Native.Nat.{ℕ, zero, suc, ◌+◌, ◌-◌, ◌*◌, ◌<◌, ◌≤◌}
use native.Mathlib.Nat.{eq-or-lt_of_le}
use native.Mathlib.Omega.{arith}
use lib.Dec.{T, ltb, eqb, ltb→lt, eqb→eq}
use lib.IntN.{ℤ, pos, nat_abs, neg_ℤ, ◌+ℤ◌, ◌*ℤ◌, +ℤ_idr, *ℤ-zero}
use lib.ListN.{length}
use lib.Ieee.Fits.{and_l, and_r}
use Rattle.law_integers.proofs.Squares.{square, factor_zero, times_zero, square_zero}
use Rattle.law_integers.proofs.Ring.{Expr, var, con, ◌:+◌, ◌:*◌, value, identity}
use Rattle.rules.specs.Build.{valid_order}
use Rattle.rules.specs.Tables.{m_of}
use Rattle.rules.specs.Master.{binomial, sumℤ}
use Rattle.law_lists.proofs.Lists.{below_suc}
use Rattle.rules.proofs.Build.{by_order}
use Rattle.theorem_exact.proofs.Sums.{sum_same, sum_zero}

-- ---- the boundary form of a segment with the coefficients x 0, .., x (2m + 1)

-- coefficient r of the segment taken about its end
unfoldable pub end_of : ℕ → (ℕ → ℤ) → ℕ → ℤ
end_of m x r = sumℤ (2 * m + 2) (λ k. pos (binomial k r) *ℤ x k)

factorial : ℕ → ℕ
factorial zero = 1
factorial (suc k) = suc k * factorial k

-- (−1)^j
sign : ℕ → ℤ
sign zero = pos 1
sign (suc j) = neg_ℤ (sign j)

-- (−1)^j × (m + 1 + j)! × (m − j)!
factor : ℕ → ℕ → ℤ
factor m j = sign j *ℤ pos (factorial (suc m + j) * factorial (m - j))

-- W: the sum over j = 0 .. m of (−1)^j × derivative m + 1 + j × derivative m − j, where derivative k is k! × coefficient k
pub W : ℕ → (ℕ → ℤ) → ℤ
W m x = sumℤ (suc m) (λ j. factor m j *ℤ (x (suc m + j) *ℤ x (m - j)))

-- W is zero where the coefficients 0 to m are
pub W_zero : (m : ℕ) (x : ℕ → ℤ) → ((k : ℕ) → k < suc m → x k ≡ pos 0) → W m x ≡ pos 0
unfolding W
W_zero m x z = sum_same (suc m) _ _ (λ j l. ap (λ (y : ℤ). factor m j *ℤ (x (suc m + j) *ℤ y)) (z (m - j) (omega arith)) ∙ last_zero j) ∙ sum_zero (suc m)
  where
    last_zero : (j : ℕ) → factor m j *ℤ (x (suc m + j) *ℤ pos 0) ≡ pos 0
    last_zero j = ap (λ (y : ℤ). factor m j *ℤ y) (*ℤ-zero (x (suc m + j))) ∙ *ℤ-zero (factor m j)

-- where coefficient 0 is zero, W is made of the coefficients 1 to 2m
pub W_same : (m : ℕ) (x y : ℕ → ℤ) → x 0 ≡ pos 0 → y 0 ≡ pos 0 → ((r : ℕ) → r < 2 * m → x (suc r) ≡ y (suc r)) → W m x ≡ W m y
unfolding W
W_same m x y p q e = sum_same (suc m) _ _ (λ j l. ap (λ (z : ℤ). factor m j *ℤ z) (product j (below_suc l)))
  where
    agree : (r : ℕ) → r < suc (2 * m) → x r ≡ y r
    agree zero l = p ∙ sym q
    agree (suc r) l = e r (omega arith)

    product : (j : ℕ) → (j ≡ m) ⊎ (j < m) → x (suc m + j) *ℤ x (m - j) ≡ y (suc m + j) *ℤ y (m - j)
    product j (inl h) = ap (λ (z : ℤ). x (suc m + j) *ℤ z) (ap x (omega arith) ∙ p) ∙ *ℤ-zero (x (suc m + j))
        ∙ sym (ap (λ (z : ℤ). y (suc m + j) *ℤ z) (ap y (omega arith) ∙ q) ∙ *ℤ-zero (y (suc m + j)))
    product j (inr h) = ap₂ ◌*ℤ◌ (agree (suc m + j) (omega arith)) (agree (m - j) (omega arith))

-- ---- sums of squares in the coefficients from i on

-- weight × (lead × x i + the others × x (i + 1), x (i + 2), ..)²
pub record Square : Type 0 where
  pub weight : ℕ
  pub lead : ℕ
  pub others : List ℕ

-- no weight and no lead is 0, and a square takes in one coefficient more than there are squares after it; `tt` shows it of squares that are written out
abbrev proper : Square → ℕ → Bool
proper q after = ltb 0 q.weight && ltb 0 q.lead && eqb (length q.others) after

abbrev pub triangular : List Square → Bool
triangular [] = true
triangular (q ∷ qs) = proper q (length qs) && triangular qs

-- as expressions in the coefficients, for the solver
abbrev pub combination : List ℕ → ℕ → Expr
combination [] i = con (pos 0)
combination (c ∷ cs) i = con (pos c) :* var i :+ combination cs (suc i)

abbrev pub root : Square → ℕ → Expr
root q = combination (q.lead ∷ q.others)

-- the first square starts at coefficient i, the second at i + 1, and so on
abbrev pub square_sum : List Square → ℕ → Expr
square_sum [] i = con (pos 0)
square_sum (q ∷ qs) i = con (pos q.weight) :* (root q i :* root q i) :+ square_sum qs (suc i)

module _ (x : ℕ → ℤ) where
  -- the sum of squares as a natural number
  energy : List Square → ℕ → ℕ
  energy [] i = 0
  energy (q ∷ qs) i = let n = nat_abs (value x (root q i)) in q.weight * (n * n) + energy qs (suc i)

  square_sum_lem : (qs : List Square) (i : ℕ) → value x (square_sum qs i) ≡ pos (energy qs i)
  unfolding energy
  square_sum_lem [] i = refl
  square_sum_lem (q ∷ qs) i = ap₂ (λ (a b : ℤ). pos q.weight *ℤ a +ℤ b) (square (value x (root q i))) (square_sum_lem qs (suc i))

  combination_zero : (cs : List ℕ) (i : ℕ) → ((k : ℕ) → i ≤ k → k < i + length cs → x k ≡ pos 0) → value x (combination cs i) ≡ pos 0
  combination_zero [] i z = refl
  combination_zero (c ∷ cs) i z =
      ap₂ ◌+ℤ◌ (ap (λ (a : ℤ). pos c *ℤ a) (z i (omega arith) (omega arith)) ∙ *ℤ-zero (pos c))
      (combination_zero cs (suc i) (λ k l h. z k (omega arith) (omega arith)))

  -- back substitution: a square that is zero, where the coefficients after its first are, has the first zero too
  first_zero : (q : Square) (after i : ℕ) → T (proper q after) → (let n = nat_abs (value x (root q i)) in q.weight * (n * n) ≡ 0)
      → ((k : ℕ) → suc i ≤ k → k < suc i + after → x k ≡ pos 0) → x i ≡ pos 0
  first_zero q after i t e z =
      let positive = and_l (ltb 0 q.weight && ltb 0 q.lead) (eqb (length q.others) after) t in
      let count : length q.others ≡ after = eqb→eq _ after (and_r (ltb 0 q.weight && ltb 0 q.lead) (eqb (length q.others) after) t) in
      let first = pos q.lead *ℤ x i in
      times_zero q.lead (x i) (ltb→lt 0 q.lead (and_r (ltb 0 q.weight) (ltb 0 q.lead) positive))
      (sym (+ℤ_idr first)
      ∙ ap (λ (a : ℤ). first +ℤ a) (sym (combination_zero q.others (suc i) (λ k l h. z k l (omega arith))))
      ∙ square_zero (value x (root q i)) (factor_zero q.weight _ (ltb→lt 0 q.weight (and_l (ltb 0 q.weight) (ltb 0 q.lead) positive)) e))

  energy_zero : (qs : List Square) (i : ℕ) → T (triangular qs) → energy qs i ≡ 0 → (k : ℕ) → i ≤ k → k < i + length qs → x k ≡ pos 0
  unfolding energy
  energy_zero [] i t e k l h = absurd (omega arith)
  energy_zero (q ∷ qs) i t e k l h = go (eq-or-lt_of_le l) (energy_zero qs (suc i) (and_r (proper q (length qs)) (triangular qs) t) (omega arith))
    where
      go : (i ≡ k) ⊎ (i < k) → ((k : ℕ) → suc i ≤ k → k < suc i + length qs → x k ≡ pos 0) → x k ≡ pos 0
      go (inl p) z = ap x (sym p) ∙ first_zero q (length qs) i (and_l (proper q (length qs)) (triangular qs) t) (omega arith) z
      go (inr g) z = z k g (omega arith)

-- ---- what depends on m: the squares, and that they are what W grows by

pub record Energy (m : ℕ) : Type 0 where
  pub squares : List Square
  pub count : length squares ≡ suc m
  pub proper : T (triangular squares)
  pub by_parts : (x : ℕ → ℤ) → W m (end_of m x) ≡ W m x +ℤ value x (square_sum squares (suc m))

-- (2x₂ + 3x₃)² + 3x₃²
abbrev squares₁ : List Square
squares₁ =
    record { weight = 1; lead = 2; others = 3 ∷ [] } ∷
    record { weight = 3; lead = 1; others = [] } ∷ []

-- 4(3x₃ + 6x₄ + 10x₅)² + 12(2x₄ + 5x₅)² + 20x₅²
abbrev squares₂ : List Square
squares₂ =
    record { weight = 4; lead = 3; others = 6 ∷ 10 ∷ [] } ∷
    record { weight = 12; lead = 2; others = 5 ∷ [] } ∷
    record { weight = 20; lead = 1; others = [] } ∷ []

-- 36(4x₄ + 10x₅ + 20x₆ + 35x₇)² + 12(10x₅ + 30x₆ + 63x₇)² + 180(2x₆ + 7x₇)² + 252x₇²
abbrev squares₃ : List Square
squares₃ =
    record { weight = 36; lead = 4; others = 10 ∷ 20 ∷ 35 ∷ [] } ∷
    record { weight = 12; lead = 10; others = 30 ∷ 63 ∷ [] } ∷
    record { weight = 180; lead = 2; others = 7 ∷ [] } ∷
    record { weight = 252; lead = 1; others = [] } ∷ []

-- the two sides of `by_parts` as expressions
abbrev sum_e : ℕ → (ℕ → Expr) → Expr
sum_e zero f = con (pos 0)
sum_e (suc n) f = sum_e n f :+ f n

abbrev WE : ℕ → (ℕ → Expr) → Expr
WE m x = sum_e (suc m) (λ j. con (factor m j) :* (x (suc m + j) :* x (m - j)))

abbrev end_side : ℕ → Expr
end_side m = WE m (λ r. sum_e (2 * m + 2) (λ k. con (pos (binomial k r)) :* var k))

abbrev start_side : ℕ → List Square → Expr
start_side m squares = WE m var :+ square_sum squares (suc m)

energy₁ : Energy 1
unfolding sumℤ binomial end_of factorial sign factor W
energy₁ = record { squares = squares₁; count = refl; proper = tt; by_parts = λ x. identity x (end_side 1) (start_side 1 squares₁) tt }

energy₂ : Energy 2
unfolding sumℤ binomial end_of factorial sign factor W
energy₂ = record { squares = squares₂; count = refl; proper = tt; by_parts = λ x. identity x (end_side 2) (start_side 2 squares₂) tt }

energy₃ : Energy 3
unfolding sumℤ binomial end_of factorial sign factor W
energy₃ = record { squares = squares₃; count = refl; proper = tt; by_parts = λ x. identity x (end_side 3) (start_side 3 squares₃) tt }

pub energy_of : (order : ℕ) → T (valid_order order) → Energy (m_of order)
energy_of = by_order (λ (order : ℕ). Energy (m_of order)) energy₁ energy₂ energy₃

-- ---- the energy of a segment

module _ {m : ℕ} (e : Energy m) (x : ℕ → ℤ) where
  pub segment_energy : ℕ
  segment_energy = energy x e.squares (suc m)

  pub energy_by_parts : W m (end_of m x) ≡ W m x +ℤ pos segment_energy
  unfolding segment_energy
  energy_by_parts = e.by_parts x ∙ ap (λ (z : ℤ). W m x +ℤ z) (square_sum_lem x e.squares (suc m))

  pub upper_zero : segment_energy ≡ 0 → (k : ℕ) → suc m ≤ k → k < 2 * m + 2 → x k ≡ pos 0
  unfolding segment_energy
  upper_zero none k l h = let count = e.count in energy_zero x e.squares (suc m) e.proper none k l (omega arith)
