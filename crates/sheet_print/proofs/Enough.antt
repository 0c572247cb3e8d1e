-- A buffer of 16,384 cells suffices: where the order, the points and the axes pass, the table is no longer. Assumes nothing.
use mathlib.Core.Path.{◌≡◌, refl, ap}
use mathlib.Core.Bool.{Bool, true, false, ◌&&◌}
use mathlib.Core.List.{List, ◌∷◌}
use Prim.Native.Nat.{ℕ, ◌+◌, ◌-◌, ◌≤◌, min}
use native.Mathlib.Nat.{mul-le-mul}
use native.Mathlib.Omega.{arith}
use lib.Dec.{T, leb}
use borrow.Author.Tests.{leb-true}
use Rattle.rules.specs.Questions.{Question, ask, first_no}
use Rattle.rules.specs.Build.{BuildInput, valid_order, valid_axes, build_questions, build_number, build_answer}
use Rattle.rules.specs.SheetFaults.{Judged, readable, refused, judge}
use Rattle.rules.specs.SheetAnswers.{sheet_input, cells_of, answer_for, sheet_answer, sheet_served, most_cells}
use Rattle.rules.proofs.Build.{by_order}
use Rattle.sheet_print.specs.LongEnough.{LongEnough}

-- the first four questions do not look at the buffer
four : (x y u v : Bool) (k l m n : ℕ) (rest other : List Question) → (x ≡ true → y ≡ true → u ≡ true → v ≡ true → rest ≡ other)
    → first_no (ask x k ∷ ask y l ∷ ask u m ∷ ask v n ∷ rest) ≡ first_no (ask x k ∷ ask y l ∷ ask u m ∷ ask v n ∷ other)
unfolding first_no
four false y u v k l m n rest other h = refl
four true false u v k l m n rest other h = refl
four true true false v k l m n rest other h = refl
four true true true false k l m n rest other h = refl
four true true true true k l m n rest other h = ap first_no (h refl refl refl refl)

truth : (b : Bool) → b ≡ true → T b
truth true e = tt
truth false e = let z : ◌≡◌ {A = ℕ} 0 1 = cc in absurd (omega arith)

both : (a b : Bool) → a && b ≡ true → b ≡ true
both true b e = e
both false b e = let z : ◌≡◌ {A = ℕ} 0 1 = cc in absurd (omega arith)

module _ (b : BuildInput) (x : valid_order b.config.order ≡ true) (u : leb b.points 257 ≡ true) (v : valid_axes b.axes ≡ true) where
  pub few_cells : cells_of b ≤ most_cells
  unfolding cells_of valid_axes
  few_cells =
      let o : b.config.order + 1 ≤ 8 = by_order (λ n. n + 1 ≤ 8) (omega arith) (omega arith) (omega arith) b.config.order (truth _ x) in
      let p : b.points - 1 ≤ 256 = omega (arith, leb-true b.points 257 u) in
      let a : b.axes ≤ 8 = leb-true b.axes 8 (both (leb 1 b.axes) (leb b.axes 8) v) in
      omega (arith, mul-le-mul (mul-le-mul a p) o)

module _ (cells : ℕ) (h : most_cells ≤ cells) (b : BuildInput) where
  enough : build_number b (min cells (cells_of b)) ≡ build_number b (cells_of b)
  unfolding build_number build_questions
  enough =
      four (valid_order b.config.order) _ (leb b.points 257) (valid_axes b.axes) 302 304 2 300 _ _
      (λ x y u v. let f = few_cells b x u v in let e : min cells (cells_of b) ≡ cells_of b = omega arith in rw e)

  pub answer_enough : build_answer b (min cells (cells_of b)) ≡ build_answer b (cells_of b)
  unfolding build_answer
  answer_enough = rw enough

pub long_enough : LongEnough
unfolding LongEnough sheet_answer sheet_served answer_for
long_enough t cells h = go (judge t)
  where
    go : (j : Judged) → answer_for t j (λ b. min cells (cells_of b)) ≡ answer_for t j cells_of
    go (refused k place) = refl
    go (readable s) = rw (answer_enough cells h (sheet_input s))
