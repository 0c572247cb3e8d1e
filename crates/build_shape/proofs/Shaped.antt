-- What a yes to the questions of counts says of them: `shaped`, and `limits` as a build's questions need it. What an answer to the first
-- three says of the answer to all, and of the product that the last asks about: `refused`, `behind`, `product`. Assumes nothing.
use mathlib.Core.Path.{◌≡◌, sym, subst}
use mathlib.Core.Bool.{true}
use mathlib.Core.List.{[], ◌∷◌}
use Prim.Native.Nat.{ℕ, ◌+◌, ◌*◌, ◌-◌, ◌≤◌}
use native.Mathlib.Nat.{mul-le-mul}
use native.Mathlib.Omega.{arith}
use lib.Dec.{T, eqb, leb, leb→le}
use lib.Ieee.Fits.{and_r}
use Rattle.std.specs.Prelude.{Result, Err}
use Rattle.rules.specs.declared.PathError.{PathError}
use Rattle.rules.specs.Build.{valid_order, valid_axes}
use Rattle.rules.specs.Questions.{ask, first_no, number_of, number_answered}
use Rattle.rules.specs.Master.{size_questions}
use Rattle.rules.proofs.Build.{by_order}
use Rattle.rules.proofs.Questions.{answer_at, said_yes}
use Rattle.questions.proofs.Asked.{no_decides, went_on}
use Rattle.questions.proofs.Sized.{sized}
use Rattle.build_shape.specs.Shape.{shape_questions}

pub record Shaped (order points axes : ℕ) : Type 0 where
  pub valid : T (valid_order order)
  pub least : 2 ≤ points
  pub most : points ≤ 257
  pub few : axes ≤ 8

pub shaped : (order points axes numbers : ℕ) → first_no (shape_questions order points axes numbers) ≡ 0 → Shaped order points axes
unfolding shape_questions size_questions valid_axes
shaped order points axes numbers e =
    let yes : (k : ℕ) → T (answer_at (shape_questions order points axes numbers) k) = said_yes (shape_questions order points axes numbers) tt e in
    record {
      valid = yes 0;
      least = leb→le 2 points (yes 1);
      most = leb→le points 257 (yes 2);
      few = leb→le axes 8 (and_r (leb 1 axes) (leb axes 8) (yes 3));
    }

-- the numbers are small, and so are their products
abbrev pub Limits : ℕ → ℕ → ℕ → Type 0
Limits order points axes =
    (2 ≤ points) × (points ≤ 257) × (axes ≤ 8) × (3 ≤ order) × (order ≤ 7) × (axes * (points - 1) ≤ 8 * 256)
    × (axes * (points - 1) * (order + 1) ≤ 8 * 256 * 8)

pub limits : (order points axes numbers : ℕ) → 0 ≡ first_no (shape_questions order points axes numbers) → Limits order points axes
limits order points axes numbers e =
    let s = shaped order points axes numbers (sym e) in
    let bounds : (3 ≤ order) × (order ≤ 7) =
    by_order (λ n. (3 ≤ n) × (n ≤ 7)) (omega arith, omega arith) (omega arith, omega arith) (omega arith, omega arith) order s.valid in
    let m = s.most in
    let cells : axes * (points - 1) ≤ 8 * 256 = mul-le-mul {m₂ = 256} s.few (omega arith) in
    let all : axes * (points - 1) * (order + 1) ≤ 8 * 256 * 8 = mul-le-mul {m₂ = 8} cells (omega arith) in
    (s.least, m, s.few, bounds.0, bounds.1, cells, all)

pub refused : (order points axes numbers : ℕ) (e : PathError) (r : Result (Unit {0}) PathError) → r ≡ Err e
    → number_of e ≡ first_no (size_questions order points) → number_answered r ≡ first_no (shape_questions order points axes numbers)
unfolding shape_questions
refused order points axes numbers e r is asked = no_decides e r (size_questions order points) _ is asked

pub behind : (order points axes numbers : ℕ) → 0 ≡ first_no (size_questions order points)
    → first_no (shape_questions order points axes numbers) ≡ first_no (ask (valid_axes axes) 300 ∷ ask (eqb numbers (axes * points)) 3 ∷ [])
unfolding shape_questions size_questions
behind order points axes numbers e = went_on (size_questions order points) _ tt e

pub product : (order points axes : ℕ) → 0 ≡ first_no (size_questions order points) → true ≡ valid_axes axes → axes * points ≤ 8 * 257
unfolding valid_axes
product order points axes e few = mul-le-mul (leb→le axes 8 (and_r (leb 1 axes) _ (subst T few tt))) (sized (sym e)).most

-- what the questions behind those of the size go by
pub ruleset by_size = (refused, behind, product)
