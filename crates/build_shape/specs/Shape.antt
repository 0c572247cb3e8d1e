-- The questions before a build that are asked of counts alone; they are the first five of `build_questions` of crates/rules/specs/Build.antt. Assumes nothing.
use Rattle.std.specs.Prelude.{List, [], ◌∷◌, ◌++◌, ℕ, ◌*◌, eqb}
use Rattle.rules.specs.Questions.{Question, ask}
use Rattle.rules.specs.Build.{valid_axes}
use Rattle.rules.specs.Master.{size_questions}

unfoldable pub shape_questions : ℕ → ℕ → ℕ → ℕ → List Question
shape_questions order points axes numbers =
    size_questions order points
    ++ (ask (valid_axes axes) 300 ∷ ask (eqb numbers (axes * points)) 3 ∷ [])
