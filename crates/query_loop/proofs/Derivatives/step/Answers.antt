-- At each level the numbers of a step are the loop's own. Assumes nothing.
use Rattle.std.proofs.Common.{◌≡◌, List, ◌∷◌, ◌∙◌, Float}
use lib.Ieee.{of_bits, of_int}
use Rattle.rules.specs.Floats.{◌⊕◌, ◌⊗◌, of_count}
use Rattle.rules.specs.Query.{general_loop, loop_derivative}
use Rattle.query_levels.specs.declared.Level.{Level}
use Rattle.query_levels.specs.declared.Level.TheVariants.{Positions, UpToSecond, UpToThird}
use Rattle.query_levels.specs.Levels.{level_number}
use Rattle.query_loop.specs.declared.Derivatives.{Derivatives}
use Rattle.query_loop.specs.Level.{asked, derivative_of}
use Rattle.query_loop.proofs.Derivatives.step.Goals as goal

next : Derivatives → Float → Float → Derivatives
next b t a =
    record { q = b.q ⊗ t ⊕ a; dq = b.dq ⊗ t ⊕ b.q; ddq = b.ddq ⊗ t ⊕ of_count 2 ⊗ b.dq; dddq = b.dddq ⊗ t ⊕ of_count 3 ⊗ b.ddq }

next-is : (level : Level) (b : Derivatives) (t a y : Float) (rest : List Float)
    → b ≡ asked (level_number level) (loop_derivative (general_loop t (y ∷ rest)))
    → asked (level_number level) (derivative_of (next b t a)) ≡ asked (level_number level) (loop_derivative (general_loop t (a ∷ (y ∷ rest))))
unfolding next general_loop loop_derivative
next-is Positions b t a y rest e = rw e
next-is UpToSecond b t a y rest e = rw e
next-is UpToThird b t a y rest e = rw e

pub returns : goal.returns
unfolding of_bits of_int next
returns c y rest e = c.up_to.ensures ∙ next-is c.args.level _ _ _ y rest e
