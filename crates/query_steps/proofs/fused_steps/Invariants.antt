-- The steps of all terms are those of the terms that are left, and of what is found after them. Assumes nothing.
use Rattle.std.proofs.Common.{◌≡◌, ◌++◌, ◌∷◌, []}
use Rattle.rules.specs.Query.{fused_steps}
use Rattle.query_steps.proofs.fused_steps.Given as goal

abbrev pub invariant-loop-term : goal.invariant-loop-term
invariant-loop-term g l = fused_steps l.t l.fn.terms ≡ fused_steps l.t (l.term-iterator.iter.rest.now ++ (l.found ∷ []))
