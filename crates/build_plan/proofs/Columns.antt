-- A state that has numbers for m columns has them for fewer. Assumes nothing.
use borrow.Author.Rules.{rules}
use Rattle.std.proofs.Common.{ℕ, ◌≤◌, Option, Some, None}
use native.Mathlib.Nat.{le_trans, mul-le-mul_right}
use Rattle.rules.specs.declared.BoundaryState.{BoundaryState}
use Rattle.build_plan.specs.declared.states.EndState.{EndState}
use Rattle.build_plan.specs.Given.{numbers_taken, HasNumbers}

taken_fewer : (axes k m : ℕ) (state : Option BoundaryState) → k ≤ m → numbers_taken axes k state ≤ numbers_taken axes m state
taken_fewer axes k m None h = search rules
taken_fewer axes k m (Some state) h = mul-le-mul_right axes h

pub fewer : (axes k m : ℕ) (end : EndState) → k ≤ m → HasNumbers axes m end → HasNumbers axes k end
fewer axes k m end h numbers = le_trans (taken_fewer axes k m end.state h) numbers
