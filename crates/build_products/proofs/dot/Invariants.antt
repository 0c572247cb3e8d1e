-- The loop's invariant: total is the sum of the products so far, and place is that of the last of them. Assumes nothing.
use Rattle.std.proofs.Common.{◌≡◌, ◌+◌, ◌*◌}
use Rattle.rules.specs.Floats.{◌⊗◌, ◌!◌, sum_of}
use Rattle.build_products.proofs.dot.Given as goal

abbrev pub invariant-loop-x : goal.invariant-loop-x
invariant-loop-x l =
    (l.place ≡ l.at + l.x-index * l.step) × (l.total ≡ sum_of (l.x-index + 1) (λ j. l.a ! (l.at + j * l.step) ⊗ l.v ! j))
