-- The loop's invariant: v has the differences below i, and its own cells from i on. Assumes nothing.
use Rattle.rules.specs.Floats.{◌⊖◌, ◌!◌}
use Rattle.rules.specs.Solve.{times}
use Rattle.rules.proofs.FilledList.{Filled}
use Rattle.build_products.specs.Columns.{transposed}
use Rattle.build_products.proofs.subtract_product.Given as goal

abbrev pub invariant-loop-i : goal.invariant-loop-i
invariant-loop-i l = Filled l.i (λ j. l.fn.v ! j ⊖ times l.m (transposed l.m l.a) l.u ! j) l.fn.v l.v
