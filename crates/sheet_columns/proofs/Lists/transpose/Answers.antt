-- `Lists::transpose` meets its contract. Assumes nothing.
use mathlib.Core.Path.{◌≡◌}
use Prim.Native.Nat.{◌+◌, ◌*◌, ◌≤◌}
use native.Mathlib.Omega.{arith}
use Rattle.law_lists.proofs.Lists.{length-listed, part_inside}
use Rattle.law_lists.proofs.PartedList.{none, step}
use Rattle.law_lists.proofs.Places.{next_part}
use Rattle.sheet_columns.specs.Columns.{columns_at}
use Rattle.sheet_columns.proofs.Lists.transpose.Goals as goal

pub loop-k-init : goal.loop-k-init
loop-k-init c = none _ _ _ (λ j. length-listed _ _)

pub loop-k-preserved : goal.loop-k-preserved
loop-k-preserved c =
    let lists = c.args.self.now in
    let k = c.loop-k.k in
    let inside : k * lists.rows + lists.rows ≤ lists.columns * lists.rows = part_inside lists.rows c.loop-k-test.true in
    step c.loop-k.invariant c.column.ensures (omega (arith, inside, next_part lists.rows k, c.requires))

pub returns : goal.returns
unfolding columns_at
returns c = let all : c.loop-k.k ≡ c.args.self.now.columns = omega arith in rw all at c.loop-k.invariant.is
