-- `sheet_table::build_read` meets its contract: what the build is given is what the sheet stands for, and of the buffer as many cells as the table
-- has, or all where it has fewer. Assumes nothing.
use mathlib.Core.Path.{ap, ◌∙◌}
use Prim.Native.Nat.{min}
use lib.ListN.{length}
use Rattle.sheet_columns.proofs.Read.{cells_are, input_is}
use Rattle.sheet_table.proofs.Room.{built_in}
use Rattle.sheet_table.proofs.build_read.Goals as goal

pub returns : goal.returns
returns c s read =
    built_in c.args.coeffs.now (c.input-input.ensures ∙ input_is s c.args.read read)
    (c.min-room.ensures ∙ ap (min (length c.args.coeffs.now)) (c.cells_of-cells.ensures ∙ cells_are s c.args.read read))
    c.from_waypoints_view.ensures
