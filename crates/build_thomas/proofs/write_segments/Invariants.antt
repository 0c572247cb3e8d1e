-- The chunk has the first i segments, and its own cells from there on.
use Rattle.std.proofs.Common.{◌+◌, ◌*◌}
use Rattle.law_lists.proofs.PartedList.{Parted}
use Rattle.build_thomas.specs.Row.{segment_of}
use Rattle.build_thomas.proofs.write_segments.Given as goal

abbrev pub invariant-loop-i : goal.invariant-loop-i
invariant-loop-i l = Parted (2 * l.axis.nodes.now.tables.now.m + 2) l.i (segment_of l.axis l.solved) l.initial.chunk l.chunk
