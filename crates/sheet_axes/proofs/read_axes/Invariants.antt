-- The buffers are as long as they were, and the axes so far are read. Assumes nothing.
use Rattle.std.proofs.Common.{◌≡◌, length}
use Rattle.sheet_axes.proofs.Axes.{Sofar, IsCounted, counted_in}
use Rattle.sheet_axes.proofs.read_axes.Given as goal

abbrev pub invariant-loop-k : goal.invariant-loop-k
invariant-loop-k l =
    let from = l.fn.cursor in
    record {
      same : l.cursor.text.now ≡ from.text.now;
      points_long : length l.points ≡ 2064;
      start_long : length l.start ≡ 32;
      end_long : length l.end ≡ 32;
      counted : IsCounted l.sofar l.k;
      sofar : Sofar from.text.now from.at l.k l.cursor.at (counted_in l.sofar) l.points l.start l.end;
    }
