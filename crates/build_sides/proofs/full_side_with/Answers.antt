-- The two ends' numbers, by the methods of the boundary numbers.
use Rattle.build_sides.proofs.Sides.{first_long, last_long}
use Rattle.build_sides.proofs.full_side_with.Goals as goal

pub invariant_of-parts : goal.invariant_of-parts
invariant_of-parts c =
    let ends = c.args.ends in
    let tables = ends.tables.now in
    record {
      some = tables.some;
      holds_r = tables.holds_r;
      holds_a = tables.holds_a;
      holds_c = tables.holds_c;
      first_length = rw c.first.ensures (first_long ends);
      last_length = rw c.last.ensures (last_long ends);
    }

pub returns : goal.returns
returns c = rw (c.first.ensures, c.last.ensures) at c.inner_side.ensures
