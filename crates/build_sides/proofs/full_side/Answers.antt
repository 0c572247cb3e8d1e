-- The two parts of the boundary numbers are the first node's and the last node's.
use Rattle.law_lists.proofs.Lent.{part_size, part_length}
use Rattle.std.proofs.Common.{arith}
use Rattle.build_sides.proofs.full_side.Goals as goal

pub invariant_of-parts : goal.invariant_of-parts
invariant_of-parts c =
    let a = c.args in
    let lent = c.requires.0 in
    record {
      some = lent.some;
      holds_r = lent.holds_r;
      holds_a = lent.holds_a;
      holds_c = lent.holds_c;
      first_length = part_length 0 a.m a.boundary.now (omega (arith, lent.ends));
      last_length = rw part_size (part_length a.m a.m a.boundary.now lent.ends);
    }

pub returns : goal.returns
returns c = rw part_size at c.inner_side.ensures
