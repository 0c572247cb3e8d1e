-- antt computes both sides of each table. Assumes nothing.
use Rattle.std.proofs.Common.{refl, arith}
use lib.Ieee.{neg, of_bits, of_int}
use Rattle.law_lists.specs.Lists.{joined, listed}
use Rattle.rules.specs.Tables.{m1, m2, m3, for_order}
use Rattle.rules.specs.Solve.{matrix}
use Rattle.build_products.specs.Columns.{transposed}
use Rattle.build_tables.proofs.for_order.Goals as goal
use Rattle.build_tables.proofs.for_order.Goals.{in-1, in-2, in_default}

pub invariant_of-result : goal.invariant_of-result
unfolding neg of_bits of_int joined listed for_order m1 m2 m3 matrix transposed
invariant_of-result c =
    elim c.match-m.branch [
      | in-1 w ↦ rw w.result-is (record {
        some = omega arith;
        few = omega arith;
        holds_a = record { is = refl; sized = refl };
        holds_b = record { is = refl; sized = refl };
        holds_c = record { is = refl; sized = refl };
        holds_r = record { is = refl; sized = refl };
        holds_h = record { is = refl; sized = refl };
      })
      | in-2 w ↦ rw w.result-is (record {
        some = omega arith;
        few = omega arith;
        holds_a = record { is = refl; sized = refl };
        holds_b = record { is = refl; sized = refl };
        holds_c = record { is = refl; sized = refl };
        holds_r = record { is = refl; sized = refl };
        holds_h = record { is = refl; sized = refl };
      })
      | in_default w ↦ rw w.result-is (record {
        some = omega arith;
        few = omega arith;
        holds_a = record { is = refl; sized = refl };
        holds_b = record { is = refl; sized = refl };
        holds_c = record { is = refl; sized = refl };
        holds_r = record { is = refl; sized = refl };
        holds_h = record { is = refl; sized = refl };
      })
    ]
