-- Node i's part comes back with its numbers, and solved C, kept by columns, is the definition's, at the place of the first node that has the same.
use Rattle.std.proofs.Common.{◌*◌}
use Rattle.law_lists.proofs.Places.{next_part}
use Rattle.build_products.proofs.Transposed.{transposed_twice}
use Rattle.build_sweeps.proofs.AllNodes.{solved_part}
use Rattle.build_sweeps.proofs.Back.{own_part, own_back, length-solved_c}
use Rattle.build_sweeps.proofs.NodeMatrices.back_step.Goals as goal

pub returns : goal.returns
returns c =
    let self = c.args.self.now in
    let m = self.tables.now.m in
    let i = c.args.i in
    let xs = c.args.solved.now in
    let two = c.split_at_mut-own.ensures in
    rw (
      two.back,
      own_back (i * m) m xs two.front two.front_len,
      c.subtract_product.ensures,
      own_part (i * m) m xs two.front two.front_len,
      solved_part c.requires.0 c.settled.ensures self.solved,
      transposed_twice m _ (length-solved_c m i),
      next_part,
      two.back,
    )
