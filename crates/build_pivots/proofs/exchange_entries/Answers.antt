-- A column more. Assumes nothing.
use Rattle.std.proofs.Common.{◌≡◌, ◌∙◌, arith}
use Rattle.build_pivots.proofs.Exchange.{exchange_none, exchange_all, exchange_step}
use Rattle.build_pivots.proofs.exchange_entries.Goals as goal

pub loop-j-init : goal.loop-j-init
loop-j-init c = exchange_none _ _ _ _ c.requires.2

pub loop-j-preserved : goal.loop-j-preserved
loop-j-preserved c =
    exchange_step _ c.args.a.now c.args.k c.args.p _ _ _ (omega arith) c.requires.0 c.requires.1 (omega arith) c.loop-j.invariant
    c.swap.ensures.len c.swap.ensures.by_index

pub returns : goal.returns
returns c =
    let e : c.loop-j.j ≡ c.args.m = omega arith in
    (rw e at c.loop-j.invariant) ∙ exchange_all _ c.args.a.now c.args.k c.args.p
