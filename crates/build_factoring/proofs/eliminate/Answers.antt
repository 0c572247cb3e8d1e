-- A row more. Assumes nothing.
use Rattle.std.proofs.Common.{◌≡◌, [], ◌∙◌, ap, arith}
use lib.Ieee.{Float, of_bits}
use Rattle.rules.specs.Floats.{◌⊘◌, +1}
use Rattle.rules.proofs.Cells.{entry_read}
use Rattle.build_factoring.proofs.Elimination.{elimination_start, elimination_all}
use Rattle.build_factoring.proofs.eliminate.Goals as goal

pub loop-i-init : goal.loop-i-init
loop-i-init c = elimination_start _ _ _ _ c.requires.0 c.requires.1

pub loop-i-preserved : goal.loop-i-preserved
loop-i-preserved c = c.eliminate_row.ensures c.args.a.now c.requires.1 c.loop-i.invariant

pub returns : goal.returns
unfolding of_bits
returns c =
    let m = c.args.m in
    let k = c.args.k in
    let a = c.args.a.now in
    let full : c.loop-i.i ≡ m = omega arith in
    (rw full at c.loop-i.invariant)
    ∙ elimination_all m k _ (record { entries = a; rows = [] }) c.requires.1 (ap (λ (x : Float). +1 ⊘ x) (entry_read m a k k c.requires.1 c.requires.0 c.requires.0))
