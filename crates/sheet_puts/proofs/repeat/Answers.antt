-- `sheet_puts::repeat` meets its contract: the block is laid on place by place. Assumes nothing.
use mathlib.Core.Path.{◌∙◌}
use native.Mathlib.Omega.{arith}
use borrow.Author.Rules.{rules}
use mir.Facts.{to_z-of_z}
use mir.Syntax.{w64}
use Rattle.sheet_puts.proofs.Puts.{filled_start, filled_loop, filled_end, end_inside}
use Rattle.sheet_puts.proofs.repeat.Goals as goal

pub loop-j-init : goal.loop-j-init
loop-j-init c = filled_start _ _ _ _ c.requires.0 c.requires.1 c.requires.2

pub loop-j-preserved : goal.loop-j-preserved
loop-j-preserved c =
    let a = c.args in
    filled_loop a.out.now a.at a.end a.n c.requires.0 c.requires.1 c.requires.2 c.loop-j.j c.loop-j.auto.j (omega arith) (omega arith) _ c.loop-j.invariant _ (to_z-of_z {w = w64} (search rules))

pub returns : goal.returns
returns c =
    let a = c.args in (
      c.min-stop.ensures,
      c.loop-j.invariant ∙ filled_end a.out.now a.at a.end a.n c.requires.0 c.requires.1 c.requires.2 c.loop-j.j
          (omega (arith, c.min-stop.ensures, end_inside a.out.now a.at a.end a.n c.requires.0 c.requires.1 c.requires.2)),
    )
