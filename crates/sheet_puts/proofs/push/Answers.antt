-- `sheet_puts::push` meets its contract. Assumes nothing.
use native.Mathlib.Omega.{arith}
use mir.Facts.{to_z-of_z}
use Rattle.sheet_puts.proofs.Puts.{put_one, put_full}
use Rattle.sheet_puts.proofs.push.Goals as goal

pub returns-then-at-out : goal.returns-then-at-out
returns-then-at-out c = (omega arith, rw (to_z-of_z c.ranges.z) (put_one _ _ _ c.if-at-out.true))

pub returns : goal.returns
returns c = (omega arith, put_full _ _ _ c.if-at-out.false c.requires)
