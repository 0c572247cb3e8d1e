-- `sheet_bits::write_hex` meets its contract. Assumes nothing.
use native.Mathlib.Omega.{arith}
use Rattle.sheet_bits.proofs.Hex.{no_digit, digit_set, digits_all}
use Rattle.sheet_bits.proofs.write_hex.Goals as goal

pub loop-j-init : goal.loop-j-init
loop-j-init c = no_digit _ _

pub loop-j-preserved : goal.loop-j-preserved
loop-j-preserved c = digit_set _ _ _ c.requires (omega arith) c.hex_digit.ensures c.loop-j.invariant

pub returns : goal.returns
returns c = digits_all _ _ _ c.requires (omega arith) (omega arith) c.loop-j.invariant
