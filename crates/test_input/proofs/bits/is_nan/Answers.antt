-- Assumes nothing.
use Rattle.std.proofs.Common.{sym}
use lib.Ieee.{binary64}
use lib.Ieee.Bits.{nan_bits_above}
use Rattle.test_input.proofs.bits.is_nan.Goals as goal

pub returns : goal.returns
returns c = sym (nan_bits_above binary64 c.args.bits)
