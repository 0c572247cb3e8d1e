-- The record of a refusal is all zero: the float 0.0 is the number +0. Assumes nothing.
use Rattle.std.proofs.Common.{refl}
use lib.Ieee.{of_bits}
use Rattle.rules.specs.Build.{refused_record}
use Rattle.tezvorup_records.proofs.no_path.Goals as goal

pub returns : goal.returns
unfolding refused_record of_bits
returns c = refl
