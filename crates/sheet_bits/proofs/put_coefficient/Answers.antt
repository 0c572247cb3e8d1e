-- `sheet_bits::put_coefficient` meets its contract. Assumes nothing.
use mathlib.Core.Path.{refl, ap, ◌∙◌}
use native.Mathlib.Omega.{arith}
use lib.Ieee.{binary64, to_bits}
use Rattle.rules.specs.SheetAnswers.{hex}
use Rattle.sheet_bits.proofs.Hex.{length_hex}
use Rattle.sheet_bits.proofs.Writing.{wrote_both, wrote_lent}
use Rattle.sheet_bits.proofs.put_coefficient.Goals as goal

pub returns : goal.returns
returns c =
    let bits = to_bits binary64 c.args.x in
    wrote_both c.put_bytes.ensures
    (wrote_lent (hex bits) (c.write_hex.ensures ∙ ap hex c.bits_of.ensures) (omega arith) refl (omega (arith, length_hex bits)) refl)
