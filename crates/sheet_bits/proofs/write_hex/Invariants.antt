-- The first digits are there. Assumes nothing.
use mathlib.Core.Path.{◌≡◌}
use Rattle.law_lists.proofs.Filling.{filled}
use Rattle.sheet_bits.proofs.Hex.{hex_place}
use Rattle.sheet_bits.proofs.write_hex.Given as goal

abbrev pub invariant-loop-j : goal.invariant-loop-j
invariant-loop-j l = l.places ≡ filled l.j (hex_place l.bits) l.initial.places
