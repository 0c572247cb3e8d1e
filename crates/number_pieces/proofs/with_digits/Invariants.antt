-- Going on from each byte is going on from the first. Assumes nothing.
use Rattle.std.proofs.Common.{◌≡◌, true, drop}
use Rattle.rules.specs.SheetNumbers.{in_digits, sound, go_on}
use Rattle.number_pieces.proofs.with_digits.Given as goal

abbrev pub invariant-loop-b : goal.invariant-loop-b
invariant-loop-b l =
    (l.kept.stage ≡ in_digits)
    × (sound l.kept ≡ true)
    × (go_on l.kept (drop l.b-index l.bytes) ≡ go_on l.fn.reading l.bytes)
