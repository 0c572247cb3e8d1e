-- What a bit pattern's fields count. Assumes nothing.
use Rattle.std.specs.Prelude.{ℕ, zero, suc, ◌+◌, ◌*◌, ◌^◌}
use Rattle.std.specs.Float.{Format}
use Rattle.std.specs.Float.Ieee.{hid}

-- The magnitude of a finite value in units of the format's smallest one, from the exponent's field and the digits below the leading one: IEEE 754's
-- reading of the two fields. A field of 0 has no leading digit, and counts as a field of 1.
unfoldable pub weight : Format → ℕ → ℕ → ℕ
weight f zero t = t
weight f (suc x) t = (hid f + t) * 2 ^ x
