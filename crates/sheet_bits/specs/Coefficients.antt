-- A coefficient in a line of the output. Assumes nothing.
use Rattle.std.specs.Prelude.{List, ◌++◌, ℕ, Float}
use Rattle.std.specs.Float.{binary64}
use Rattle.std.specs.Float.Ieee.{to_bits}
use Rattle.rules.specs.Sheets.{bytes}
use Rattle.rules.specs.SheetAnswers.{hex}

-- J11: a coefficient, after a space
abbrev pub coefficient : Float → List ℕ
coefficient x = bytes " " ++ hex (to_bits binary64 x)
