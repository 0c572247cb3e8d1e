-- Numbers written into a buffer, as many as it holds. Assumes nothing.
use Rattle.std.specs.Prelude.{ℕ, ◌+◌, ◌-◌, List, ◌++◌, ℤ, length, take, drop}

-- the buffer after xs is written at a place: what does not fit is left out, and what is past it stays
unfoldable pub put : List ℤ → ℕ → List ℤ → List ℤ
put out at xs = take (length out) (take at out ++ xs) ++ drop (at + length xs) out

-- the part of a buffer from a place to another
abbrev pub block : List ℤ → ℕ → ℕ → List ℤ
block out from to = take (to - from) (drop from out)
