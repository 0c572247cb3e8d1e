-- Numbers in pieces, Wish 4 of document 02: "it can stop after any byte: what it keeps is one record of fixed size, and going on from that with only the
-- bytes after the cut gives the result of the whole". Each holds for all records, those included that no reading makes, for all bytes and all cuts; what
-- speaks of places is for those that do not pass 2^64. Proved in proofs/Pieces.antt. Assumes nothing.
use Rattle.std.specs.Prelude.{◌≡◌, ◌⊎◌, Bool, true, false, ◌&&◌, ℕ, ◌+◌, ◌-◌, ◌*◌, ◌^◌, ◌≤◌, ◌<◌, ℤ, length}
use mathlib.Core.List.{List, [], ◌∷◌, ◌++◌, flatten}
use Rattle.rules.specs.declared.NumberReading.{NumberReading}
use Rattle.rules.specs.declared.NumberAnswer.{NumberAnswer}
use Rattle.rules.specs.Sheets.{within}
use Rattle.rules.specs.SheetReading as reading
use Rattle.rules.specs.SheetNumbers.{read_as, refused_at, number_at, in_digits, ended, too_large, begun, sound, is_open, go_on, go_on_all, finished}

-- N3: "going on with nothing changes nothing"
unfoldable pub NothingChangesNothing : Type 0
NothingChangesNothing = (r : NumberReading) → go_on r [] ≡ r

-- N4: "going on with a and then b is going on with a ++ b"; and so with any number of pieces
unfoldable pub PiecesAreOne : Type 0
PiecesAreOne =
    ((r : NumberReading) (a b : List ℕ) → go_on (go_on r a) b ≡ go_on r (a ++ b))
    × ((r : NumberReading) (pieces : List (List ℕ)) → go_on_all r pieces ≡ go_on r (flatten pieces))

-- N5: "what a fresh record, gone on with the rest of the text, says at the end is the whole routine's result"; and so in any number of pieces. The bytes
-- from p on are all that is read of a text, and "places are of the whole text".
unfoldable pub PiecesSayTheWhole : Type 0
PiecesSayTheWhole =
    (p : ℕ) (pieces : List (List ℕ)) → p + length (flatten pieces) < 2 ^ 64 → finished (go_on_all (begun p) pieces) ≡ number_at p (flatten pieces)

-- the answer of a reading of bytes that end at a place: the judge tells what is left of them
abbrev pub placed : ℕ → reading.Read ℤ → NumberAnswer
placed end (reading.got z rest) = read_as z (end - length rest)
placed end (reading.stop k rest) = refused_at k (end - length rest)

-- N1: "with the same result, the place of a fault included": it is the number of the judge, which the grammar has
unfoldable pub JudgedAlike : Type 0
JudgedAlike = (p : ℕ) (t : List ℕ) → number_at p t ≡ placed (p + length t) (reading.number within t)

-- N6: "once ended or faulted, more bytes change nothing"
unfoldable pub OverIsOver : Type 0
OverIsOver = (r : NumberReading) (t : List ℕ) → ended ≤ r.stage → go_on r t ≡ r

-- N7: a record that no reading makes, by its sign, its size or its stage, stays as it is too, and says 600 at its place
unfoldable pub ForgedAreOver : Type 0
ForgedAreOver =
    (r : NumberReading) → (sound r ≡ false) ⊎ (too_large < r.stage)
    → ((t : List ℕ) → go_on r t ≡ r) × (finished r ≡ refused_at 600 r.next)

-- N8: however many digits come, the size of what began at a place is within 2^40; and what a reading can have made stays such
unfoldable pub SizesStayWithin : Type 0
SizesStayWithin =
    ((p : ℕ) (t : List ℕ) → (go_on (begun p) t).size ≤ 2 ^ 40)
    × ((r : NumberReading) (t : List ℕ) → sound r ≡ true → sound (go_on r t) ≡ true)

-- ---- what the code goes by

-- one more digit behind others that are worth so much
abbrev pub is_more : ℕ → ℕ → Bool
is_more n b = reading.is_digit b && within (n * 10 + (b - 48))

-- a record that takes none of these bytes unless it is in its digits
unfoldable pub Settled : NumberReading → List ℕ → Type 0
Settled r t = (t ≡ []) ⊎ (is_open r ≡ true → r.stage ≡ in_digits)

-- a number is in its digits, or over, after two bytes
unfoldable pub TwoBytesSettle : Type 0
TwoBytesSettle = (r : NumberReading) (a b : ℕ) (t : List ℕ) → Settled (go_on r (a ∷ b ∷ [])) t
