-- Numbers on a sheet, by document 02's Wish 4: what the routine answers for the bytes from a place on, and what is kept of a number whose bytes come in
-- pieces. That both are one, wherever the bytes are cut, is proved: crates/theorem_numbers. Assumes nothing.
use Rattle.std.specs.Prelude.{Bool, true, false, cond, ◌&&◌, List, [], ◌∷◌, ℕ, ◌+◌, ◌*◌, ◌-◌, ◌%◌, ◌^◌, ℤ, pos, neg_ℤ, length, drop, get_or, leb, eqb}
use Rattle.rules.specs.declared.NumberReading.{NumberReading}
use Rattle.rules.specs.declared.NumberAnswer.{NumberAnswer}
use Rattle.rules.specs.Sheets.{within}
use Rattle.rules.specs.SheetReading.{is_digit, is_first}

-- ---- what is answered

-- a number of this worth, and the place after it
abbrev pub read_as : ℤ → ℕ → NumberAnswer
read_as value next = record { number = 0; at = next; value = value }

-- a refusal, and its place
abbrev pub refused_at : ℕ → ℕ → NumberAnswer
refused_at number place = record { number = number; at = place; value = pos 0 }

-- ---- the whole at once

-- the digits up to the first byte that is none
unfoldable pub run : List ℕ → List ℕ
run [] = []
run (b ∷ t) = cond (is_digit b) (b ∷ run t) []

-- the worth of n and some digits behind it
unfoldable pub worth : ℕ → List ℕ → ℕ
worth n [] = n
worth n (b ∷ ds) = worth (n * 10 + (b - 48)) ds

abbrev pub signed_by : Bool → ℕ → ℤ
signed_by minus n = cond minus (neg_ℤ (pos n)) (pos n)

-- N1: "digits up to the first byte that is none: beyond 2^40 fault 4 at p, otherwise end and worth", where the digits begin at q
unfoldable pub sized_at : Bool → ℕ → ℕ → List ℕ → NumberAnswer
sized_at minus p q t =
    let ds = run t in
    cond (within (worth 0 ds)) (read_as (signed_by minus (worth 0 ds)) (q + length ds)) (refused_at 4 p)

-- N1: the answer at p for the bytes t from p on: "t[p] neither minus nor digit, or p the length: fault 600 at p. A minus that no 1 to 9 follows: 600 at
-- p + 1. A 0: read, it ends at p + 1." A byte that is not there counts as 0, which is none of these.
unfoldable pub number_at : ℕ → List ℕ → NumberAnswer
number_at p t =
    let b = get_or t 0 0 in
    cond (eqb b 45) (cond (is_first (get_or t 1 0)) (sized_at true p (p + 1) (drop 1 t)) (refused_at 600 (p + 1)))
    (cond (eqb b 48) (read_as (pos 0) (p + 1))
    (cond (is_first b) (sized_at false p p t) (refused_at 600 p)))

-- ---- in pieces

-- N2: how far a reading is, as a number. A fault is 600 at the next place, or 4 where it began.
abbrev pub fresh : ℕ
fresh = 0

abbrev pub minus_passed : ℕ
minus_passed = 1

abbrev pub after_zero : ℕ
after_zero = 2

abbrev pub in_digits : ℕ
in_digits = 3

abbrev pub ended : ℕ
ended = 4

abbrev pub faulted : ℕ
faulted = 5

abbrev pub too_large : ℕ
too_large = 6

-- N2: at a place, before the first byte
abbrev pub begun : ℕ → NumberReading
begun at = record { start = at; next = at; size = 0; stage = fresh; minus = 0 }

-- a place on; places are counted modulo 2^64
abbrev pub onward : ℕ → ℕ
onward place = (place + 1) % 2 ^ 64

-- N7, N8: sign and size as a reading can have made them
unfoldable pub sound : NumberReading → Bool
sound r = leb r.minus 1 && within r.size

-- N6, N7: another byte changes a record: it is neither ended nor faulted, and a reading can have made it
unfoldable pub is_open : NumberReading → Bool
is_open r = leb r.stage in_digits && sound r

-- a byte that is not part of the number: another stage, at the same place
abbrev pub left : NumberReading → ℕ → NumberReading
left r stage = record { start = r.start; next = r.next; size = r.size; stage = stage; minus = r.minus }

-- a minus or a 0: another stage, one place on
abbrev pub passed : NumberReading → ℕ → ℕ → NumberReading
passed r stage minus = record { start = r.start; next = onward r.next; size = r.size; stage = stage; minus = minus }

-- a digit: in the digits, which are worth n now, one place on
abbrev pub grown : NumberReading → ℕ → NumberReading
grown r n = record { start = r.start; next = onward r.next; size = n; stage = in_digits; minus = r.minus }

-- N1: a digit of this worth behind those before it: "beyond 2^40 fault 4 at p"
unfoldable pub with_digit : NumberReading → ℕ → NumberReading
with_digit r d = cond (within (r.size * 10 + d)) (grown r (r.size * 10 + d)) (left r too_large)

-- a digit that belongs to the number: 1 to 9 as its first, and none after a 0
abbrev pub belongs : ℕ → ℕ → Bool
belongs stage b = cond (eqb stage in_digits) (is_digit b) (leb stage minus_passed && is_first b)

-- N1, N2: what the next byte makes of an open record
unfoldable pub taken : NumberReading → ℕ → NumberReading
taken r b =
    cond (belongs r.stage b) (with_digit r (b - 48))
    (cond (eqb r.stage fresh && eqb b 45) (passed r minus_passed 1)
    (cond (eqb r.stage fresh && eqb b 48) (passed r after_zero r.minus)
    (cond (leb r.stage minus_passed) (left r faulted) (left r ended))))

-- N2, N3, N6: going on with some bytes: one after the other, as long as the record is open
unfoldable pub go_on : NumberReading → List ℕ → NumberReading
go_on r [] = r
go_on r (b ∷ bs) = go_on (cond (is_open r) (taken r b) r) bs

-- N4: any number of pieces
unfoldable pub go_on_all : NumberReading → List (List ℕ) → NumberReading
go_on_all r [] = r
go_on_all r (bs ∷ pieces) = go_on_all (go_on r bs) pieces

-- a number was read: of stage zero, digits or ended
abbrev pub is_read : ℕ → Bool
is_read stage = leb after_zero stage && leb stage ended

-- N2, N5, N7: what a record says if nothing more comes. One that no reading can have made says 600 at its place.
unfoldable pub finished : NumberReading → NumberAnswer
finished r =
    cond (sound r && is_read r.stage) (read_as (signed_by (eqb r.minus 1) r.size) r.next)
    (cond (sound r && eqb r.stage too_large) (refused_at 4 r.start) (refused_at 600 r.next))
