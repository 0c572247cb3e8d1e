-- Wherever the bytes are cut, the answer is that of the whole. Assumes nothing.
use mathlib.Core.Path.{◌≡◌, refl, sym, ap, ◌∙◌}
use mathlib.Core.Logic.{inl, inr}
use mathlib.Core.Bool.{Bool, true, false, cond, ◌&&◌, and-false}
use mathlib.Core.List.{List, [], ◌∷◌, ◌++◌, flatten}
use Prim.Native.Nat.{ℕ, ◌+◌, ◌*◌, ◌-◌, ◌^◌, ◌<◌, ◌≤◌}
use native.Mathlib.Omega.{arith}
use lib.Dec.{leb, eqb}
use lib.ListN.{length}
use borrow.Author.Tests.{eqb-true, leb-true, lt-leb, ne_eqb}
use Rattle.rules.specs.declared.NumberReading.{NumberReading}
use Rattle.rules.specs.Sheets.{within}
use Rattle.rules.specs.SheetReading as reading
use Rattle.rules.specs.SheetNumbers.{
  number_at,
  fresh,
  minus_passed,
  after_zero,
  in_digits,
  ended,
  faulted,
  too_large,
  begun,
  grown,
  belongs,
  sound,
  is_open,
  left,
  passed,
  with_digit,
  taken,
  go_on,
  go_on_all,
  finished,
}
use Rattle.theorem_numbers.specs.Pieces.{NothingChangesNothing, PiecesAreOne, PiecesSayTheWhole, JudgedAlike, OverIsOver, ForgedAreOver}
use Rattle.theorem_numbers.specs.Pieces.{SizesStayWithin, is_more, Settled, TwoBytesSettle}
use Rattle.theorem_numbers.proofs.Going.{stays, is_over, more, says_nothing, fresh_go}
use Rattle.theorem_numbers.proofs.Judged.{judged_alike}

pub nothing_changes_nothing : NothingChangesNothing
unfolding NothingChangesNothing go_on
nothing_changes_nothing r = refl

again : (r : NumberReading) (a b : List ℕ) → go_on (go_on r a) b ≡ go_on r (a ++ b)
unfolding go_on
again r [] b = refl
again r (x ∷ a) b = again (cond (is_open r) (taken r x) r) a b

all_again : (r : NumberReading) (pieces : List (List ℕ)) → go_on_all r pieces ≡ go_on r (flatten pieces)
unfolding go_on_all go_on flatten
all_again r [] = refl
all_again r (a ∷ pieces) = all_again (go_on r a) pieces ∙ again r a (flatten pieces)

pub pieces_are_one : PiecesAreOne
unfolding PiecesAreOne
pieces_are_one = (again, all_again)

-- in one piece
pub whole_says : (p : ℕ) (t : List ℕ) → p + length t < 2 ^ 64 → finished (go_on (begun p) t) ≡ number_at p t
unfolding JudgedAlike
whole_says p t h = fresh_go p t h ∙ sym (judged_alike p t)

pub pieces_say_the_whole : PiecesSayTheWhole
unfolding PiecesSayTheWhole
pieces_say_the_whole p pieces h = ap finished (all_again (begun p) pieces) ∙ whole_says p (flatten pieces) h

pub unsound_is_over : (r : NumberReading) → sound r ≡ false → is_open r ≡ false
unfolding is_open
unsound_is_over r e = rw (e, and-false)

pub over_is_over : OverIsOver
unfolding OverIsOver
over_is_over r t h = stays r t (is_over r h)

pub forged_are_over : ForgedAreOver
unfolding ForgedAreOver finished
forged_are_over r (inl e) = (λ t. stays r t (unsound_is_over r e), rw e)
forged_are_over r (inr h) = (
  λ t. stays r t (is_over r (omega arith)),
  says_nothing r (rw (lt-leb r.stage ended (omega arith), and-false)) (ne_eqb r.stage too_large (λ e. omega arith)),
)

-- ---- what a byte can make of a record

both_true : (x y : Bool) → (x && y) ≡ true → (x ≡ true) × (y ≡ true)
both_true true y e = (refl, e)
both_true false y e = let z : ◌≡◌ {A = ℕ} 0 1 = cc in absurd (omega arith)

-- a property of whichever of two records is taken
either : (P : NumberReading → Type 0) (c : Bool) (x y : NumberReading) → (c ≡ true → P x) → P y → P (cond c x y)
either P true x y h k = h refl
either P false x y h k = k

module _ (r : NumberReading) where
  -- P holds of what a byte makes of r, if it holds of each thing that it can make of r
  taken_has : (P : NumberReading → Type 0) (b : ℕ) → ((d : ℕ) → P (with_digit r d)) → (r.stage ≡ fresh → P (passed r minus_passed 1))
      → (r.stage ≡ fresh → P (passed r after_zero r.minus)) → P (left r faulted) → P (left r ended) → P (taken r b)
  unfolding taken
  taken_has P b digit minus zero fault end =
      either P (belongs r.stage b) (with_digit r (b - 48)) _ (λ e. digit (b - 48))
      (either P (eqb r.stage fresh && eqb b 45) (passed r minus_passed 1) _ (λ e. minus (first 45 e))
      (either P (eqb r.stage fresh && eqb b 48) (passed r after_zero r.minus) _ (λ e. zero (first 48 e))
      (either P (leb r.stage minus_passed) (left r faulted) (left r ended) (λ e. fault) end)))
    where
      first : (c : ℕ) → (eqb r.stage fresh && eqb b c) ≡ true → r.stage ≡ fresh
      first c e = eqb-true r.stage fresh (both_true (eqb r.stage fresh) (eqb b c) e).0

  digit_has : (P : NumberReading → Type 0) (d : ℕ) → (within (r.size * 10 + d) ≡ true → P (grown r (r.size * 10 + d))) → P (left r too_large)
      → P (with_digit r d)
  unfolding with_digit
  digit_has P d more large = either P (within (r.size * 10 + d)) (grown r (r.size * 10 + d)) (left r too_large) more large

  -- sign and size stay such as a reading can have made
  pub taken_sound : (b : ℕ) → sound r ≡ true → sound (taken r b) ≡ true
  unfolding sound
  taken_sound b h =
      taken_has (λ x. sound x ≡ true) b
      (λ d. digit_has (λ x. sound x ≡ true) d (λ e. rw (both_true (leb r.minus 1) (within r.size) h).0 e) h)
      (λ e. (both_true (leb r.minus 1) (within r.size) h).1) (λ e. h) h h

-- a stage later than fresh, and after such a one the digits or the end
record Later (r x : NumberReading) : Type 0 where
  some : 1 ≤ x.stage
  more : 1 ≤ r.stage → in_digits ≤ x.stage

later : (r : NumberReading) (b : ℕ) → Later r (taken r b)
later r b =
    taken_has r (Later r) b
    (λ d. digit_has r (Later r) d (λ e. record { some = omega arith; more = λ h. omega arith }) (record { some = omega arith; more = λ h. omega arith }))
    (λ e. record { some = omega arith; more = λ h. omega arith })
    (λ e. record { some = omega arith; more = λ h. omega arith })
    (record { some = omega arith; more = λ h. omega arith })
    (record { some = omega arith; more = λ h. omega arith })

-- in the digits, a byte is one more of them or the end
module _ (r : NumberReading) (b : ℕ) (e : r.stage ≡ in_digits) where
  taken_is : taken r b ≡ cond (reading.is_digit b) (with_digit r (b - 48)) (left r ended)
  unfolding taken
  taken_is = rw e

  pub digits_more : is_more r.size b ≡ true → (taken r b).stage ≡ in_digits
  unfolding with_digit
  digits_more h = let (i, j) = both_true (reading.is_digit b) (within (r.size * 10 + (b - 48))) h in rw (taken_is, i, j) refl

  pub digits_over : is_more r.size b ≡ false → is_open (taken r b) ≡ false
  unfolding with_digit
  digits_over h = go (reading.is_digit b) refl h
    where
      go : (d : Bool) → reading.is_digit b ≡ d → (d && within (r.size * 10 + (b - 48))) ≡ false → is_open (taken r b) ≡ false
      go true i j = rw (taken_is, i, j) (is_over (left r too_large) (omega arith))
      go false i j = rw (taken_is, i) (is_over (left r ended) (omega arith))

-- ---- sizes

stays_sound : (r : NumberReading) (t : List ℕ) → sound r ≡ true → sound (go_on r t) ≡ true
unfolding go_on
stays_sound r [] h = h
stays_sound r (b ∷ t) h =
    stays_sound (cond (is_open r) (taken r b) r) t (either (λ x. sound x ≡ true) (is_open r) (taken r b) r (λ e. taken_sound r b h) h)

pub sound_size : (r : NumberReading) → sound r ≡ true → r.size ≤ 2 ^ 40
unfolding sound
sound_size r h = leb-true r.size (2 ^ 40) (both_true (leb r.minus 1) (within r.size) h).1

pub sizes_stay_within : SizesStayWithin
unfolding SizesStayWithin sound
sizes_stay_within = (λ p t. sound_size (go_on (begun p) t) (stays_sound (begun p) t refl), stays_sound)

-- ---- two bytes

open_stage : (r : NumberReading) → is_open r ≡ true → r.stage ≤ in_digits
unfolding is_open
open_stage r e = leb-true r.stage in_digits (both_true (leb r.stage in_digits) (sound r) e).0

-- what is open after some bytes was open before them
open_before : (r : NumberReading) (t : List ℕ) → is_open (go_on r t) ≡ true → is_open r ≡ true
open_before r t e = go (is_open r) refl
  where
    go : (x : Bool) → is_open r ≡ x → is_open r ≡ true
    go true i = i
    go false i = rw (stays r t i) at e

pub two_bytes_settle : TwoBytesSettle
unfolding TwoBytesSettle Settled go_on
two_bytes_settle r a b t = inr (λ e.
    let first = more r a (b ∷ []) (open_before r (a ∷ b ∷ []) e) in
    let then_open : is_open (go_on (taken r a) (b ∷ [])) ≡ true = rw first at e in
    let second = more (taken r a) b [] (open_before (taken r a) (b ∷ []) then_open) in
    let is : go_on r (a ∷ b ∷ []) ≡ taken (taken r a) b = first ∙ second in
    let late = (later (taken r a) b).more (later r a).some in
    let early = open_stage (taken (taken r a) b) (rw is at e) in
    rw is (omega arith))
