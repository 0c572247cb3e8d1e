-- A fresh record that goes on with some bytes says what the judge reads. Assumes nothing.
use mathlib.Core.Path.{◌≡◌, refl, sym, ap, subst, ◌∙◌}
use mathlib.Core.Bool.{Bool, true, false, cond, and-false}
use mathlib.Core.List.{List, [], ◌∷◌}
use Prim.Native.Nat.{ℕ, ◌+◌, ◌-◌, ◌*◌, ◌^◌, ◌≤◌, ◌<◌}
use native.Mathlib.Nat.{mod-eq_of_lt}
use native.Mathlib.Omega.{arith}
use lib.IntN.{ℤ, pos, neg_ℤ}
use lib.Dec.{eqb}
use lib.ListN.{length}
use borrow.Author.Tests.{le-leb, lt-leb, leb-true, eqb-true, ne_eqb}
use Rattle.rules.specs.declared.NumberReading.{NumberReading}
use Rattle.rules.specs.Sheets.{within}
use Rattle.rules.specs.SheetReading as reading
use Rattle.rules.specs.SheetNumbers.{
  read_as,
  refused_at,
  signed_by,
  fresh,
  minus_passed,
  after_zero,
  in_digits,
  ended,
  faulted,
  too_large,
  begun,
  onward,
  grown,
  sound,
  is_open,
  left,
  with_digit,
  taken,
  go_on,
  is_read,
  finished,
}
use Rattle.sheet_laws.proofs.Decimal.{first_bounds}
use Rattle.theorem_numbers.specs.Pieces.{placed}

-- a record that takes no byte stays as it is
pub stays : (r : NumberReading) (t : List ℕ) → is_open r ≡ false → go_on r t ≡ r
unfolding go_on
stays r [] e = refl
stays r (b ∷ t) e = rw e (stays r t e)

-- ---- one byte

module _ (r : NumberReading) where
  pub is_sound : r.minus ≤ 1 → r.size ≤ 2 ^ 40 → sound r ≡ true
  unfolding sound
  is_sound h k = rw (le-leb r.minus 1 h, le-leb r.size (2 ^ 40) k)

  pub is_open_lem : r.stage ≤ in_digits → sound r ≡ true → is_open r ≡ true
  unfolding is_open
  is_open_lem h k = rw (le-leb r.stage in_digits h, k)

  pub is_over : ended ≤ r.stage → is_open r ≡ false
  unfolding is_open
  is_over h = rw (lt-leb r.stage in_digits (omega arith))

  -- more bytes change nothing
  pub over_says : (t : List ℕ) → ended ≤ r.stage → finished (go_on r t) ≡ finished r
  over_says t h = ap finished (stays r t (is_over h))

  pub more : (b : ℕ) (t : List ℕ) → is_open r ≡ true → go_on r (b ∷ t) ≡ go_on (taken r b) t
  unfolding go_on
  more b t e = rw e

  with_digit_lem : (d : ℕ) → within (r.size * 10 + d) ≡ true → with_digit r d ≡ grown r (r.size * 10 + d)
  unfolding with_digit
  with_digit_lem d e = rw e

  with_large : (d : ℕ) → within (r.size * 10 + d) ≡ false → with_digit r d ≡ left r too_large
  unfolding with_digit
  with_large d e = rw e

  pub says_nothing : is_read r.stage ≡ false → eqb r.stage too_large ≡ false → finished r ≡ refused_at 600 r.next
  unfolding finished
  says_nothing e f = rw (e, f, and-false)

  pub says_large : sound r ≡ true → r.stage ≡ too_large → finished r ≡ refused_at 4 r.start
  unfolding finished
  says_large e f = rw (e, f)

  pub says_number : sound r ≡ true → is_read r.stage ≡ true → finished r ≡ read_as (signed_by (eqb r.minus 1) r.size) r.next
  unfolding finished
  says_number e f = rw (e, f)

-- ---- the digits

-- `X` are the bytes from the number's first one on, and the bytes end at `last`
module _ (start minus last : ℕ) (X : List ℕ) (few : minus ≤ 1) (began : last - length X ≡ start) (fits : last < 2 ^ 64) where
  abbrev inside : ℕ → ℕ → ℕ → NumberReading
  inside stage next n = record { start = start; next = next; size = n; stage = stage; minus = minus }

  -- what the judge says of the digits, as a number with its sign
  abbrev digits_say : ℕ → List ℕ → reading.Read ℤ
  digits_say n t = reading.then (reading.digits within (λ r. reading.stop 4 X) n t) (λ v rest. reading.got (signed_by (eqb minus 1) v) rest)

  says_at : (stage next n : ℕ) → is_read stage ≡ true → n ≤ 2 ^ 40 → (place : ℕ) → next ≡ place
      → finished (inside stage next n) ≡ read_as (signed_by (eqb minus 1) n) place
  says_at stage next n e h place k = says_number (inside stage next n) (is_sound (inside stage next n) few h) e ∙ ap (read_as (signed_by (eqb minus 1) n)) k

  module _ (b : ℕ) (t : List ℕ) (next n : ℕ) (h : n ≤ 2 ^ 40) where
    step : go_on (inside in_digits next n) (b ∷ t) ≡ go_on (taken (inside in_digits next n) b) t
    step = more (inside in_digits next n) b t (is_open_lem (inside in_digits next n) (omega arith) (is_sound (inside in_digits next n) few h))

    taken_digit : reading.is_digit b ≡ true → taken (inside in_digits next n) b ≡ with_digit (inside in_digits next n) (b - 48)
    unfolding taken
    taken_digit i = rw i

    taken_other : reading.is_digit b ≡ false → taken (inside in_digits next n) b ≡ inside ended next n
    unfolding taken
    taken_other i = rw i

    -- the judge, at the same byte
    say_more : reading.is_digit b ≡ true → within (n * 10 + (b - 48)) ≡ true → digits_say n (b ∷ t) ≡ digits_say (n * 10 + (b - 48)) t
    unfolding reading.digits
    say_more i j = rw (i, j, reading.digits)

    say_large : reading.is_digit b ≡ true → within (n * 10 + (b - 48)) ≡ false → digits_say n (b ∷ t) ≡ reading.stop 4 X
    unfolding reading.digits reading.then
    say_large i j = rw (i, j, reading.digits)

    say_other : reading.is_digit b ≡ false → digits_say n (b ∷ t) ≡ reading.got (signed_by (eqb minus 1) n) (b ∷ t)
    unfolding reading.digits reading.then
    say_other i = rw (i, reading.digits)

  pub digits_go : (t : List ℕ) (next n : ℕ) → next + length t ≡ last → n ≤ 2 ^ 40 → finished (go_on (inside in_digits next n) t) ≡ placed last (digits_say n t)
  unfolding go_on reading.digits reading.then
  digits_go [] next n e h = says_at in_digits next n refl h (last - 0) (omega arith)
  digits_go (b ∷ t) next n e h = go (λ next n e h. digits_go t next n e h) (reading.is_digit b) refl (within (n * 10 + (b - 48))) refl
    where
      go : ((next n : ℕ) → next + length t ≡ last → n ≤ 2 ^ 40 → finished (go_on (inside in_digits next n) t) ≡ placed last (digits_say n t))
          → (d : Bool) → reading.is_digit b ≡ d → (f : Bool) → within (n * 10 + (b - 48)) ≡ f
          → finished (go_on (inside in_digits next n) (b ∷ t)) ≡ placed last (digits_say n (b ∷ t))
      go on true i true j =
          let k : onward next ≡ next + 1 = mod-eq_of_lt (omega arith) in
          let sum = n * 10 + (b - 48) in
          let is = taken_digit b t next n h i ∙ with_digit_lem (inside in_digits next n) (b - 48) j ∙ ap (λ place. inside in_digits place sum) k in
          ap finished (step b t next n h ∙ ap (λ r. go_on r t) is) ∙ on (next + 1) sum (omega arith) (leb-true _ _ j)
          ∙ ap (placed last) (sym (say_more b t next n h i j))
      go on true i false j =
          let is = taken_digit b t next n h i ∙ with_large (inside in_digits next n) (b - 48) j in
          ap finished (step b t next n h ∙ ap (λ r. go_on r t) is) ∙ over_says (inside too_large next n) t (omega arith)
          ∙ says_large (inside too_large next n) (is_sound (inside too_large next n) few h) refl ∙ ap (refused_at 4) (sym began)
          ∙ ap (placed last) (sym (say_large b t next n h i j))
      go on false i f j =
          ap finished (step b t next n h ∙ ap (λ r. go_on r t) (taken_other b t next n h i)) ∙ over_says (inside ended next n) t (omega arith)
          ∙ says_at ended next n refl h (last - length (b ∷ t)) (omega arith) ∙ ap (placed last) (sym (say_other b t next n h i))

  -- ---- the first digit

  abbrev positive_says : List ℕ → reading.Read ℤ
  positive_says t = reading.then (reading.positive within (λ r. reading.stop 4 X) t) (λ v rest. reading.got (signed_by (eqb minus 1) v) rest)

  -- before the first digit, with or without a minus: 1 to 9 is one, and any other byte is at fault
  module _ (stage next : ℕ) (early : stage ≤ minus_passed) where
    abbrev r : NumberReading
    r = inside stage next 0

    abbrev Firsts : ℕ → Type 0
    Firsts b = taken r b ≡ cond (reading.is_first b) (with_digit r (b - 48)) (inside faulted next 0)

    says_here : (place : ℕ) → next ≡ place → finished r ≡ refused_at 600 place
    says_here place k =
        says_nothing r (rw (lt-leb after_zero stage (omega arith))) (ne_eqb stage too_large (λ e. omega arith)) ∙ ap (refused_at 600) k

    pub first_go : (t : List ℕ) → next + length t ≡ last → ((b : ℕ) (rest : List ℕ) → t ≡ b ∷ rest → Firsts b)
        → finished (go_on r t) ≡ placed last (positive_says t)
    unfolding go_on reading.positive reading.then
    first_go [] e f = says_here (last - 0) (omega arith)
    first_go (b ∷ t) e f = go (reading.is_first b) refl
      where
        step_to : (x : NumberReading) → taken r b ≡ x → finished (go_on r (b ∷ t)) ≡ finished (go_on x t)
        step_to x is = ap finished (more r b t (is_open_lem r (omega arith) (is_sound r few (omega arith))) ∙ ap (λ y. go_on y t) is)

        go : (d : Bool) → reading.is_first b ≡ d → finished (go_on r (b ∷ t)) ≡ placed last (positive_says (b ∷ t))
        go true i =
            let m = first_bounds b i in
            let k : onward next ≡ next + 1 = mod-eq_of_lt (omega arith) in
            let d = b - 48 in
            let z : 0 * 10 + d ≡ d = omega arith in
            let is = f b t refl ∙ rw i refl ∙ with_digit_lem r d (le-leb (0 * 10 + d) (2 ^ 40) (omega arith))
            ∙ ap (λ n. inside in_digits (onward next) n) z ∙ ap (λ place. inside in_digits place d) k in
            step_to (inside in_digits (next + 1) d) is ∙ digits_go t (next + 1) d (omega arith) (omega arith) ∙ rw (i, reading.positive) refl
        go false i =
            step_to (inside faulted next 0) (f b t refl ∙ rw i refl) ∙ over_says (inside faulted next 0) t (omega arith)
            ∙ says_nothing (inside faulted next 0) refl refl ∙ ap (refused_at 600) (let h : next ≡ last - length (b ∷ t) = omega arith in h)
            ∙ rw (i, reading.positive) refl

-- ---- the number

-- the byte after a minus
after_minus : (start next minus b : ℕ) → let r : NumberReading = record { start = start; next = next; size = 0; stage = minus_passed; minus = minus } in
    taken r b ≡ cond (reading.is_first b) (with_digit r (b - 48)) (left r faulted)
unfolding taken
after_minus start next minus b = refl

module _ (b : ℕ) (t : List ℕ) where
  pub judge_minus : eqb b 45 ≡ true
      → reading.number within (b ∷ t) ≡ reading.then (reading.positive within (λ r. reading.stop 4 (b ∷ t)) t) (λ n rest. reading.got (neg_ℤ (pos n)) rest)
  unfolding reading.number
  judge_minus i = rw (i, reading.number)

  pub judge_zero : eqb b 45 ≡ false → eqb b 48 ≡ true → reading.number within (b ∷ t) ≡ reading.got (pos 0) t
  unfolding reading.number
  judge_zero i j = rw (i, j, reading.number)

  pub judge_plain : eqb b 45 ≡ false → eqb b 48 ≡ false
      → reading.number within (b ∷ t) ≡ reading.then (reading.positive within (λ r. reading.stop 4 (b ∷ t)) (b ∷ t)) (λ n rest. reading.got (pos n) rest)
  unfolding reading.number
  judge_plain i j = rw (i, j, reading.number)

module _ (p : ℕ) where
  -- a byte, and what is then kept
  fresh_step : (b : ℕ) (t : List ℕ) (x : NumberReading) → taken (begun p) b ≡ x → finished (go_on (begun p) (b ∷ t)) ≡ finished (go_on x t)
  fresh_step b t x is =
      ap finished (more (begun p) b t (is_open_lem (begun p) (omega arith) (is_sound (begun p) (omega arith) (omega arith))) ∙ ap (λ y. go_on y t) is)

  abbrev zeroed : ℕ → NumberReading
  zeroed stage = record { start = p; next = p + 1; size = 0; stage = stage; minus = 0 }

  -- after a 0 any byte ends the number
  zero_says : (t : List ℕ) → finished (go_on (zeroed after_zero) t) ≡ read_as (pos 0) (p + 1)
  unfolding go_on taken
  zero_says [] = says_number (zeroed after_zero) (is_sound (zeroed after_zero) (omega arith) (omega arith)) refl
  zero_says (b ∷ t) =
      ap finished (more (zeroed after_zero) b t (is_open_lem (zeroed after_zero) (omega arith) (is_sound (zeroed after_zero) (omega arith) (omega arith))))
      ∙ over_says (zeroed ended) t (omega arith)
      ∙ says_number (zeroed ended) (is_sound (zeroed ended) (omega arith) (omega arith)) refl

  -- the first byte
  taken_minus : (b : ℕ) → eqb b 45 ≡ true → onward p ≡ p + 1
      → taken (begun p) b ≡ record { start = p; next = p + 1; size = 0; stage = minus_passed; minus = 1 }
  unfolding taken
  taken_minus b i k = rw (eqb-true b 45 i, k)

  taken_zero : (b : ℕ) → eqb b 48 ≡ true → onward p ≡ p + 1 → taken (begun p) b ≡ zeroed after_zero
  unfolding taken
  taken_zero b j k = rw (eqb-true b 48 j, k)

  fresh_other : (b : ℕ) → eqb b 45 ≡ false → eqb b 48 ≡ false
      → taken (begun p) b ≡ cond (reading.is_first b) (with_digit (begun p) (b - 48)) (left (begun p) faulted)
  unfolding taken
  fresh_other b i j = rw (i, j)

  pub fresh_go : (t : List ℕ) → p + length t < 2 ^ 64 → finished (go_on (begun p) t) ≡ placed (p + length t) (reading.number within t)
  unfolding go_on reading.number
  fresh_go [] h = says_nothing (begun p) refl refl ∙ ap (refused_at 600) (let k : p ≡ p + 0 - 0 = omega arith in k)
  fresh_go (b ∷ t) h = go (eqb b 45) refl (eqb b 48) refl
    where
      went : onward p ≡ p + 1
      went = mod-eq_of_lt (omega arith)

      go : (m : Bool) → eqb b 45 ≡ m → (z : Bool) → eqb b 48 ≡ z
          → finished (go_on (begun p) (b ∷ t)) ≡ placed (p + length (b ∷ t)) (reading.number within (b ∷ t))
      go true i z j =
          fresh_step b t (record { start = p; next = p + 1; size = 0; stage = minus_passed; minus = 1 }) (taken_minus b i went)
          ∙ first_go p 1 (p + length (b ∷ t)) (b ∷ t) (omega arith) (omega arith) h minus_passed (p + 1) (omega arith) t (omega arith)
          (λ c rest e. after_minus p (p + 1) 1 c)
          ∙ ap (placed (p + length (b ∷ t))) (sym (judge_minus b t i))
      go false i true j =
          fresh_step b t (zeroed after_zero) (taken_zero b j went) ∙ zero_says t
          ∙ ap (read_as (pos 0)) (let k : p + 1 ≡ p + length (b ∷ t) - length t = omega arith in k)
          ∙ ap (placed (p + length (b ∷ t))) (sym (judge_zero b t i j))
      go false i false j =
          first_go p 0 (p + length (b ∷ t)) (b ∷ t) (omega arith) (omega arith) h fresh p (omega arith) (b ∷ t) (omega arith)
          (λ c rest e. let k : b ≡ c = cc in fresh_other c (subst (λ x. eqb x 45 ≡ false) k i) (subst (λ x. eqb x 48 ≡ false) k j))
          ∙ ap (placed (p + length (b ∷ t))) (sym (judge_plain b t i j))
