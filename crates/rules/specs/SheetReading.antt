-- A judge of job sheets: a text is read byte by byte, and the first byte that cannot be, or the first that passes a limit, ends the reading. It is here
-- for the code to follow. That it says what the grammar of Sheets.antt says is proved: crates/theorem_sheets. Assumes nothing.
use Prim.{Unit, tt}
use Rattle.std.specs.Prelude.{ℕ, zero, suc, ◌+◌, ◌*◌, ◌-◌, Bool, true, false, ◌&&◌, List, [], ◌∷◌, ℤ, pos, neg_ℤ, length, leb, eqb}
use Rattle.rules.specs.Sheets.{
  bytes,
  Item,
  Items,
  whole,
  again,
  one,
  more,
  States,
  states,
  Axis,
  axis,
  Axes,
  only,
  next,
  Range,
  range,
  Heading,
  heading,
  Sheet,
  sheet,
  within,
  below4,
}

-- what was read and the bytes after it, or the number of a refusal and the bytes from its place on
pub data Read (A : Type 0) : Type 0 where
  got : A → List ℕ → Read A
  stop : ℕ → List ℕ → Read A

-- one reading after another
unfoldable pub then : {A B : Type 0} → Read A → (A → List ℕ → Read B) → Read B
then (got a rest) f = f a rest
then (stop k rest) f = stop k rest

-- ---- fixed bytes, numbers, counts

unfoldable pub word : List ℕ → List ℕ → Read (Unit {0})
word [] t = got tt t
word (w ∷ ws) [] = stop 600 []
word (w ∷ ws) (b ∷ t) = elim (eqb b w) [ true ↦ word ws t | false ↦ stop 600 (b ∷ t) ]

abbrev pub is_digit : ℕ → Bool
is_digit b = leb 48 b && leb b 57

abbrev pub is_first : ℕ → Bool
is_first b = leb 49 b && leb b 57

-- `fits`: a number is within the limit; `over`: the answer where a digit takes it past the limit, given the text from that digit on
module _ (fits : ℕ → Bool) (over : List ℕ → Read ℕ) where
  -- the digits after some that are worth n
  unfoldable pub digits : ℕ → List ℕ → Read ℕ
  digits n [] = got n []
  digits n (b ∷ t) =
      elim (is_digit b) [
        | true ↦ elim (fits (n * 10 + (b - 48))) [ true ↦ digits (n * 10 + (b - 48)) t | false ↦ over (b ∷ t) ]
        | false ↦ got n (b ∷ t)
      ]

  -- a number without a sign, and not 0
  unfoldable pub positive : List ℕ → Read ℕ
  positive [] = stop 600 []
  positive (b ∷ t) = elim (is_first b) [ true ↦ digits (b - 48) t | false ↦ stop 600 (b ∷ t) ]

-- a number; past the limit it is 4 at its first byte
unfoldable pub number : (ℕ → Bool) → List ℕ → Read ℤ
number fits [] = stop 600 []
number fits (b ∷ t) =
    elim (eqb b 45) [
      | true ↦ then (positive fits (λ r. stop 4 (b ∷ t)) t) (λ n rest. got (neg_ℤ (pos n)) rest)
      | false ↦ elim (eqb b 48) [
        | true ↦ got (pos 0) t
        | false ↦ then (positive fits (λ r. stop 4 (b ∷ t)) (b ∷ t)) (λ n rest. got (pos n) rest)
      ]
    ]

-- a count; past 64 it is 600 at the digit
abbrev pub up_to64 : ℕ → Bool
up_to64 n = leb n 64

abbrev pub count : List ℕ → Read ℕ
count t = positive up_to64 (λ r. stop 600 r) t

-- what follows the bracket of an `again` form, up to its list
unfoldable pub head : List ℕ → Read ℕ
head t =
    then (word (bytes "again ") t) (λ u t1.
    then (count t1) (λ n t2.
    then (word (bytes " ") t2) (λ u t3. got n t3)))

-- ---- items and lists

-- `fits`: a number is within the limit; `opens`: a bracket may open inside so many `again` forms
module _ (fits : ℕ → Bool) (opens : ℕ → Bool) where
  -- an `again` form after its bracket; `inner` reads the list in it
  unfoldable pub form : (List ℕ → Read Items) → List ℕ → Read Item
  form inner t = then (head t) (λ n t1. then (inner t1) (λ items t2. got (again n items) t2))

  -- an item inside d `again` forms
  unfoldable pub item : (List ℕ → Read Items) → ℕ → List ℕ → Read Item
  item inner d [] = stop 600 []
  item inner d (b ∷ t) =
      elim (eqb b 40) [
        | true ↦ elim (opens d) [ true ↦ form inner t | false ↦ stop 601 (b ∷ t) ]
        | false ↦ then (number fits (b ∷ t)) (λ z rest. got (whole z) rest)
      ]

  -- what may follow item i of a list; `others` reads the items after it
  unfoldable pub after : (List ℕ → Read Items) → Item → List ℕ → Read Items
  after others i [] = stop 600 []
  after others i (b ∷ t) =
      elim (eqb b 41) [
        | true ↦ got (one i) t
        | false ↦ elim (eqb b 32) [ true ↦ then (others t) (λ items rest. got (more i items) rest) | false ↦ stop 600 (b ∷ t) ]
      ]

  -- a list inside d `again` forms, with its closing bracket. Each list in it is shorter than the text, so more than its length is never used up.
  unfoldable pub items : ℕ → ℕ → List ℕ → Read Items
  items zero d t = stop 600 t
  items (suc n) d t = then (item (λ r. items n (suc d) r) d t) (λ i rest. after (λ r. items n d r) i rest)

-- ---- axes and sheets

-- fixed bytes first
unfoldable pub lead : {A : Type 0} → List ℕ → (ℕ → List ℕ → Read A) → ℕ → List ℕ → Read A
lead w P n t = then (word w t) (λ u r. P n r)

-- one reading and then another, made into one value
abbrev pub pair : {A B C : Type 0} → (A → B → C) → (ℕ → List ℕ → Read A) → (ℕ → List ℕ → Read B) → ℕ → List ℕ → Read C
pair make P Q n t = then (P n t) (λ a t1. then (Q n t1) (λ b t2. got (make a b) t2))

module _ (fits : ℕ → Bool) (opens : ℕ → Bool) where
  abbrev pub read_list : ℕ → List ℕ → Read Items
  read_list n t = items fits opens n 0 t

  abbrev pub read_number : ℕ → List ℕ → Read ℤ
  read_number n t = number fits t

  unfoldable pub read_end : ℕ → List ℕ → Read Items
  read_end = pair (λ e u. e) (lead (bytes " (end ") read_list) (λ n t. word (bytes ")\n") t)

  unfoldable pub read_states : ℕ → List ℕ → Read States
  read_states = pair states (lead (bytes " (start ") read_list) read_end

  unfoldable pub read_axis : ℕ → List ℕ → Read Axis
  read_axis = pair axis (lead (bytes "(axis (points ") read_list) read_states

  -- at most so many axes, to the end of the text
  unfoldable pub read_axes : ℕ → ℕ → List ℕ → Read Axes
  read_axes zero n t = stop 600 t
  read_axes (suc most) n t =
      then (read_axis n t) (λ a r. elim r [
        | [] ↦ got (only a) []
        | b ∷ r1 ↦ then (read_axes most n (b ∷ r1)) (λ axes z. got (next a axes) z)
      ])

  unfoldable pub read_upper : ℕ → List ℕ → Read ℤ
  read_upper = pair (λ z u. z) (lead (bytes " ") read_number) (λ n t. word (bytes ")\n") t)

  unfoldable pub read_range : ℕ → List ℕ → Read Range
  read_range = pair range (lead (bytes ")\n(range ") read_number) read_upper

  unfoldable pub read_heading : ℕ → List ℕ → Read Heading
  read_heading = pair heading (lead (bytes "(order ") read_number) read_range

  unfoldable pub read_sheet : ℕ → List ℕ → Read Sheet
  read_sheet = pair sheet read_heading (read_axes 8)

-- a sheet within the limits
unfoldable pub sheet_of : List ℕ → Read Sheet
sheet_of t = read_sheet within below4 (suc (length t)) t
