-- The tests of the equations, as the code makes them. Assumes nothing.
use Rattle.std.specs.Prelude.{◌≡◌, Bool, true, false, cond, ◌&&◌, List, [], ◌∷◌, ℕ, zero, suc, ◌+◌, ◌-◌, ◌*◌, ◌^◌, ◌<◌, ◌≤◌, eqb, ℤ, length, take, drop}
use Rattle.std.proofs.Common.{refl, sym, ap, ap₂, ◌∙◌, subst, arith, add-one, eq-eqb, ne_eqb}
use Rattle.std.specs.Bool.{Decides}
use Rattle.std.specs.Ordering.{int_eq}
use Rattle.std.specs.Cmp.Lexicographic.{pointwise}
use Rattle.std.proofs.lemmas.Bool.Decides.{Decides-int_eq}
use native.Mathlib.Nat.{add-zero}
use lib.Dec.{T, not_T}
use lib.Seq.{get_or-take, get_or-drop}
use lib.Signed.{mag}
use lib.Ieee.Bits.{is_true, is_false}
use mir.Syntax.{w64}
use mir.Val.{of_z, to_z, hbits}
use Rattle.law_lists.specs.Lists.{every}
use Rattle.rules.specs.Master.{same, at, at_end, coefficient, meets_start}
use Rattle.law_lists.proofs.Lists.{and_assoc, part_inside}
use Rattle.law_lists.proofs.Lent.{part_length, part_size}
use Rattle.rules.proofs.Master.{same→eq, eq→same}
use Rattle.master_numbers.proofs.Signed.{as_read}
use Rattle.master_equations.specs.Segment.{Shaped, meets_at, segment_meets}

-- ---- one test

-- the code compares bits, and numbers that fit 64 bits are the same exactly where their bits are
pub bits_same : (a b : ℤ) → mag a < 2 ^ hbits w64 → mag b < 2 ^ hbits w64 → of_z w64 a ≡ of_z w64 b → same a b ≡ true
bits_same a b f g e = is_true (same a b) (eq→same a b (sym (as_read a f) ∙ ap (to_z w64) e ∙ as_read b g))

pub bits_differ : (a b : ℤ) → (of_z w64 a ≡ of_z w64 b → ⊥) → same a b ≡ false
bits_differ a b h = is_false (same a b) (not_T (same a b) (λ t. h (ap (of_z w64) (same→eq a b t))))

-- std's word for it
int_same : (a b : ℤ) → int_eq a b ≡ same a b
int_same a b = as_decided (int_eq a b) (Decides-int_eq a b)
  where
    as_decided : (r : Bool) → Decides r (a ≡ b) → r ≡ same a b
    as_decided true d = sym (is_true (same a b) (eq→same a b (d.0 refl)))
    as_decided false d = sym (is_false (same a b) (not_T (same a b) (λ t. subst T (sym (d.1 (same→eq a b t))) tt)))

-- ---- lists that are compared

-- tests that agree at each place below n
every_alike : (n : ℕ) (f g : ℕ → Bool) → ((i : ℕ) → i < n → f i ≡ g i) → every n f ≡ every n g
unfolding every
every_alike zero f g e = refl
every_alike (suc n) f g e = ap₂ ◌&&◌ (every_alike n f g (λ i h. e i (omega arith))) (e n (omega arith))

and_true : (b : Bool) → b ≡ (b && true)
and_true true = refl
and_true false = refl

-- the first place, and the others
every_first : (n : ℕ) (f : ℕ → Bool) → every (suc n) f ≡ (f 0 && every n (λ r. f (suc r)))
unfolding every
every_first zero f = and_true (f 0)
every_first (suc n) f = ap (λ (b : Bool). b && f (suc n)) (every_first n f) ∙ and_assoc (f 0) (every n (λ r. f (suc r))) (f (suc n))

-- what `==` answers of two lists of one length
pub pointwise_same : (xs ys : List ℤ) → length xs ≡ length ys → pointwise int_eq xs ys ≡ every (length ys) (λ r. same (at xs r) (at ys r))
unfolding every
pointwise_same [] [] e = refl
pointwise_same [] (y ∷ ys) e = absurd (omega arith)
pointwise_same (x ∷ xs) [] e = absurd (omega arith)
pointwise_same (x ∷ xs) (y ∷ ys) e =
    ap₂ ◌&&◌ (int_same x y) (pointwise_same xs ys (omega arith)) ∙ sym (every_first (length ys) (λ r. same (at (x ∷ xs) r) (at (y ∷ ys) r)))

-- the numbers from place 1 on, which the code lends
pub as_lent : (sums numbers : List ℤ) → length numbers < length sums
    → pointwise int_eq (take (length numbers + 1 - 1) (drop 1 sums)) numbers ≡ meets_at sums numbers
unfolding meets_at
as_lent sums numbers l =
    let n = length numbers in
    let k : n + 1 - 1 ≡ n = omega arith in
    rw k
    (pointwise_same (take n (drop 1 sums)) numbers (part_length 1 n sums (omega arith))
    ∙ every_alike n _ _ (λ r h. ap (λ (z : ℤ). same z (at numbers r)) (get_or-take n (drop 1 sums) r _ h ∙ get_or-drop 1 sums r _ ∙ ap (at sums) (omega arith))))

-- numbers that are a part of a list
pub part_met : (sums numbers : List ℤ) (from count : ℕ) → from + count ≤ length numbers
    → meets_at sums (take count (drop from numbers)) ≡ every count (λ r. same (at sums (suc r)) (at numbers (from + r)))
unfolding meets_at
part_met sums numbers from count l =
    rw (part_length from count numbers l)
    (every_alike count _ _ (λ r h. ap (same (at sums (suc r))) (get_or-take count (drop from numbers) r _ h ∙ get_or-drop from numbers r _)))

-- ---- the tests as the code makes them

-- the first segment starts where the table does
pub start_as_made : (m segments : ℕ) (table start : List ℤ) → m ≤ length start → meets_at table (take m start) ≡ meets_start m segments table start
unfolding meets_start
start_as_made m segments table start l =
    part_met table start 0 m (omega arith)
    ∙ every_alike m _ _ (λ r h. ap₂ same (ap (at table) (omega arith)) (ap (at start) (omega arith)))

-- where a segment follows, its coefficients stand in the table
pub next_inside : {m i : ℕ} {w end table : List ℤ} → Shaped m w end table → i < length w - 1 → (i + 2 ≡ length w → ⊥)
    → (i + 1) * (2 * m + 2) + 1 + 2 * m ≤ length table
next_inside {m} {i} {w} s l h =
    let inside : (i + 1) * (2 * m + 2) + (2 * m + 2) ≤ (length w - 1) * (2 * m + 2) = part_inside (2 * m + 2) (omega (arith, h)) in
    rw s.table_is (omega (arith, inside))

-- of the sums r = 0, 1, .. at a segment's end, those from r = 1 on, so many, are the numbers of a list from a place on
abbrev pub meets_from : List ℤ → List ℤ → ℕ → ℕ → Bool
meets_from sums numbers from count = every count (λ r. same (at sums (suc r)) (at numbers (from + r)))

-- of a segment, whose sums the code has in a list: it compares them with the end state or with what stands in the table
module _ (m : ℕ) (w end table : List ℤ) (i : ℕ) (sums : List ℤ) (are : (r : ℕ) → r < 2 * m + 1 → at sums r ≡ at_end m table i r) where
  -- the sums from r = 1 on against f 0, f 1, .., which stand in a list from a place on
  at_end_lem : (count : ℕ) → count ≤ 2 * m → (numbers : List ℤ) (from : ℕ) (f : ℕ → ℤ) → ((r : ℕ) → f r ≡ at numbers (from + r))
      → every count (λ r. same (at_end m table i (suc r)) (f r)) ≡ meets_from sums numbers from count
  at_end_lem count l numbers from f e = every_alike count _ _ (λ r h. ap₂ same (sym (are (suc r) (omega arith))) (e r))

  right_as_made : same (at_end m table i 0) (at w (suc i)) ≡ same (at sums 0) (at w (i + 1))
  right_as_made = rw (add-one, are 0 (omega arith))

  last_as_made : every m (λ r. same (at_end m table i (suc r)) (at end r)) ≡ meets_from sums end 0 m
  last_as_made = at_end_lem m (omega arith) end 0 _ (λ r. ap (at end) (omega arith))

  joint_as_made : every (2 * m) (λ r. same (at_end m table i (suc r)) (coefficient m table (suc i) (suc r))) ≡ meets_from sums table ((i + 1) * (2 * m + 2) + 1) (2 * m)
  joint_as_made = at_end_lem (2 * m) (omega arith) table _ _ (λ r. ap (at table) (omega arith))

  -- where all before is good and the left waypoint is met, the rest decides
  pub rest_decides : (before : Bool) → before ≡ true → same (at table (i * (2 * m + 2))) (at w i) ≡ true
      → (before && segment_meets m w end table i)
      ≡ (same (at sums 0) (at w (i + 1))
      && cond (eqb (i + 2) (length w)) (meets_from sums end 0 m) (meets_from sums table ((i + 1) * (2 * m + 2) + 1) (2 * m)))
  unfolding segment_meets
  rest_decides before e f = rw (e, add-zero, right_as_made, last_as_made, joint_as_made, f)

-- The ways out of a segment's tests. The code has the sums in a list, and compares bits of numbers that fit: the left waypoint's, then the right one's, and
-- then the sums from r = 1 on with the end state or with what stands in the table.
module _ (m : ℕ) (w end table : List ℤ) (i : ℕ) where
  pub left_differs : (of_z w64 (at table (i * (2 * m + 2))) ≡ of_z w64 (at w i) → ⊥) → false ≡ segment_meets m w end table i
  unfolding segment_meets
  left_differs h = rw (add-zero, bits_differ _ _ h)

  module _ (sums : List ℤ) (are : (r : ℕ) → r < 2 * m + 1 → at sums r ≡ at_end m table i r)
      (fits : mag (at table (i * (2 * m + 2))) < 2 ^ hbits w64) (fits_left : mag (at w i) < 2 ^ hbits w64)
      (left : of_z w64 (at table (i * (2 * m + 2))) ≡ of_z w64 (at w i)) where
    rest_is : segment_meets m w end table i
        ≡ (same (at sums 0) (at w (i + 1))
        && cond (eqb (i + 2) (length w)) (every m (λ r. same (at_end m table i (suc r)) (at end r)))
        (every (2 * m) (λ r. same (at_end m table i (suc r)) (coefficient m table (suc i) (suc r)))))
    unfolding segment_meets
    rest_is = rw (add-zero, bits_same _ _ fits fits_left left, add-one, are 0 (omega arith))

    pub right_differs : (of_z w64 (at sums 0) ≡ of_z w64 (at w (i + 1)) → ⊥) → false ≡ segment_meets m w end table i
    right_differs h = rw (rest_is, bits_differ _ _ h)

    module _ (fits_sum : mag (at sums 0) < 2 ^ hbits w64) (fits_right : mag (at w (i + 1)) < 2 ^ hbits w64)
        (right : of_z w64 (at sums 0) ≡ of_z w64 (at w (i + 1))) where
      -- the sums from r = 1 on against f 0, f 1, .., which stand in a list from a place on
      as_compared : (count : ℕ) → count ≤ 2 * m → (numbers : List ℤ) (from : ℕ) (f : ℕ → ℤ) → from + count ≤ length numbers
          → ((r : ℕ) → f r ≡ at numbers (from + r))
          → meets_at sums (take count (drop from numbers)) ≡ every count (λ r. same (at_end m table i (suc r)) (f r))
      as_compared count l numbers from f h e =
          part_met sums numbers from count h ∙ every_alike count _ _ (λ r h. ap₂ same (are (suc r) (omega arith)) (sym (e r)))

      pub last_decides : {r : Bool} → i + 2 ≡ length w → m ≤ length end → r ≡ meets_at sums (take m end) → r ≡ segment_meets m w end table i
      last_decides e l is =
          is ∙ rw (rest_is, bits_same _ _ fits_sum fits_right right, eq-eqb _ _ e)
          (as_compared m (omega arith) end 0 _ (omega arith) (λ r. ap (at end) (omega arith)))

      pub joint_decides : {r : Bool} → (i + 2 ≡ length w → ⊥) → Shaped m w end table → i < length w - 1
          → r ≡ meets_at sums (take ((i + 1) * (2 * m + 2) + 1 + 2 * m - ((i + 1) * (2 * m + 2) + 1)) (drop ((i + 1) * (2 * m + 2) + 1) table))
          → r ≡ segment_meets m w end table i
      joint_decides h s l is =
          rw part_size at is ∙ rw (rest_is, bits_same _ _ fits_sum fits_right right, ne_eqb _ _ h)
          (as_compared (2 * m) (omega arith) table _ _ (next_inside s l h) (λ r. ap (at table) (omega arith)))

-- what the code's way through the tests goes by
pub ruleset by_tests = (left_differs, right_differs, last_decides, joint_decides)
