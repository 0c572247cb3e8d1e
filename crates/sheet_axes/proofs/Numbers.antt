-- A valid list stands for one number or more, each within the limit. Assumes nothing.
use mathlib.Core.Path.{◌≡◌, refl, subst}
use mathlib.Core.Bool.{Bool, true, false}
use mathlib.Core.List.{List, [], ◌∷◌, ◌++◌}
use Prim.Native.Nat.{ℕ, zero, suc, ◌+◌, ◌-◌, ◌^◌, ◌<◌, ◌≤◌}
use native.Mathlib.Omega.{arith}
use native.Mathlib.Nat.{mul-le-mul}
use lib.IntN.{ℤ, pos, nat_abs}
use lib.ListN.{length, get_or, length-append, get_or-append}
use lib.Seq.{get_or-append-add}
use lib.Dec.{ltb}
use borrow.Author.Tests.{leb-true, ltb-true, ltb-false}
use Rattle.rules.specs.Sheets.{Item, Items, whole, again, one, more, ValidItem, ValidItems, within, below4}
use Rattle.rules.specs.SheetFaults.{size_of, size}
use Rattle.rules.specs.SheetAnswers.{numbers, numbers_of, times}
use Rattle.sheet_record.specs.Held.{Near}

-- every number of a list is within the limit
unfoldable pub AllNear : List ℤ → Type 0
AllNear xs = (j : ℕ) → j < length xs → Near (get_or xs j (pos 0))

near_both : (xs ys : List ℤ) → AllNear xs → AllNear ys → AllNear (xs ++ ys)
unfolding AllNear
near_both xs ys h k j l = go (ltb j (length xs)) refl
  where
    go : (b : Bool) → ltb j (length xs) ≡ b → Near (get_or (xs ++ ys) j (pos 0))
    go true e = let m = ltb-true j (length xs) e in rw (get_or-append xs ys (pos 0) j m) (h j m)
    go false e =
        let m = ltb-false j (length xs) e in
        let i : length xs + (j - length xs) ≡ j = omega arith in
        subst (λ n. Near (get_or (xs ++ ys) n (pos 0))) i
        (rw (get_or-append-add xs ys (j - length xs) (pos 0)) (k (j - length xs) (omega (arith, length-append xs ys))))

near_times : (n : ℕ) (xs : List ℤ) → AllNear xs → AllNear (times n xs)
unfolding AllNear times
near_times zero xs h = λ j l. absurd (omega arith)
near_times (suc n) xs h = near_both xs (times n xs) h (near_times n xs h)

near_one : (z : ℤ) → Near z → AllNear (z ∷ [])
unfolding AllNear
near_one z h zero l = h
near_one z h (suc j) l = absurd (omega arith)

mutual
  unfolding ValidItem numbers_of

  item_near : (i : Item) (d : ℕ) → ValidItem within below4 i d → AllNear (numbers_of i)
  item_near (whole z) d v = near_one z (leb-true (nat_abs z) (2 ^ 40) v)
  item_near (again n items) d v = near_times n (numbers items) (list_near items (suc d) v.2)

  pub list_near : (items : Items) (d : ℕ) → ValidItems within below4 items d → AllNear (numbers items)
  list_near (one i) d v = item_near i d v
  list_near (more i items) d v = near_both (numbers_of i) (numbers items) (item_near i d v.0) (list_near items d v.1)

mutual
  unfolding ValidItem size_of

  item_some : (i : Item) (d : ℕ) → ValidItem within below4 i d → 1 ≤ size_of i
  item_some (whole z) d v = omega arith
  item_some (again n items) d v = omega (arith, mul-le-mul v.1.0 (list_some items (suc d) v.2))

  pub list_some : (items : Items) (d : ℕ) → ValidItems within below4 items d → 1 ≤ size items
  list_some (one i) d v = item_some i d v
  list_some (more i items) d v = let h = item_some i d v.0 in omega arith
