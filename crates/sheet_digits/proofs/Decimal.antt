-- Decimal digits: they are those that std prints, and how many there are. Assumes nothing.
use Prim.{tt}
use mathlib.Core.Path.{◌≡◌, refl, ap, ◌∙◌}
use mathlib.Core.Bool.{Bool, true, false}
use mathlib.Core.List.{[], ◌∷◌}
use Prim.Native.Nat.{ℕ, zero, suc, ◌+◌, ◌/◌, ◌%◌, ◌^◌, ◌<◌, ◌≤◌}
use native.Mathlib.Nat.{pow-suc, div-lt_iff_lt-mul}
use native.Mathlib.Omega.{arith}
use lib.ListN.{length, length-append}
use lib.Dec.{ltb, lit≤}
use borrow.Author.Tests.{ltb-true, ltb-false, lt-ltb, le-ltb}
use Rattle.std.specs.Fmt.{decimal as printed}
use Rattle.std.proofs.lemmas.Fmt.{AppendsLastDigit, decimal_from_appends, length-decimal-le_succ}
use Rattle.rules.specs.Sheets.{decimal, natural}
use Rattle.sheet_laws.proofs.Decimal.{natural_digit, natural_tenth}

-- ---- the digits that std prints

last_first : AppendsLastDigit decimal
unfolding decimal
last_first = record { one = λ k n l. rw (lt-ltb n 10 l, decimal); more = λ k n l. rw (le-ltb n 10 l, decimal) }

-- in as many places as there are digits, or more
printed_in : (places n : ℕ) → n < 2 ^ 64 → length (printed n) ≤ places → decimal places n ≡ printed n
printed_in places n h l = decimal_from_appends decimal last_first places n h l

pub natural_is : (n : ℕ) → n < 2 ^ 64 → natural n ≡ printed n
unfolding natural
natural_is n h = printed_in (suc n) n h (omega (arith, length-decimal-le_succ n h))

-- ---- how many there are

pub length_digit : (d : ℕ) → d < 10 → length (natural d) ≡ 1
length_digit d h = ap length (natural_digit d h)

pub length_tenth : (n : ℕ) → 10 ≤ n → length (natural n) ≡ length (natural (n / 10)) + 1
length_tenth n h = ap length (natural_tenth n h) ∙ length-append (natural (n / 10)) ((48 + n % 10) ∷ [])

pub some_digit : (n : ℕ) → 1 ≤ length (natural n)
some_digit n = go (ltb n 10) refl
  where
    go : (b : Bool) → ltb n 10 ≡ b → 1 ≤ length (natural n)
    go true e = omega (arith, length_digit n (ltb-true n 10 e))
    go false e = omega (arith, length_tenth n (ltb-false n 10 e))

-- a number below 10 ^ (k + 1) has at most k + 1 digits
pub most_digits : (k n : ℕ) → n < 10 ^ suc k → length (natural n) ≤ suc k
most_digits zero n h = omega (arith, length_digit n h)
most_digits (suc k) n h = go (ltb n 10) refl (λ l. most_digits k (n / 10) ((div-lt_iff_lt-mul (lit≤ tt)).1 (rw pow-suc at h)))
  where
    go : (b : Bool) → ltb n 10 ≡ b → (10 ≤ n → length (natural (n / 10)) ≤ suc k) → length (natural n) ≤ suc (suc k)
    go true e r = omega (arith, length_digit n (ltb-true n 10 e))
    go false e r = let l = ltb-false n 10 e in omega (arith, length_tenth n l, r l)
