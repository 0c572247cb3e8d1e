-- Decimal numbers: a number's digits are those of its tenth and one more, and reading them gives the number back. Assumes nothing.
use Prim.{Unit, tt}
use mathlib.Core.Path.{◌≡◌, refl, ap, subst, ◌∙◌}
use mathlib.Core.Bool.{Bool, true, false, ◌&&◌}
use mathlib.Core.List.{List, [], ◌∷◌, ◌++◌, append_assoc}
use Prim.Native.Nat.{ℕ, zero, suc, ◌+◌, ◌-◌, ◌*◌, ◌/◌, ◌%◌, ◌<◌, ◌≤◌}
use native.Mathlib.Omega.{arith}
use lib.Dec.{leb, ltb}
use borrow.Author.Tests.{ltb-true, ltb-false, leb-true, lt-ltb, le-ltb, le-leb}
use Rattle.rules.specs.Sheets.{decimal, natural}
use Rattle.rules.specs.SheetReading.{Read, got, is_digit, is_first, digits, positive}

-- more fuel than the number changes nothing
enough : (f g n : ℕ) → n < f → n < g → decimal f n ≡ decimal g n
unfolding decimal
enough zero g n h k = absurd (omega arith)
enough (suc f) zero n h k = absurd (omega arith)
enough (suc f) (suc g) n h k = go (ltb n 10) refl (λ l. enough f g (n / 10) (omega arith) (omega arith))
  where
    go : (b : Bool) → ltb n 10 ≡ b → (10 ≤ n → decimal f (n / 10) ≡ decimal g (n / 10)) → decimal (suc f) n ≡ decimal (suc g) n
    go true e r = rw (e, decimal)
    go false e r = rw (e, decimal) (ap (λ l. l ++ ((48 + n % 10) ∷ [])) (r (ltb-false n 10 e)))

pub natural_digit : (d : ℕ) → d < 10 → natural d ≡ (48 + d) ∷ []
unfolding natural decimal
natural_digit d h = rw (lt-ltb d 10 h, decimal)

last_digit : (m : ℕ) → 10 ≤ m → decimal (suc m) m ≡ decimal m (m / 10) ++ ((48 + m % 10) ∷ [])
unfolding decimal
last_digit m l = rw (le-ltb m 10 l, decimal)

pub natural_tenth : (n : ℕ) → 10 ≤ n → natural n ≡ natural (n / 10) ++ ((48 + n % 10) ∷ [])
unfolding natural
natural_tenth n h = last_digit n h ∙ ap (λ l. l ++ ((48 + n % 10) ∷ [])) (enough n (suc (n / 10)) (n / 10) (omega arith) (omega arith))

natural_more : (n d : ℕ) → 1 ≤ n → d < 10 → natural (n * 10 + d) ≡ natural n ++ ((48 + d) ∷ [])
natural_more n d h k =
    let q : (n * 10 + d) / 10 ≡ n = omega arith in
    let r : (n * 10 + d) % 10 ≡ d = omega arith in
    natural_tenth (n * 10 + d) (omega arith) ∙ rw (q, r)

-- ---- a digit, or not

pub digit_bounds : (b : ℕ) → is_digit b ≡ true → (48 ≤ b) × (b ≤ 57)
digit_bounds b e = go (leb 48 b) refl (leb b 57) refl e
  where
    go : (x : Bool) → leb 48 b ≡ x → (y : Bool) → leb b 57 ≡ y → x && y ≡ true → (48 ≤ b) × (b ≤ 57)
    go true p true q e = (leb-true 48 b p, leb-true b 57 q)
    go true p false q e = let z : ◌≡◌ {A = ℕ} 0 1 = cc in absurd (omega arith)
    go false p true q e = let z : ◌≡◌ {A = ℕ} 0 1 = cc in absurd (omega arith)
    go false p false q e = let z : ◌≡◌ {A = ℕ} 0 1 = cc in absurd (omega arith)

pub first_bounds : (b : ℕ) → is_first b ≡ true → (49 ≤ b) × (b ≤ 57)
first_bounds b e = go (leb 49 b) refl (leb b 57) refl e
  where
    go : (x : Bool) → leb 49 b ≡ x → (y : Bool) → leb b 57 ≡ y → x && y ≡ true → (49 ≤ b) × (b ≤ 57)
    go true p true q e = (leb-true 49 b p, leb-true b 57 q)
    go true p false q e = let z : ◌≡◌ {A = ℕ} 0 1 = cc in absurd (omega arith)
    go false p true q e = let z : ◌≡◌ {A = ℕ} 0 1 = cc in absurd (omega arith)
    go false p false q e = let z : ◌≡◌ {A = ℕ} 0 1 = cc in absurd (omega arith)

pub is_digit_lem : (b : ℕ) → 48 ≤ b → b ≤ 57 → is_digit b ≡ true
is_digit_lem b h k = simp (le-leb 48 b h, le-leb b 57 k)

pub is_first_lem : (b : ℕ) → 49 ≤ b → b ≤ 57 → is_first b ≡ true
is_first_lem b h k = simp (le-leb 49 b h, le-leb b 57 k)

-- the text does not begin with a digit
unfoldable pub Stops : List ℕ → Type 0
Stops [] = Unit {0}
Stops (b ∷ t) = is_digit b ≡ false

-- ---- reading digits

module _ (fits : ℕ → Bool) (over : List ℕ → Read ℕ) where
  pub digits_end : (n : ℕ) (z : List ℕ) → Stops z → digits fits over n z ≡ got n z
  unfolding digits Stops
  digits_end n [] h = refl
  digits_end n (b ∷ z) h = rw (h, digits)

  pub digits_byte : (n b : ℕ) (z : List ℕ) → is_digit b ≡ true → fits (n * 10 + (b - 48)) ≡ true → digits fits over n (b ∷ z)
      ≡ digits fits over (n * 10 + (b - 48)) z
  unfolding digits
  digits_byte n b z h f = rw (h, f, digits)

  pub digits_over : (n b : ℕ) (z : List ℕ) → is_digit b ≡ true → fits (n * 10 + (b - 48)) ≡ false → digits fits over n (b ∷ z) ≡ over (b ∷ z)
  unfolding digits
  digits_over n b z h f = rw (h, f, digits)

  pub digits_step : (n d : ℕ) (z : List ℕ) → d < 10 → fits (n * 10 + d) ≡ true → digits fits over n ((48 + d) ∷ z) ≡ digits fits over (n * 10 + d) z
  digits_step n d z h f =
      let e : 48 + d - 48 ≡ d = omega arith in
      digits_byte n (48 + d) z (is_digit_lem (48 + d) (omega arith) (omega arith)) (rw e f) ∙ rw e

  first_step : (d : ℕ) (z : List ℕ) → 1 ≤ d → d < 10 → positive fits over ((48 + d) ∷ z) ≡ digits fits over d z
  unfolding positive
  first_step d z h k = let e : 48 + d - 48 ≡ d = omega arith in rw (is_first_lem (48 + d) (omega arith) (omega arith), e, positive)

  -- the digits of v, read on
  module _ (shorter : (n d : ℕ) → fits (n * 10 + d) ≡ true → fits n ≡ true) where
    reads : (f v : ℕ) → v < f → 1 ≤ v → fits v ≡ true → (z : List ℕ) → positive fits over (natural v ++ z) ≡ digits fits over v z
    reads zero v l h k z = absurd (omega arith)
    reads (suc f) v l h k z = go (ltb v 10) refl (λ w q p i y. reads f w q p i y)
      where
        go : (b : Bool) → ltb v 10 ≡ b → ((w : ℕ) → w < f → 1 ≤ w → fits w ≡ true → (y : List ℕ) → positive fits over (natural w ++ y) ≡ digits fits over w y)
            → positive fits over (natural v ++ z) ≡ digits fits over v z
        go true e r = let m = ltb-true v 10 e in rw (natural_digit v m) (first_step v z h m)
        go false e r =
            let m = ltb-false v 10 e in
            let s : v / 10 * 10 + v % 10 ≡ v = omega arith in
            let k' : fits (v / 10 * 10 + v % 10) ≡ true = rw s k in
            ap (λ l. positive fits over (l ++ z)) (natural_tenth v m)
            ∙ ap (positive fits over) (append_assoc (natural (v / 10)) ((48 + v % 10) ∷ []) z)
            ∙ r (v / 10) (omega arith) (omega arith) (shorter (v / 10) (v % 10) k') ((48 + v % 10) ∷ z)
            ∙ digits_step (v / 10) (v % 10) z (omega arith) k'
            ∙ ap (λ x. digits fits over x z) s

    pub positive_reads : (v : ℕ) → 1 ≤ v → fits v ≡ true → (z : List ℕ) → positive fits over (natural v ++ z) ≡ digits fits over v z
    positive_reads v = reads (suc v) v (omega arith)

    pub positive_complete : (v : ℕ) → 1 ≤ v → fits v ≡ true → (z : List ℕ) → Stops z → positive fits over (natural v ++ z) ≡ got v z
    positive_complete v h k z w = positive_reads v h k z ∙ digits_end v z w

-- what digits lead to: the number's digits and what stops it, or a digit that takes it past the limit
pub data DigitsOut (fits : ℕ → Bool) (t : List ℕ) (over : List ℕ → Read ℕ) (x : Read ℕ) : Type 0 where
  ended : (v : ℕ) (z : List ℕ) → x ≡ got v z → t ≡ natural v ++ z → 1 ≤ v → fits v ≡ true → Stops z → DigitsOut fits t over x
  passed : (v b : ℕ) (z : List ℕ) → x ≡ over (b ∷ z) → t ≡ natural v ++ (b ∷ z) → 1 ≤ v → fits v ≡ true → is_digit b ≡ true → fits (v * 10 + (b - 48)) ≡ false
      → DigitsOut fits t over x

module _ (fits : ℕ → Bool) (over : List ℕ → Read ℕ) where
  pub digits_out : (n : ℕ) (t : List ℕ) → 1 ≤ n → fits n ≡ true → DigitsOut fits (natural n ++ t) over (digits fits over n t)
  unfolding Stops
  digits_out n [] h k = ended n [] (digits_end fits over n [] tt) refl h k tt
  digits_out n (b ∷ t) h k = go (is_digit b) refl (fits (n * 10 + (b - 48))) refl (λ q. digits_out (n * 10 + (b - 48)) t (omega arith) q)
    where
      go : (x : Bool) → is_digit b ≡ x → (y : Bool) → fits (n * 10 + (b - 48)) ≡ y
          → (fits (n * 10 + (b - 48)) ≡ true → DigitsOut fits (natural (n * 10 + (b - 48)) ++ t) over (digits fits over (n * 10 + (b - 48)) t))
          → DigitsOut fits (natural n ++ (b ∷ t)) over (digits fits over n (b ∷ t))
      go false p y q r = ended n (b ∷ t) (digits_end fits over n (b ∷ t) p) refl h k p
      go true p false q r = passed n b t (digits_over fits over n b t p q) refl h k p q
      go true p true q r =
          let m = digit_bounds b p in
          let e : 48 + (b - 48) ≡ b = omega arith in
          let f : natural (n * 10 + (b - 48)) ++ t ≡ natural n ++ (b ∷ t) =
          ap (λ l. l ++ t) (natural_more n (b - 48) h (omega arith)) ∙ append_assoc (natural n) ((48 + (b - 48)) ∷ []) t ∙ ap (λ c. natural n ++ (c ∷ t)) e in
          rw (digits_byte fits over n b t p q) (subst (λ l. DigitsOut fits l over (digits fits over (n * 10 + (b - 48)) t)) f (r q))
