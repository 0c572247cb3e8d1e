-- Laws of the kit's `sum`, which adds two fractions with their signs and rounds once. Assumes nothing.
use mathlib.Core.Path.{◌≡◌, refl, sym, ap, ap₂, ◌∙◌, subst}
use mathlib.Core.Logic.{inl, inr}
use Prim.Native.Nat.{ℕ, ◌+◌, ◌-◌, ◌*◌, ◌<◌}
use native.Mathlib.Nat.{add-mul, add_comm, mul-lt-mul_of_pos_right, lt_of_mul-lt-mul_right, sub_self, le_of_eq, le_of_lt, le_antisymm}
use mathlib.Core.Bool.{Bool, true, false, not, ◌&&◌, beq, cond}
use lib.Dec.{T, ltb, ltb→lt, lt→ltb}
use lib.Arith.{le→nltb}
use lib.Ieee.{Format, round, sum}
use lib.Ieee.Bits.{is_true, is_false}
use lib.Ieee.Scale.{round_same}
use Rattle.law_rounding.proofs.Numbers.{less_or_not, sub_mul}

pub same_test : (a b : Bool) → (T a → T b) → (T b → T a) → a ≡ b
same_test true true p q = refl
same_test true false p q = absurd (p tt)
same_test false true p q = absurd (q tt)
same_test false false p q = refl

pub and_true : (s : Bool) → (s && true) ≡ s
and_true true = refl
and_true false = refl

pub not_not : (s : Bool) → not (not s) ≡ s
not_not true = refl
not_not false = refl

-- which sign the other has
pub signs_like : (b s : Bool) → beq b s ≡ true → s ≡ b
signs_like true true e = refl
signs_like true false e = e
signs_like false true e = sym e
signs_like false false e = refl

pub signs_unlike : (b s : Bool) → beq b s ≡ false → s ≡ not b
signs_unlike true true e = e
signs_unlike true false e = refl
signs_unlike false true e = refl
signs_unlike false false e = sym e

-- two signs are alike, or the second is the other
pub by_signs : (P : Bool → Bool → Type 0) → ((s : Bool) → P s s) → ((s : Bool) → P s (not s)) → (s t : Bool) → P s t
by_signs P like other true true = like true
by_signs P like other true false = other true
by_signs P like other false true = other false
by_signs P like other false false = like false

sum_is : (f : Format) (s : Bool) (a : ℕ) (t : Bool) (b c : ℕ)
    → sum f s a t b c ≡ cond (beq s t) (round f s (a + b) c) (cond (ltb a b) (round f t (b - a) c) (round f (s && ltb b a) (a - b) c))
unfolding sum
sum_is f s a t b c = refl

-- equal fractions have equal sums
pub sum_same : (f : Format) (s : Bool) (a : ℕ) (t : Bool) (b c a' b' c' : ℕ) → 0 < c → 0 < c' → a * c' ≡ a' * c → b * c' ≡ b' * c
    → sum f s a t b c ≡ sum f s a' t b' c'
sum_same f s a t b c a' b' c' p p' x y =
    sum_is f s a t b c
    ∙ ap₂ (cond (beq s t)) (round_same f s (a + b) c (a' + b') c' p p' (add-mul a b c' ∙ ap₂ (λ (m n : ℕ). m + n) x y ∙ sym (add-mul a' b' c)))
    (ap₂ (λ (u v : Bool). cond u (round f t (b - a) c) (round f (s && v) (a - b) c)) (order a b a' b' x y) (order b a b' a' y x)
    ∙ ap₂ (cond (ltb a' b'))
    (round_same f t (b - a) c (b' - a') c' p p' (difference b a b' a' y x))
    (round_same f (s && ltb b' a') (a - b) c (a' - b') c' p p' (difference a b a' b' x y)))
    ∙ sym (sum_is f s a' t b' c')
  where
    crossed : (a b a' b' c c' : ℕ) → 0 < c' → a * c' ≡ a' * c → b * c' ≡ b' * c → a < b → a' < b'
    crossed a b a' b' c c' q x y l = lt_of_mul-lt-mul_right c (subst (λ (m : ℕ). m < b' * c) x (subst (λ (m : ℕ). a * c' < m) y (mul-lt-mul_of_pos_right l q)))

    order : (a b a' b' : ℕ) → a * c' ≡ a' * c → b * c' ≡ b' * c → ltb a b ≡ ltb a' b'
    order a b a' b' x y =
        same_test (ltb a b) (ltb a' b')
        (λ h. lt→ltb a' b' (crossed a b a' b' c c' p' x y (ltb→lt a b h)))
        (λ h. lt→ltb a b (crossed a' b' a b c' c p (sym x) (sym y) (ltb→lt a' b' h)))

    difference : (a b a' b' : ℕ) → a * c' ≡ a' * c → b * c' ≡ b' * c → (a - b) * c' ≡ (a' - b') * c
    difference a b a' b' x y = sub_mul a b c' ∙ ap₂ (λ (m n : ℕ). m - n) x y ∙ sym (sub_mul a' b' c)

-- ---- by the signs, and by which is the larger

pub sum_like : (f : Format) (s : Bool) (a b c : ℕ) → sum f s a s b c ≡ round f s (a + b) c
sum_like f true a b c = sum_is f true a true b c
sum_like f false a b c = sum_is f false a false b c

-- with unlike signs
apart : (f : Format) (s : Bool) (a b c : ℕ) → sum f s a (not s) b c ≡ cond (ltb a b) (round f (not s) (b - a) c) (round f (s && ltb b a) (a - b) c)
apart f true a b c = sum_is f true a false b c
apart f false a b c = sum_is f false a true b c

pub sum_more : (f : Format) (s : Bool) (a b c : ℕ) → b < a → sum f s a (not s) b c ≡ round f s (a - b) c
sum_more f s a b c l =
    apart f s a b c
    ∙ ap₂ (λ (u v : Bool). cond u (round f (not s) (b - a) c) (round f (s && v) (a - b) c))
    (is_false (ltb a b) (le→nltb a b (le_of_lt l)))
    (is_true (ltb b a) (lt→ltb b a l))
    ∙ ap (λ (v : Bool). round f v (a - b) c) (and_true s)

pub sum_less : (f : Format) (s : Bool) (a b c : ℕ) → a < b → sum f s a (not s) b c ≡ round f (not s) (b - a) c
sum_less f s a b c l =
    apart f s a b c
    ∙ ap (λ (u : Bool). cond u (round f (not s) (b - a) c) (round f (s && ltb b a) (a - b) c)) (is_true (ltb a b) (lt→ltb a b l))

pub sum_none : (f : Format) (s : Bool) (a c : ℕ) → sum f s a (not s) a c ≡ round f false 0 c
sum_none f s a c =
    apart f s a a c
    ∙ ap (λ (u : Bool). cond u (round f (not s) (a - a) c) (round f (s && u) (a - a) c)) (is_false (ltb a a) (le→nltb a a (le_of_eq refl)))
    ∙ ap₂ (λ (v : Bool) (x : ℕ). round f v x c) (and_false s) (sub_self a)
  where
    and_false : (s : Bool) → (s && false) ≡ false
    and_false true = refl
    and_false false = refl

pub sum_swap : (f : Format) (s : Bool) (a : ℕ) (t : Bool) (b c : ℕ) → sum f s a t b c ≡ sum f t b s a c
sum_swap f s a t b c = by_signs (λ (s t : Bool). sum f s a t b c ≡ sum f t b s a c) same swapped s t
  where
    other : (s : Bool) → sum f s a (not s) b c ≡ sum f (not s) b (not (not s)) a c
    other s = elim (less_or_not a b) [
      | inl l ↦ sum_less f s a b c l ∙ sym (sum_more f (not s) b a c l)
      | inr g ↦ elim (less_or_not b a) [
        | inl l ↦ sum_more f s a b c l ∙ ap (λ (v : Bool). round f v (a - b) c) (sym (not_not s)) ∙ sym (sum_less f (not s) b a c l)
        | inr h ↦
            let e : a ≡ b = le_antisymm h g in
            ap (λ (x : ℕ). sum f s x (not s) b c) e
            ∙ sum_none f s b c
            ∙ sym (sum_none f (not s) b c)
            ∙ ap (λ (x : ℕ). sum f (not s) b (not (not s)) x c) (sym e)
      ]
    ]

    same : (s : Bool) → sum f s a s b c ≡ sum f s b s a c
    same s = sum_like f s a b c ∙ ap (λ (x : ℕ). round f s x c) (add_comm a b) ∙ sym (sum_like f s b a c)

    swapped : (s : Bool) → sum f s a (not s) b c ≡ sum f (not s) b s a c
    swapped s = other s ∙ ap (λ (t : Bool). sum f (not s) b t a c) (not_not s)

-- ---- the same of two multiples

pub like_times : (f : Format) (s : Bool) (a b m c : ℕ) → sum f s (a * m) s (b * m) c ≡ round f s ((a + b) * m) c
like_times f s a b m c = sum_like f s (a * m) (b * m) c ∙ ap (λ (n : ℕ). round f s n c) (sym (add-mul a b m))

pub more_times : (f : Format) (s : Bool) (a b m c : ℕ) → 0 < m → b < a → sum f s (a * m) (not s) (b * m) c ≡ round f s ((a - b) * m) c
more_times f s a b m c p l = sum_more f s (a * m) (b * m) c (mul-lt-mul_of_pos_right l p) ∙ ap (λ (n : ℕ). round f s n c) (sym (sub_mul a b m))

pub less_times : (f : Format) (s : Bool) (a b m c : ℕ) → 0 < m → a < b → sum f s (a * m) (not s) (b * m) c ≡ round f (not s) ((b - a) * m) c
less_times f s a b m c p l = sum_less f s (a * m) (b * m) c (mul-lt-mul_of_pos_right l p) ∙ ap (λ (n : ℕ). round f (not s) n c) (sym (sub_mul b a m))
