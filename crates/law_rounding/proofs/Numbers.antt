-- Facts about natural numbers that the files beside this one share. Assumes nothing.
use mathlib.Core.Path.{◌≡◌, refl, ap₂, ◌∙◌, subst}
use mathlib.Core.Logic.{◌⊎◌, inl, inr}
use Prim.Native.Nat.{ℕ, suc, ◌-◌, ◌*◌, ◌/◌, ◌≤◌, ◌<◌, compare, Ordering}
use native.Mathlib.Nat.{mul-sub, mul_comm, le_antisymm, le_of_suc-le-suc, div-lt_iff_lt-mul, le-div_iff_mul-le}
use native.Mathlib.Omega.{arith}
use mathlib.Core.Bool.{Bool, true, false, not}
use lib.Dec.{T, is_le, compare_is_eq, eqb, ltb, ltb→lt, nltb→le, leb→le, nleb→lt, eqb→eq, eqb_refl}

pub less_or_not : (a b : ℕ) → (a < b) ⊎ (b ≤ a)
less_or_not a b = go (ltb a b) (ltb→lt a b) (nltb→le a b)
  where
    go : (t : Bool) → (T t → a < b) → (T (not t) → b ≤ a) → (a < b) ⊎ (b ≤ a)
    go true p q = inl (p tt)
    go false p q = inr (q tt)

pub sub_mul : (a b c : ℕ) → (a - b) * c ≡ a * c - b * c
sub_mul a b c = mul_comm (a - b) c ∙ mul-sub c a b ∙ ap₂ (λ (x y : ℕ). x - y) (mul_comm c a) (mul_comm c b)

-- a quotient by its bounds
pub div_is : (x c a : ℕ) → 0 < c → a * c ≤ x → x < suc a * c → x / c ≡ a
div_is x c a p l u = le_antisymm (le_of_suc-le-suc ((div-lt_iff_lt-mul p).1 u)) ((le-div_iff_mul-le p).1 l)

-- ---- which of two numbers is the larger

pub compare_lt : (a b : ℕ) → a < b → compare a b ≡ Ordering.lt
compare_lt a b h = go (compare a b) (nleb→lt a b) (eqb→eq a b)
  where
    go : (o : Ordering) → (T (not (is_le o)) → b < a) → (T (compare_is_eq o) → a ≡ b) → o ≡ Ordering.lt
    go Ordering.lt p q = refl
    go Ordering.eq p q = let e = q tt in absurd (omega arith)
    go Ordering.gt p q = let e = p tt in absurd (omega arith)

pub compare_gt : (a b : ℕ) → b < a → compare a b ≡ Ordering.gt
compare_gt a b h = go (compare a b) (leb→le a b)
  where
    go : (o : Ordering) → (T (is_le o) → a ≤ b) → o ≡ Ordering.gt
    go Ordering.lt p = let e = p tt in absurd (omega arith)
    go Ordering.eq p = let e = p tt in absurd (omega arith)
    go Ordering.gt p = refl

pub compare_eq : (a b : ℕ) → a ≡ b → compare a b ≡ Ordering.eq
compare_eq a b h = go (compare a b) (subst (λ (x : ℕ). T (eqb a x)) h (eqb_refl a))
  where
    go : (o : Ordering) → T (compare_is_eq o) → o ≡ Ordering.eq
    go Ordering.lt p = absurd p
    go Ordering.eq p = refl
    go Ordering.gt p = absurd p
