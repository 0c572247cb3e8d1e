-- Whole numbers in floats, for either format: the negation is exact, and so are sum, difference and product where the result is within 2 ^ prec.
-- `HasWhole x z` says that x is the whole number z, and it is what the tests of specs/Whole.antt say. Assumes nothing.
use mathlib.Core.Path.{◌≡◌, refl, sym, ap, ap₂, ◌∙◌, subst}
use mathlib.Core.Logic.{inl, inr}
use mathlib.Core.Bool.{Bool, true, false, not}
use Prim.Native.Nat.{ℕ, suc, ◌+◌, ◌-◌, ◌*◌, ◌/◌, ◌%◌, ◌^◌, ◌≤◌}
use native.Mathlib.Nat.{mul-one, le_antisymm, zero-lt-suc, add-zero, mul-div_cancel, mul-mod_left, div-add-mod', le_trans, add-le-add, mul-le-mul}
use native.Mathlib.Omega.{arith}
use lib.Dec.{T, eqb→eq}
use lib.IntN.{ℤ, pos, negsuc, nat_abs, neg_ℤ, neg_ℤ-neg_ℤ, ◌+ℤ◌, ◌-ℤ◌, ◌*ℤ◌, +ℤ_comm, +ℤ_invr}
use lib.Ieee.{Float, nan, inf, fin, Format, prec, unlike, up, down, round, neg, sum, add, sub, mul, of_int}
use lib.Ieee.Fits.{down_pos, eq→eqb}
use lib.Ieee.Exact.{HasValue}
use lib.Ieee.Back.{round_whole}
use Rattle.law_integers.specs.Signs.{signed}
use Rattle.law_integers.proofs.Laws.{nat_abs-negℤ, nat_abs-+ℤ, nat_abs-*ℤ}
use Rattle.law_integers.proofs.Signs.{nat_abs_signed, signed_not, signed_add, signed_sub, signed_mul}
use Rattle.law_rounding.specs.Whole.{is_whole, whole_of}
use Rattle.law_rounding.proofs.Numbers.{less_or_not}
use Rattle.law_rounding.proofs.Sums.{by_signs, sum_like, sum_more, sum_less, sum_none}
use Rattle.law_rounding.proofs.Values.{neg_value, add_values, mul_values}

-- x has the sign, and the size over 1, of the whole number z
pub record HasWhole (x : Float) (z : ℤ) : Type 0 where
  pub sign : Bool
  pub size : ℕ
  pub value : HasValue x sign size 1
  pub number : signed sign size ≡ z

-- ---- the tests

size_is : (m : ℕ) (e : ℤ) (n : ℕ) → m * up e * 1 ≡ n * down e → m * up e ≡ n * down e
size_is m e n v = sym (mul-one (m * up e)) ∙ v

pub whole_test : (x : Float) {z : ℤ} → HasWhole x z → T (is_whole x)
unfolding is_whole
whole_test nan p = p.value
whole_test (inf s) p = p.value
whole_test (fin s m e) p = eq→eqb (ap (λ (k : ℕ). k % down e) (size_is m e p.size p.value.1) ∙ mul-mod_left p.size (down e))

pub whole_number : (x : Float) {z : ℤ} → HasWhole x z → whole_of x ≡ z
unfolding whole_of
whole_number nan p = absurd p.value
whole_number (inf s) p = absurd p.value
whole_number (fin s m e) p =
    ap₂ signed p.value.0 (ap (λ (k : ℕ). k / down e) (size_is m e p.size p.value.1) ∙ mul-div_cancel p.size (down_pos e)) ∙ p.number

pub has_whole : (x : Float) → T (is_whole x) → HasWhole x (whole_of x)
unfolding is_whole whole_of
has_whole nan t = absurd t
has_whole (inf s) t = absurd t
has_whole (fin s m e) t = record {
  sign = s;
  size = m * up e / down e;
  value = (refl, mul-one (m * up e) ∙ sym (div-add-mod' (m * up e) (down e)) ∙ ap (λ (r : ℕ). m * up e / down e * down e + r) (eqb→eq _ 0 t) ∙ add-zero _);
  number = refl;
}

-- ---- the operations

pub neg_whole : {x : Float} {z : ℤ} → HasWhole x z → HasWhole (neg x) (neg_ℤ z)
neg_whole {x} {z} p = record {
  sign = not p.sign;
  size = p.size;
  value = neg_value x p.sign p.size 1 p.value;
  number = signed_not p.sign p.size ∙ ap neg_ℤ p.number;
}

module _ (f : Format) where
  -- what is rounded from a whole number within 2 ^ prec is that number
  rounded : (s : Bool) (n : ℕ) (x : Float) (z : ℤ) → x ≡ round f s n 1 → signed s n ≡ z → nat_abs z ≤ 2 ^ prec f → HasWhole x z
  rounded s n x z e q h =
      let small : n ≤ 2 ^ prec f = subst (λ (k : ℕ). k ≤ 2 ^ prec f) (ap nat_abs (sym q) ∙ nat_abs_signed s n) h in
      record { sign = s; size = n; value = subst (λ (y : Float). HasValue y s n 1) (sym e) (round_whole f s n small); number = q }

  sum_whole : (s : Bool) (a : ℕ) (t : Bool) (b : ℕ) → nat_abs (signed s a +ℤ signed t b) ≤ 2 ^ prec f
      → HasWhole (sum f s a t b 1) (signed s a +ℤ signed t b)
  sum_whole s a t b =
      by_signs (λ (s t : Bool). nat_abs (signed s a +ℤ signed t b) ≤ 2 ^ prec f → HasWhole (sum f s a t b 1) (signed s a +ℤ signed t b))
      like other s t
    where
      like : (s : Bool) → nat_abs (signed s a +ℤ signed s b) ≤ 2 ^ prec f → HasWhole (sum f s a s b 1) (signed s a +ℤ signed s b)
      like s = rounded s (a + b) _ _ (sum_like f s a b 1) (signed_add s a b)

      other : (s : Bool) → nat_abs (signed s a +ℤ signed (not s) b) ≤ 2 ^ prec f → HasWhole (sum f s a (not s) b 1) (signed s a +ℤ signed (not s) b)
      other s = elim (less_or_not b a) [
        | inl l ↦ rounded s (a - b) _ _ (sum_more f s a b 1 l) (signed_sub s a b (omega arith) ∙ ap (λ (z : ℤ). signed s a +ℤ z) (sym (signed_not s b)))
        | inr g ↦ elim (less_or_not a b) [
          | inl l ↦ rounded (not s) (b - a) _ _ (sum_less f s a b 1 l)
              (signed_sub (not s) b a g
              ∙ ap (λ (z : ℤ). signed (not s) b +ℤ z) (ap neg_ℤ (signed_not s a) ∙ neg_ℤ-neg_ℤ (signed s a))
              ∙ +ℤ_comm (signed (not s) b) (signed s a))
          | inr h ↦
              let e : a ≡ b = le_antisymm g h in
              rounded false 0 _ _ (ap (λ (k : ℕ). sum f s a (not s) k 1) (sym e) ∙ sum_none f s a 1)
              (sym (ap (λ (z : ℤ). signed s a +ℤ z) (signed_not s b ∙ ap (λ (k : ℕ). neg_ℤ (signed s k)) (sym e)) ∙ +ℤ_invr (signed s a)))
        ]
      ]

  pub add_whole : {x y : Float} {a b : ℤ} → HasWhole x a → HasWhole y b → nat_abs (a +ℤ b) ≤ 2 ^ prec f → HasWhole (add f x y) (a +ℤ b)
  add_whole {x} {y} {a} {b} p q h =
      rw (
        add_values f x y p.sign p.size q.sign q.size 1 (zero-lt-suc 0) p.value q.value,
        ← p.number,
        ← q.number,
      ) (sum_whole p.sign p.size q.sign q.size (rw (p.number, q.number) h))

  pub sub_whole : {x y : Float} {a b : ℤ} → HasWhole x a → HasWhole y b → nat_abs (a -ℤ b) ≤ 2 ^ prec f → HasWhole (sub f x y) (a -ℤ b)
  unfolding sub
  sub_whole p q h = add_whole p (neg_whole q) h

  pub mul_whole : {x y : Float} {a b : ℤ} → HasWhole x a → HasWhole y b → nat_abs (a *ℤ b) ≤ 2 ^ prec f → HasWhole (mul f x y) (a *ℤ b)
  mul_whole {x} {y} {a} {b} p q h =
      rounded (unlike p.sign q.sign) (p.size * q.size) _ _
      (mul_values f x y p.sign p.size 1 q.sign q.size 1 (zero-lt-suc 0) (zero-lt-suc 0) p.value q.value)
      (signed_mul p.sign q.sign p.size q.size ∙ ap₂ ◌*ℤ◌ p.number q.number) h

  pub of_int_whole : (z : ℤ) → nat_abs z ≤ 2 ^ prec f → HasWhole (of_int f z) z
  unfolding of_int
  of_int_whole (pos n) h = rounded false n _ _ refl refl h
  of_int_whole (negsuc n) h = rounded true (suc n) _ _ refl refl h

-- ---- the same with bounds, which bound the result

-- x is the whole number z, which is no larger than n
pub record Within (n : ℕ) (x : Float) (z : ℤ) : Type 0 where
  pub whole : HasWhole x z
  pub bound : nat_abs z ≤ n

module _ (f : Format) {a b : ℕ} {x y : Float} {p q : ℤ} where
  pub within_add : a + b ≤ 2 ^ prec f → Within a x p → Within b y q → Within (a + b) (add f x y) (p +ℤ q)
  within_add h u v =
      let most : nat_abs (p +ℤ q) ≤ a + b = le_trans (nat_abs-+ℤ p q) (add-le-add u.bound v.bound) in
      record { whole = add_whole f u.whole v.whole (le_trans most h); bound = most }

  pub within_sub : a + b ≤ 2 ^ prec f → Within a x p → Within b y q → Within (a + b) (sub f x y) (p -ℤ q)
  within_sub h u v =
      let most : nat_abs (p -ℤ q) ≤ a + b = le_trans (nat_abs-+ℤ p (neg_ℤ q)) (add-le-add u.bound (rw nat_abs-negℤ v.bound)) in
      record { whole = sub_whole f u.whole v.whole (le_trans most h); bound = most }

  pub within_mul : a * b ≤ 2 ^ prec f → Within a x p → Within b y q → Within (a * b) (mul f x y) (p *ℤ q)
  within_mul h u v =
      let most : nat_abs (p *ℤ q) ≤ a * b = rw nat_abs-*ℤ (mul-le-mul u.bound v.bound) in
      record { whole = mul_whole f u.whole v.whole (le_trans most h); bound = most }
