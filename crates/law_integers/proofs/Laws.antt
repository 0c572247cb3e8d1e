-- Laws of the kit's whole numbers that the kit does not have: the product distributes over the sum and is associative, and the magnitudes of a sum, of a
-- product and of a negation. The product's laws go by one more and one less in the first factor. Assumes nothing.
use mathlib.Core.Path.{◌≡◌, refl, sym, ap, ap₂, ◌∙◌}
use mathlib.Core.Bool.{Bool, true, false, cond}
use Prim.Native.Nat.{ℕ, zero, suc, ◌+◌, ◌-◌, ◌*◌, ◌≤◌, ◌<◌}
use native.Mathlib.Nat.{le_refl}
use native.Mathlib.Omega.{arith}
use lib.Dec.{T, ltb, ltb→lt}
use lib.IntN.{ℤ, pos, negsuc, suc_ℤ, pred_ℤ, nat_abs, neg_ℤ, sub_ℕ, ◌+ℤ◌, ◌-ℤ◌, ◌*ℤ◌, suc_ℤ-+ℤ, pred_ℤ-+ℤ, suc_ℤ-*ℤ, pred_ℤ-*ℤ}
use lib.IntN.{+ℤ_idl, +ℤ_assoc, +ℤ_comm, -ℤ-+ℤ_cancel, zero-*ℤ, one, *ℤ-one, *ℤ_comm, neg_ℤ-neg_ℤ}

-- ---- sums

pub +ℤ-right_comm : (a b c : ℤ) → a +ℤ b +ℤ c ≡ a +ℤ c +ℤ b
+ℤ-right_comm a b c = +ℤ_assoc a b c ∙ ap (λ (x : ℤ). a +ℤ x) (+ℤ_comm b c) ∙ sym (+ℤ_assoc a c b)

pub +ℤ-swap : (a b c d : ℤ) → a +ℤ b +ℤ (c +ℤ d) ≡ a +ℤ c +ℤ (b +ℤ d)
+ℤ-swap a b c d = sym (+ℤ_assoc (a +ℤ b) c d) ∙ ap (λ (x : ℤ). x +ℤ d) (+ℤ-right_comm a b c) ∙ +ℤ_assoc (a +ℤ c) b d

-- two numbers whose difference is zero
pub difference_zero : (a b : ℤ) → a -ℤ b ≡ pos 0 → a ≡ b
difference_zero a b e = sym (-ℤ-+ℤ_cancel a b) ∙ ap (λ (x : ℤ). x +ℤ b) e ∙ +ℤ_idl b

-- ---- products

-- one more of c, and one less, by what is known of a
one_more : (a b c : ℤ) → (a +ℤ b) *ℤ c ≡ a *ℤ c +ℤ b *ℤ c → (suc_ℤ a +ℤ b) *ℤ c ≡ suc_ℤ a *ℤ c +ℤ b *ℤ c
one_more a b c e =
    ap (λ (x : ℤ). x *ℤ c) (suc_ℤ-+ℤ a b)
    ∙ suc_ℤ-*ℤ (a +ℤ b) c
    ∙ ap (λ (x : ℤ). x +ℤ c) e
    ∙ +ℤ-right_comm (a *ℤ c) (b *ℤ c) c
    ∙ ap (λ (x : ℤ). x +ℤ b *ℤ c) (sym (suc_ℤ-*ℤ a c))

one_less : (a b c : ℤ) → (a +ℤ b) *ℤ c ≡ a *ℤ c +ℤ b *ℤ c → (pred_ℤ a +ℤ b) *ℤ c ≡ pred_ℤ a *ℤ c +ℤ b *ℤ c
one_less a b c e =
    ap (λ (x : ℤ). x *ℤ c) (pred_ℤ-+ℤ a b)
    ∙ pred_ℤ-*ℤ (a +ℤ b) c
    ∙ ap (λ (x : ℤ). x -ℤ c) e
    ∙ +ℤ-right_comm (a *ℤ c) (b *ℤ c) (neg_ℤ c)
    ∙ ap (λ (x : ℤ). x +ℤ b *ℤ c) (sym (pred_ℤ-*ℤ a c))

none_more : (b c : ℤ) → (pos zero +ℤ b) *ℤ c ≡ pos zero *ℤ c +ℤ b *ℤ c
none_more b c = ap (λ (x : ℤ). x *ℤ c) (+ℤ_idl b) ∙ sym (ap (λ (x : ℤ). x +ℤ b *ℤ c) (zero-*ℤ c) ∙ +ℤ_idl (b *ℤ c))

pub +ℤ-*ℤ : (a b c : ℤ) → (a +ℤ b) *ℤ c ≡ a *ℤ c +ℤ b *ℤ c
+ℤ-*ℤ (pos zero) b c = none_more b c
+ℤ-*ℤ (pos (suc n)) b c = one_more (pos n) b c (+ℤ-*ℤ (pos n) b c)
+ℤ-*ℤ (negsuc zero) b c = one_less (pos zero) b c (none_more b c)
+ℤ-*ℤ (negsuc (suc n)) b c = one_less (negsuc n) b c (+ℤ-*ℤ (negsuc n) b c)

pub *ℤ-+ℤ : (a b c : ℤ) → a *ℤ (b +ℤ c) ≡ a *ℤ b +ℤ a *ℤ c
*ℤ-+ℤ a b c = *ℤ_comm a (b +ℤ c) ∙ +ℤ-*ℤ b c a ∙ ap₂ ◌+ℤ◌ (*ℤ_comm b a) (*ℤ_comm c a)

pub one-*ℤ : (a : ℤ) → pos 1 *ℤ a ≡ a
unfolding one
one-*ℤ a = *ℤ_comm (pos 1) a ∙ *ℤ-one a

pub negℤ-*ℤ : (a b : ℤ) → neg_ℤ a *ℤ b ≡ neg_ℤ (a *ℤ b)
negℤ-*ℤ (pos zero) b = zero-*ℤ b ∙ ap neg_ℤ (sym (zero-*ℤ b))
negℤ-*ℤ (pos (suc n)) (pos k) = refl
negℤ-*ℤ (pos (suc n)) (negsuc k) = sym (neg_ℤ-neg_ℤ (pos (suc n * suc k)))
negℤ-*ℤ (negsuc n) (pos k) = sym (neg_ℤ-neg_ℤ (pos (suc n * k)))
negℤ-*ℤ (negsuc n) (negsuc k) = refl

assoc_more : (a b c : ℤ) → a *ℤ b *ℤ c ≡ a *ℤ (b *ℤ c) → suc_ℤ a *ℤ b *ℤ c ≡ suc_ℤ a *ℤ (b *ℤ c)
assoc_more a b c e =
    ap (λ (x : ℤ). x *ℤ c) (suc_ℤ-*ℤ a b) ∙ +ℤ-*ℤ (a *ℤ b) b c ∙ ap (λ (x : ℤ). x +ℤ b *ℤ c) e ∙ sym (suc_ℤ-*ℤ a (b *ℤ c))

assoc_less : (a b c : ℤ) → a *ℤ b *ℤ c ≡ a *ℤ (b *ℤ c) → pred_ℤ a *ℤ b *ℤ c ≡ pred_ℤ a *ℤ (b *ℤ c)
assoc_less a b c e =
    ap (λ (x : ℤ). x *ℤ c) (pred_ℤ-*ℤ a b) ∙ +ℤ-*ℤ (a *ℤ b) (neg_ℤ b) c ∙ ap₂ ◌+ℤ◌ e (negℤ-*ℤ b c) ∙ sym (pred_ℤ-*ℤ a (b *ℤ c))

assoc_none : (b c : ℤ) → pos zero *ℤ b *ℤ c ≡ pos zero *ℤ (b *ℤ c)
assoc_none b c = ap (λ (x : ℤ). x *ℤ c) (zero-*ℤ b) ∙ zero-*ℤ c ∙ sym (zero-*ℤ (b *ℤ c))

pub *ℤ-assoc : (a b c : ℤ) → a *ℤ b *ℤ c ≡ a *ℤ (b *ℤ c)
*ℤ-assoc (pos zero) b c = assoc_none b c
*ℤ-assoc (pos (suc n)) b c = assoc_more (pos n) b c (*ℤ-assoc (pos n) b c)
*ℤ-assoc (negsuc zero) b c = assoc_less (pos zero) b c (assoc_none b c)
*ℤ-assoc (negsuc (suc n)) b c = assoc_less (negsuc n) b c (*ℤ-assoc (negsuc n) b c)

pub *ℤ-left_comm : (a b c : ℤ) → a *ℤ (b *ℤ c) ≡ b *ℤ (a *ℤ c)
*ℤ-left_comm a b c = sym (*ℤ-assoc a b c) ∙ ap (λ (z : ℤ). z *ℤ c) (*ℤ_comm a b) ∙ *ℤ-assoc b a c

-- ---- magnitudes

pub nat_abs-negℤ : (a : ℤ) → nat_abs (neg_ℤ a) ≡ nat_abs a
nat_abs-negℤ (pos zero) = refl
nat_abs-negℤ (pos (suc n)) = refl
nat_abs-negℤ (negsuc n) = refl

pub nat_abs-*ℤ : (a b : ℤ) → nat_abs (a *ℤ b) ≡ nat_abs a * nat_abs b
nat_abs-*ℤ (pos a) (pos b) = refl
nat_abs-*ℤ (pos a) (negsuc b) = nat_abs-negℤ (pos (a * suc b))
nat_abs-*ℤ (negsuc a) (pos b) = nat_abs-negℤ (pos (suc a * b))
nat_abs-*ℤ (negsuc a) (negsuc b) = refl

nat_abs-subℕ : (a b : ℕ) → nat_abs (sub_ℕ a b) ≤ a + b
nat_abs-subℕ a b = go (ltb a b) (ltb→lt a b)
  where
    go : (t : Bool) → (T t → a < b) → nat_abs (cond t (negsuc (b - suc a)) (pos (a - b))) ≤ a + b
    go true l = let h = l tt in omega arith
    go false l = omega arith

-- a sum is no larger than its summands together
pub nat_abs-+ℤ : (a b : ℤ) → nat_abs (a +ℤ b) ≤ nat_abs a + nat_abs b
nat_abs-+ℤ (pos a) (pos b) = le_refl (a + b)
nat_abs-+ℤ (pos a) (negsuc b) = nat_abs-subℕ a (suc b)
nat_abs-+ℤ (negsuc a) (pos b) = let h = nat_abs-subℕ b (suc a) in omega arith
nat_abs-+ℤ (negsuc a) (negsuc b) = omega arith
