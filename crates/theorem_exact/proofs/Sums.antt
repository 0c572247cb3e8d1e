-- Laws of sums of whole numbers, and of linear forms: sums of coefficients times numbers. Assumes nothing.
use mathlib.Core.Path.{◌≡◌, refl, sym, ap, ap₂, ◌∙◌}
use mathlib.Core.Bool.{Bool, cond}
use mathlib.Core.Logic.{◌⊎◌, inl, inr}
use Prim.Native.Nat.{ℕ, zero, suc, ◌+◌, ◌<◌}
use native.Mathlib.Nat.{add-zero, add-suc, not-suc-le-zero}
use native.Mathlib.Omega.{arith}
use borrow.Author.Tests.{eq-eqb, ne_eqb}
use lib.Dec.{eqb}
use lib.IntN.{ℤ, pos, ◌+ℤ◌, ◌*ℤ◌, +ℤ_idl, +ℤ_idr, +ℤ_comm, +ℤ_assoc, zero-*ℤ, *ℤ-zero}
use Rattle.law_integers.proofs.Laws.{+ℤ-swap, one-*ℤ, +ℤ-*ℤ, *ℤ-+ℤ, *ℤ-assoc}
use Rattle.rules.specs.Master.{sumℤ}
use Rattle.law_lists.proofs.Lists.{below_suc}

-- ---- sums

pub sum_same : (n : ℕ) (f g : ℕ → ℤ) → ((i : ℕ) → i < n → f i ≡ g i) → sumℤ n f ≡ sumℤ n g
unfolding sumℤ
sum_same zero f g e = refl
sum_same (suc n) f g e = ap₂ ◌+ℤ◌ (sum_same n f g (λ i l. e i (omega arith))) (e n (omega arith))

pub sum_add : (n : ℕ) (f g : ℕ → ℤ) → sumℤ n (λ i. f i +ℤ g i) ≡ sumℤ n f +ℤ sumℤ n g
unfolding sumℤ
sum_add zero f g = refl
sum_add (suc n) f g = ap (λ (x : ℤ). x +ℤ (f n +ℤ g n)) (sum_add n f g) ∙ +ℤ-swap (sumℤ n f) (sumℤ n g) (f n) (g n)

pub sum_times : (n : ℕ) (c : ℤ) (f : ℕ → ℤ) → sumℤ n (λ i. c *ℤ f i) ≡ c *ℤ sumℤ n f
unfolding sumℤ
sum_times zero c f = sym (*ℤ-zero c)
sum_times (suc n) c f = ap (λ (x : ℤ). x +ℤ c *ℤ f n) (sum_times n c f) ∙ sym (*ℤ-+ℤ c (sumℤ n f) (f n))

pub sum_zero : (n : ℕ) → sumℤ n (λ i. pos 0) ≡ pos 0
unfolding sumℤ
sum_zero zero = refl
sum_zero (suc n) = ap (λ (x : ℤ). x +ℤ pos 0) (sum_zero n)

-- the first n, then the next k
pub sum_split : (n k : ℕ) (f : ℕ → ℤ) → sumℤ (n + k) f ≡ sumℤ n f +ℤ sumℤ k (λ j. f (n + j))
unfolding sumℤ
sum_split n zero f = rw add-zero (sym (+ℤ_idr (sumℤ n f)))
sum_split n (suc k) f =
    rw add-suc (ap (λ (x : ℤ). x +ℤ f (n + k)) (sum_split n k f) ∙ +ℤ_assoc (sumℤ n f) (sumℤ k (λ j. f (n + j))) (f (n + k)))

pub sum_first : (n : ℕ) (f : ℕ → ℤ) → sumℤ (suc n) f ≡ f 0 +ℤ sumℤ n (λ j. f (suc j))
unfolding sumℤ
sum_first zero f = +ℤ_comm (pos 0) (f 0)
sum_first (suc n) f = ap (λ (x : ℤ). x +ℤ f (suc n)) (sum_first n f) ∙ +ℤ_assoc (f 0) (sumℤ n (λ j. f (suc j))) (f (suc n))

-- ---- linear forms of n numbers x 0, x 1, ..

-- the form with the coefficients c, at the numbers x
unfoldable pub form : ℕ → (ℕ → ℤ) → (ℕ → ℤ) → ℤ
form n c x = sumℤ n (λ l. c l *ℤ x l)

-- the form that is number r
unfoldable pub unit : ℕ → ℕ → ℤ
unit r l = cond (eqb l r) (pos 1) (pos 0)

module _ (n : ℕ) (x : ℕ → ℤ) where
  pub form_same : (c d : ℕ → ℤ) → ((l : ℕ) → l < n → c l ≡ d l) → form n c x ≡ form n d x
  unfolding form
  form_same c d e = sum_same n _ _ (λ l h. ap (λ (a : ℤ). a *ℤ x l) (e l h))

  pub form_add : (c d : ℕ → ℤ) → form n (λ l. c l +ℤ d l) x ≡ form n c x +ℤ form n d x
  unfolding form
  form_add c d = sum_same n _ _ (λ l h. +ℤ-*ℤ (c l) (d l) (x l)) ∙ sum_add n _ _

  pub form_times : (a : ℤ) (c : ℕ → ℤ) → form n (λ l. a *ℤ c l) x ≡ a *ℤ form n c x
  unfolding form
  form_times a c = sum_same n _ _ (λ l h. *ℤ-assoc a (c l) (x l)) ∙ sum_times n a _

  pub form_zero : form n (λ l. pos 0) x ≡ pos 0
  unfolding form
  form_zero = sum_same n _ _ (λ l h. zero-*ℤ (x l)) ∙ sum_zero n

  -- a sum of multiples of forms is the form with the sums of the multiples of their coefficients
  pub form_sum : (k : ℕ) (a : ℕ → ℤ) (c : ℕ → ℕ → ℤ) → sumℤ k (λ i. a i *ℤ form n (c i) x) ≡ form n (λ l. sumℤ k (λ i. a i *ℤ c i l)) x
  unfolding sumℤ
  form_sum zero a c = sym form_zero
  form_sum (suc k) a c = ap₂ ◌+ℤ◌ (form_sum k a c) (sym (form_times (a k) (c k))) ∙ sym (form_add _ _)

unit_here : (r : ℕ) → unit r r ≡ pos 1
unfolding unit
unit_here r = ap (λ (t : Bool). cond t (pos 1) (pos 0)) (eq-eqb r r refl)

unit_apart : (r l : ℕ) → (l ≡ r → ⊥) → unit r l ≡ pos 0
unfolding unit
unit_apart r l h = ap (λ (t : Bool). cond t (pos 1) (pos 0)) (ne_eqb l r h)

pub form_unit : (n : ℕ) (x : ℕ → ℤ) (r : ℕ) → r < n → form n (unit r) x ≡ x r
unfolding form sumℤ
form_unit zero x r h = absurd (not-suc-le-zero h)
form_unit (suc n) x r h = go (below_suc h) (form_unit n x r)
  where
    go : (r ≡ n) ⊎ (r < n) → (r < n → form n (unit r) x ≡ x r) → form n (unit r) x +ℤ unit r n *ℤ x n ≡ x r
    go (inl e) f =
        ap₂ ◌+ℤ◌ (form_same n x _ _ (λ l k. unit_apart r l (λ d. omega arith)) ∙ form_zero n x)
        (ap₂ ◌*ℤ◌ (ap (unit r) (sym e) ∙ unit_here r) (ap x (sym e)) ∙ one-*ℤ (x r))
        ∙ +ℤ_idl (x r)
    go (inr l) f = ap₂ ◌+ℤ◌ (f l) (ap (λ (a : ℤ). a *ℤ x n) (unit_apart r n (λ d. omega arith)) ∙ zero-*ℤ (x n)) ∙ +ℤ_idr (x r)
