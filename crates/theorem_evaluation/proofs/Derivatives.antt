-- Derivatives of polynomials over whole numbers, as steps from the last coefficient down find them, and their values at 0 and at 1. Assumes nothing.
use mathlib.Core.Path.{◌≡◌, refl, sym, ap, ap₂, ◌∙◌}
use Prim.Native.Nat.{ℕ, zero, suc, ◌+◌, ◌-◌, ◌*◌, ◌<◌}
use native.Mathlib.Nat.{add-zero, zero-mul, mul-zero}
use native.Mathlib.Omega.{arith}
use lib.IntN.{ℤ, pos, ◌+ℤ◌, ◌*ℤ◌, +ℤ_idl, +ℤ_comm, zero-*ℤ, *ℤ-zero, one, *ℤ-one}
use Rattle.law_integers.proofs.Laws.{one-*ℤ, +ℤ-*ℤ, *ℤ-assoc}
use Rattle.rules.specs.Master.{binomial, sumℤ}
use Rattle.rules.specs.Query.{derivative_factor}
use Rattle.theorem_evaluation.specs.Evaluation.{derivative_at0, derivative_at1}
use Rattle.theorem_exact.proofs.Sums.{sum_same, sum_add, sum_times, sum_zero, sum_split, sum_first}

-- ---- the factors

factor_suc : (j k : ℕ) → derivative_factor (suc j) (suc k) ≡ suc j * derivative_factor j k
unfolding derivative_factor
factor_suc j k = ap (λ (i : ℕ). suc j * derivative_factor i k) (less j)
  where
    less : (j : ℕ) → suc j - 1 ≡ j
    less j = omega arith

-- below k there is a factor 0
factor_low : (j k : ℕ) → j < k → derivative_factor j k ≡ 0
unfolding derivative_factor
factor_low j zero h = absurd (omega arith)
factor_low zero (suc k) h = zero-mul _
factor_low (suc j) (suc k) h = factor_suc j k ∙ ap (λ (n : ℕ). suc j * n) (factor_low j k (omega arith)) ∙ mul-zero (suc j)

-- Derivative k + 1 of t × p is t times derivative k + 1 of p, plus k + 1 times derivative k of p: the same of a power's factors.
factor_step : (j k : ℕ) → derivative_factor (suc j) (suc k) ≡ derivative_factor j (suc k) + suc k * derivative_factor j k
unfolding derivative_factor
factor_step j zero = omega arith
factor_step zero (suc k) = simp (zero-mul, mul-zero)
factor_step (suc j) (suc k) =
    factor_suc (suc j) (suc k)
    ∙ count j k _ _ _ (factor_suc j k) (factor_step j k)
    ∙ ap (λ (n : ℕ). n + suc (suc k) * derivative_factor (suc j) (suc k)) (sym (factor_suc j (suc k)))
  where
    count : (j k f g h : ℕ) → h ≡ suc j * f → h ≡ g + suc k * f → suc (suc j) * h ≡ suc j * g + suc (suc k) * h
    count j k f g h e e' = omega (arith, ap (λ (n : ℕ). suc k * n) e, ap (λ (n : ℕ). suc j * n) e')

-- derivative k over k! is what the check sums, with binomials
pub factor_binomial : (j k : ℕ) → derivative_factor j k ≡ derivative_factor k k * binomial j k
unfolding derivative_factor binomial
factor_binomial j zero = refl
factor_binomial zero (suc k) = simp (zero-mul, mul-zero)
factor_binomial (suc j) (suc k) =
    factor_step j k
    ∙ ap₂ (λ (x y : ℕ). x + suc k * y) (factor_binomial j (suc k)) (factor_binomial j k)
    ∙ count k _ _ (binomial j k) (binomial j (suc k)) (factor_suc k k)
  where
    count : (k f g x y : ℕ) → g ≡ suc k * f → g * y + suc k * (f * x) ≡ g * (x + y)
    count k f g x y e = omega (arith, ap (λ (n : ℕ). n * x) e)

-- ---- the derivatives

-- derivative k of n coefficients at w, from the last coefficient down
unfoldable pub derived : ℤ → ℕ → ℕ → (ℕ → ℤ) → ℤ
derived w k zero c = pos 0
derived w zero (suc n) c = derived w zero n (λ j. c (suc j)) *ℤ w +ℤ c 0
derived w (suc k) (suc n) c = derived w (suc k) n (λ j. c (suc j)) *ℤ w +ℤ pos (suc k) *ℤ derived w k n (λ j. c (suc j))

pub derived_at0 : (k n : ℕ) (c : ℕ → ℤ) → k < n → derived (pos 0) k n c ≡ derivative_at0 c k
unfolding derived derivative_at0 derivative_factor
derived_at0 k zero c h = absurd (omega arith)
derived_at0 zero (suc n) c h = rw (*ℤ-zero, +ℤ_idl) (sym (one-*ℤ (c 0)))
derived_at0 (suc k) (suc n) c h =
    rw (*ℤ-zero, +ℤ_idl)
    (ap (λ (z : ℤ). pos (suc k) *ℤ z) (derived_at0 k n (λ j. c (suc j)) (omega arith))
    ∙ sym (*ℤ-assoc (pos (suc k)) (pos (derivative_factor k k)) (c (suc k)))
    ∙ ap (λ (f : ℕ). pos f *ℤ c (suc k)) (sym (factor_suc k k)))

pub derived_at1 : (k n : ℕ) (c : ℕ → ℤ) → derived (pos 1) k n c ≡ derivative_at1 n c k
unfolding derived derivative_at1 derivative_factor sumℤ one
derived_at1 k zero c = refl
derived_at1 zero (suc n) c =
    ap₂ ◌+ℤ◌ (*ℤ-one _ ∙ derived_at1 zero n (λ j. c (suc j))) (sym (one-*ℤ (c 0)))
    ∙ +ℤ_comm (derivative_at1 n (λ j. c (suc j)) 0) (pos 1 *ℤ c 0)
    ∙ sym (sum_first n _)
derived_at1 (suc k) (suc n) c =
    ap₂ ◌+ℤ◌ (*ℤ-one _ ∙ derived_at1 (suc k) n (λ j. c (suc j)))
    (ap (λ (z : ℤ). pos (suc k) *ℤ z) (derived_at1 k n (λ j. c (suc j))) ∙ sym (sum_times n (pos (suc k)) _))
    ∙ sym (sum_add n _ _)
    ∙ sum_same n _ _ (λ j l. both (derivative_factor j (suc k)) (derivative_factor j k) (c (suc j))
    ∙ ap (λ (f : ℕ). pos f *ℤ c (suc j)) (sym (factor_step j k)))
    ∙ sym (+ℤ_idl _)
    ∙ ap (λ (z : ℤ). z +ℤ sumℤ n (λ j. pos (derivative_factor (suc j) (suc k)) *ℤ c (suc j)))
    (sym (zero-*ℤ (c 0)) ∙ ap (λ (f : ℕ). pos f *ℤ c 0) (sym (zero-mul _)))
    ∙ sym (sum_first n _)
  where
    both : (f g : ℕ) (z : ℤ) → pos f *ℤ z +ℤ pos (suc k) *ℤ (pos g *ℤ z) ≡ pos (f + suc k * g) *ℤ z
    both f g z = ap (λ (y : ℤ). pos f *ℤ z +ℤ y) (sym (*ℤ-assoc (pos (suc k)) (pos g) z)) ∙ sym (+ℤ-*ℤ (pos f) (pos (suc k * g)) z)

-- ---- the same from the coefficients that derivative k has, each with its factor: those from k on

unfoldable pub factored : ℕ → (ℕ → ℤ) → ℕ → ℤ
factored k c j = pos (derivative_factor (k + j) k) *ℤ c (k + j)

pub factored_at0 : (k n : ℕ) (c : ℕ → ℤ) → 0 < n → derived (pos 0) 0 n (factored k c) ≡ derivative_at0 c k
unfolding factored derivative_at0 derivative_factor
factored_at0 k n c h = derived_at0 0 n (factored k c) h ∙ one-*ℤ (factored k c 0) ∙ ap (λ (j : ℕ). pos (derivative_factor j k) *ℤ c j) (add-zero k)

-- of the coefficients before k the factor is 0
pub factored_at1 : (k n : ℕ) (c : ℕ → ℤ) → derived (pos 1) 0 n (factored k c) ≡ derivative_at1 (k + n) c k
unfolding factored derivative_at1 derivative_factor
factored_at1 k n c =
    derived_at1 0 n (factored k c)
    ∙ sum_same n _ _ (λ j l. one-*ℤ (factored k c j))
    ∙ sym (sum_split k n _
    ∙ ap (λ (z : ℤ). z +ℤ sumℤ n (factored k c)) (sum_same k _ _ (λ j l. ap (λ (f : ℕ). pos f *ℤ c j) (factor_low j k l) ∙ zero-*ℤ (c j)) ∙ sum_zero k)
    ∙ +ℤ_idl (sumℤ n (factored k c)))
