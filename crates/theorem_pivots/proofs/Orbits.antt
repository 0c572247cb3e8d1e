-- Orbits: what comes of a value when a step is taken again and again. Where it comes back to a value that it had, the orbit stays in the list that it
-- closes, and what a test finds of that list holds of all that ever come. No word of splines. Assumes nothing.
use mathlib.Core.Path.{◌≡◌, refl, sym, ap, ◌∙◌, subst}
use mathlib.Core.Bool.{Bool, true, false, cond, ◌&&◌}
use Prim.Native.Nat.{ℕ, zero, suc, ◌+◌, ◌-◌, ◌*◌, ◌/◌, ◌%◌, ◌<◌}
use native.Mathlib.Nat.{zero-add, suc-add, zero-mul, suc-mul, mod-lt, div-add-mod', add_comm}
use native.Mathlib.Omega.{arith}
use borrow.Author.Tests.{ltb-true, ltb-false}
use lib.Dec.{T, ltb}
use Rattle.law_lists.specs.Lists.{every}
use Rattle.law_lists.proofs.Lists.{every_at}

-- what a walk of n steps finds: whether a test passed at each value before the last, and the last
pub record Walk (A : Type 0) : Type 0 where
  pub passed : Bool
  pub last : A

module _ {A : Type 0} (step : A → A) where
  -- x after n steps
  unfoldable pub after : ℕ → A → A
  after zero x = x
  after (suc n) x = step (after n x)

  -- each value is worked out once
  unfoldable pub walk : (A → Bool) → ℕ → A → Walk A
  walk test zero x = record { passed = true; last = x }
  walk test (suc n) x =
      let w = walk test n x in
      record { passed = w.passed && test w.last; last = step w.last }

  last_is : (test : A → Bool) (n : ℕ) (x : A) → (walk test n x).last ≡ after n x
  unfolding after walk
  last_is test zero x = refl
  last_is test (suc n) x = ap step (last_is test n x)

  passed_is : (test : A → Bool) (n : ℕ) (x : A) → (walk test n x).passed ≡ every n (λ i. test (after i x))
  unfolding walk every
  passed_is test zero x = refl
  passed_is test (suc n) x = rw (passed_is test n x, last_is test n x)

  after_sum : (i j : ℕ) (x : A) → after (i + j) x ≡ after i (after j x)
  unfolding after
  after_sum zero j x = rw zero-add
  after_sum (suc i) j x = rw suc-add (ap step (after_sum i j x))

  module _ {c : A} (period : ℕ) (back : after period c ≡ c) where
    rounds : (k : ℕ) → after (k * period) c ≡ c
    unfolding after
    rounds zero = rw zero-mul
    rounds (suc k) = rw suc-mul (after_sum (k * period) period c ∙ ap (after (k * period)) back ∙ rounds k)

    round : (i : ℕ) → after i c ≡ after (i % period) c
    round i =
        ap (λ (n : ℕ). after n c) (sym (div-add-mod' i period) ∙ add_comm (i / period * period) (i % period))
        ∙ after_sum (i % period) (i / period * period) c
        ∙ ap (after (i % period)) (rounds (i / period))

-- a place, among the first lead + period of an orbit that repeats from lead on after period steps, that has the value of place i
abbrev pub place : ℕ → ℕ → ℕ → ℕ
place lead period i = cond (ltb i lead) i (lead + (i - lead) % period)

-- an orbit of x that goes to c and from c to c, with a test that passes on the way
pub record Closed {A : Type 0} (step : A → A) (test : A → Bool) (lead period : ℕ) (x c : A) : Type 0 where
  pub some : 0 < period
  pub there : walk step test lead x ≡ record { passed = true; last = c }
  pub back : walk step test period c ≡ record { passed = true; last = c }

module _ {A : Type 0} {step : A → A} {test : A → Bool} {lead period : ℕ} {x c : A} (o : Closed step test lead period x c) where
  at_lead : after step lead x ≡ c
  at_lead = sym (last_is step test lead x) ∙ ap (λ (w : Walk A). w.last) o.there

  at_period : after step period c ≡ c
  at_period = sym (last_is step test period c) ∙ ap (λ (w : Walk A). w.last) o.back

  past : (j : ℕ) → after step (lead + j) x ≡ after step j c
  past j = ap (λ (n : ℕ). after step n x) (add_comm lead j) ∙ after_sum step j lead x ∙ ap (after step j) at_lead

  -- the orbit repeats
  pub repeats : (i : ℕ) → after step i x ≡ after step (place lead period i) x
  repeats i = go (ltb i lead) refl
    where
      go : (b : Bool) → ltb i lead ≡ b → after step i x ≡ after step (cond b i (lead + (i - lead) % period)) x
      go true e = refl
      go false e =
          let j = i - lead in
          ap (λ (n : ℕ). after step n x) (omega (arith, ltb-false i lead e))
          ∙ past j
          ∙ round step period at_period j
          ∙ sym (past (j % period))

  -- and the test passes at all of it
  pub always : (i : ℕ) → T (test (after step i x))
  always i = go (ltb i lead) refl
    where
      passes : (n : ℕ) (y : A) → walk step test n y ≡ record { passed = true; last = c } → (j : ℕ) → j < n → T (test (after step j y))
      passes n y e = every_at n _ (subst T (sym (ap (λ (w : Walk A). w.passed) e) ∙ passed_is step test n y) tt)

      go : (b : Bool) → ltb i lead ≡ b → T (test (after step i x))
      go true e = passes lead x o.there i (ltb-true i lead e)
      go false e =
          let j = i - lead in
          let is : lead + j ≡ i = omega (arith, ltb-false i lead e) in
          subst (λ (y : A). T (test y)) (sym (round step period at_period j) ∙ sym (past j) ∙ ap (λ (n : ℕ). after step n x) is)
          (passes period c o.back (j % period) (mod-lt j o.some))
