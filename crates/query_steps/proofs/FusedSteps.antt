-- A derivative by fused steps, as code finds it: step by step, of coefficients that it reads. Assumes nothing.
use mathlib.Core.Path.{◌≡◌, refl, sym, ap, ◌∙◌}
use mathlib.Core.Bool.{Bool, true, false, cond}
use mathlib.Core.List.{List, [], ◌∷◌, ◌++◌, append_assoc}
use Rattle.std.proofs.lemmas.List.{nil_from_length}
use Prim.Native.Nat.{ℕ, suc, ◌+◌, ◌-◌}
use native.Mathlib.Omega.{arith}
use lib.Dec.{eqb}
use lib.ListN.{length, get_or}
use lib.Ieee.{Float, nan, binary64}
use Rattle.rules.specs.Floats.{◌⊗◌, +0, of_count}
use Rattle.law_lists.specs.Lists.{listed}
use Rattle.rules.specs.Fused.{fused}
use Rattle.rules.specs.Query.{writes, derivative_factor, term, fused_steps, fused_derivative}
use Rattle.query_loop.specs.declared.Derivatives.{Derivatives}
use Rattle.query_loop.specs.Level.{asked, derivative_of}
use Rattle.rules.proofs.Cells.{read}
use Rattle.law_lists.proofs.Filling.{listed_ext}

-- r is found of a list of terms, from the last one down: what code knows of it by each of its steps
pub data Found (t : Float) : List Float → Float → Type 0 where
  last : {x : Float} → Found t (x ∷ []) x
  step : {x y r s : Float} {rest : List Float} → r ≡ fused binary64 s t x → Found t (y ∷ rest) s → Found t (x ∷ (y ∷ rest)) r

is_found : {t : Float} {xs : List Float} {r : Float} → Found t xs r → r ≡ fused_steps t xs
unfolding fused_steps
is_found last = refl
is_found {t} (step {x = x} e h) = e ∙ ap (λ (s : Float). fused binary64 s t x) (is_found h)

-- of what is found of the last terms and of the term before them a step is found
one_more : (t : Float) (rest : List Float) (x found : Float)
    → fused_steps t (rest ++ (x ∷ (found ∷ []))) ≡ fused_steps t (rest ++ (fused binary64 found t x ∷ []))
unfolding fused_steps
one_more t [] x found = refl
one_more t (a ∷ []) x found = refl
one_more t (a ∷ (b ∷ rest)) x found = ap (λ (s : Float). fused binary64 s t a) (one_more t (b ∷ rest) x found)

-- The loop over the terms, from the last one down: a term more, and none that is left.
pub goes_on : (t found x : Float) {r : Float} (terms left rest : List Float) → fused_steps t terms ≡ fused_steps t (left ++ (found ∷ []))
    → left ≡ rest ++ (x ∷ []) → r ≡ fused binary64 found t x → fused_steps t terms ≡ fused_steps t (rest ++ (r ∷ []))
goes_on t found x _ _ rest h e is = h ∙ rw (e, is, append_assoc) (one_more t rest x found)

pub ends : (t found : Float) (terms left : List Float) → fused_steps t terms ≡ fused_steps t (left ++ (found ∷ []))
    → length left ≡ 0 → found ≡ fused_steps t terms
unfolding fused_steps
ends t found _ left h none = let e : left ≡ [] = nil_from_length left none in sym (rw e at h)

pub ruleset by_terms = (goes_on, ends)

-- a term, as code reads its coefficient
abbrev term_read : List Float → ℕ → ℕ → Float
term_read a k j = cond (eqb (derivative_factor j k) 1) (get_or a j nan) (of_count (derivative_factor j k) ⊗ get_or a j nan)

-- What fused steps give of derivative k's terms is derivative k: each coefficient that is read is there.
pub derivative_of_read : {order : ℕ} (a : List Float) (t : Float) {r : Float} (k : ℕ) → length a ≡ suc order
    → r ≡ fused_steps t (listed (order + 1 - k) (λ j. term_read a k (k + j))) → r ≡ fused_derivative order a t k
unfolding term fused_derivative
derivative_of_read {order} a t k e h = h ∙ ap (fused_steps t) (listed_ext (order + 1 - k) _ _ (λ j l. rw (read a (k + j) (omega arith))))

-- the same, found step by step
pub derivative_is : {order : ℕ} (a : List Float) (t : Float) {r : Float} (k : ℕ) → length a ≡ suc order
    → Found t (listed (order + 1 - k) (λ j. term_read a k (k + j))) r → r ≡ fused_derivative order a t k
derivative_is a t k e h = derivative_of_read a t k e (is_found h)

-- what a level asks for of four numbers that are derivatives 0 to 3 of g, the third where the level writes it
pub asked_of : (level : ℕ) (g : ℕ → Float) (d : Derivatives) → d.q ≡ g 0 → d.dq ≡ g 1 → d.ddq ≡ g 2 → (writes level 3 ≡ true → d.dddq ≡ g 3)
    → asked level (derivative_of d) ≡ asked level g
asked_of level g d e₀ e₁ e₂ e₃ = rw (e₀, e₁, e₂, third (writes level 3) e₃)
  where
    third : (w : Bool) → (w ≡ true → d.dddq ≡ g 3) → cond w d.dddq +0 ≡ cond w (g 3) +0
    third true e = e refl
    third false e = refl
