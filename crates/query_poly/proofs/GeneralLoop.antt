-- The general loop, as its invariant has it: b is what a level asks for of the coefficients behind those that are left. The laws are the loop's start, a step
-- of it, and its end. Assumes nothing.
use mathlib.Core.Path.{◌≡◌, refl, sym, ◌∙◌}
use mathlib.Core.Bool.{Bool, true, false, cond}
use mathlib.Core.List.{List, [], ◌∷◌, ◌++◌, append_assoc}
use Prim.Native.Nat.{ℕ, suc}
use native.Mathlib.Omega.{arith}
use lib.ListN.{length, get_or, take}
use lib.Seq.{take-suc, take_all}
use lib.Ieee.{Float, nan}
use Rattle.std.proofs.lemmas.List.{nil_from_length}
use Rattle.rules.specs.Floats.{+0}
use Rattle.rules.specs.Query.{general_loop, loop_derivative}
use Rattle.query_loop.specs.declared.Derivatives.{Derivatives}
use Rattle.query_loop.specs.Level.{asked}

-- what is asked for of a list of coefficients
abbrev looped : ℕ → Float → List Float → Derivatives
looped level t a = asked level (loop_derivative (general_loop t a))

-- what is left of the coefficients, and behind it one at least
pub record Looped (level : ℕ) (a : List Float) (t : Float) (b : Derivatives) (left : List Float) : Type 0 where
  pub first : Float
  pub rest : List Float
  pub all : a ≡ left ++ (first ∷ rest)
  pub is : b ≡ looped level t (first ∷ rest)

module _ (level : ℕ) (a : List Float) (t : Float) where
  -- of the last coefficient alone the derivatives are +0, asked for or not
  pub start : {b : Derivatives} {left : List Float} (n : ℕ) → length a ≡ suc n → b ≡ record { q = get_or a n nan; dq = +0; ddq = +0; dddq = +0 }
      → left ≡ take n a → Looped level a t b left
  unfolding general_loop loop_derivative
  start n e is left = record {
    first = get_or a n nan;
    rest = [];
    all = rw left (sym (take_all (suc n) a (omega arith)) ∙ take-suc a n nan (omega arith));
    is = is ∙ simp same;
  }
    where
      same : (asked : Bool) → cond asked +0 +0 ≡ +0
      same true = refl
      same false = refl

  -- one coefficient more, by what `step` promises
  pub step : {b r : Derivatives} {left : List Float} (was : List Float) (x : Float) → Looped level a t b was → was ≡ left ++ (x ∷ [])
      → ((y : Float) (rest : List Float) → b ≡ looped level t (y ∷ rest) → r ≡ looped level t (x ∷ (y ∷ rest)))
      → Looped level a t r left
  step {left = left} was x h e promise = record {
    first = x;
    rest = h.first ∷ h.rest;
    all = h.all ∙ rw e (append_assoc left (x ∷ []) (h.first ∷ h.rest));
    is = promise h.first h.rest h.is;
  }

  -- where none is left
  pub end : {b : Derivatives} (left : List Float) → Looped level a t b left → length left ≡ 0 → b ≡ looped level t a
  end left h none = let e : left ≡ [] = nil_from_length left none in rw (h.all, e) h.is

pub ruleset by_coefficients = (start, step, end)
