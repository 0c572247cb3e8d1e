-- The answer 0 means a yes to every question: `said_yes`, at the place of a question in its list. What the first question's answer gives:
-- `yes_to`, `no_to`. What the first of two lists gives: `first_no`, where one of its questions says no, and `first_yes`, where none does. What holds of
-- 0 and of every question's number holds of the answer: `answer_passes`. Assumes nothing.
use mathlib.Core.Path.{◌≡◌, refl, sym, ap, ◌∙◌, subst}
use mathlib.Core.Bool.{Bool, true, false, cond, not, ◌&&◌}
use mathlib.Core.List.{List, [], ◌∷◌, ◌++◌}
use Prim.Native.Nat.{ℕ, zero, suc}
use lib.Dec.{T, eqb, eqb_refl, T_not}
use lib.Ieee.Fits.{and_l, and_r}
use Rattle.rules.specs.declared.PathError.{PathError}
use Rattle.rules.specs.declared.PathError.TheVariants.{
  InvalidLength,
  InvalidShape,
  InvalidArgument,
  InvalidDimension,
  InvalidRange,
  InvalidOrder,
  DimensionMismatch,
  NotEnoughWaypoints,
  OutOfRangeS,
  UnsupportedDerivativeOrder,
  InvalidSheet,
  SheetTooDeep,
}
use Rattle.rules.specs.Questions.{Question, ask, first_no, number_of}

-- the answer to the question at a place, counted from 0
abbrev pub answer_at : List Question → ℕ → Bool
answer_at [] k = true
answer_at (ask b n ∷ rest) zero = b
answer_at (ask b n ∷ rest) (suc k) = answer_at rest k

-- no number is 0, which would be a yes; `tt` shows it of a list whose numbers are written out
abbrev pub numbered : List Question → Bool
numbered [] = true
numbered (ask b n ∷ rest) = not (eqb n 0) && numbered rest

pub never : (n : ℕ) (rest : Bool) → T (not (eqb n 0) && rest) → n ≡ 0 → ⊥
never n rest h e = T_not (eqb n 0) (and_l (not (eqb n 0)) rest h) (subst (λ (k : ℕ). T (eqb k 0)) (sym e) (eqb_refl 0))

pub said_yes : (qs : List Question) → T (numbered qs) → first_no qs ≡ 0 → (k : ℕ) → T (answer_at qs k)
unfolding first_no
said_yes [] h e k = tt
said_yes (ask true n ∷ rest) h e zero = tt
said_yes (ask true n ∷ rest) h e (suc k) = said_yes rest (and_r (not (eqb n 0)) (numbered rest) h) e k
said_yes (ask false n ∷ rest) h e zero = never n (numbered rest) h e
said_yes (ask false n ∷ rest) h e (suc k) = absurd (never n (numbered rest) h e)

-- a test of 0 and of every question's number, passed; `tt` shows it where the numbers are written out
abbrev pub tested : (ℕ → Bool) → List Question → Bool
tested p [] = p 0
tested p (ask b n ∷ rest) = p n && tested p rest

pub answer_passes : (p : ℕ → Bool) (qs : List Question) → T (tested p qs) → T (p (first_no qs))
unfolding first_no
answer_passes p [] h = h
answer_passes p (ask true n ∷ rest) h = answer_passes p rest (and_r (p n) (tested p rest) h)
answer_passes p (ask false n ∷ rest) h = and_l (p n) (tested p rest) h

-- a question asked first: a yes goes on to the rest, and a no gives its number
pub yes_to : {b : Bool} (n : ℕ) (rest : List Question) → b ≡ true → first_no (ask b n ∷ rest) ≡ first_no rest
unfolding first_no
yes_to n rest e = rw e

pub no_to : {b : Bool} {n : ℕ} (rest : List Question) → b ≡ false → first_no (ask b n ∷ rest) ≡ n
unfolding first_no
no_to rest e = rw e

-- questions, and more behind them: one that says no decides, and else the others do
pub first_no_lem : (qs others : List Question) → (first_no qs ≡ 0 → ⊥) → first_no (qs ++ others) ≡ first_no qs
unfolding first_no
first_no_lem [] others h = absurd (h refl)
first_no_lem (ask true n ∷ rest) others h = first_no_lem rest others h
first_no_lem (ask false n ∷ rest) others h = refl

pub first_yes : (qs others : List Question) → T (numbered qs) → first_no qs ≡ 0 → first_no (qs ++ others) ≡ first_no others
unfolding first_no
first_yes [] others h e = refl
first_yes (ask true n ∷ rest) others h e = first_yes rest others (and_r (not (eqb n 0)) (numbered rest) h) e
first_yes (ask false n ∷ rest) others h e = absurd (never n (numbered rest) h e)

-- ---- refusals

-- the refusal that has a number
pub error_of : ℕ → PathError
error_of n =
    cond (eqb n 2) InvalidLength (cond (eqb n 3) InvalidShape (cond (eqb n 4) InvalidArgument
    (cond (eqb n 300) InvalidDimension (cond (eqb n 301) InvalidRange (cond (eqb n 302) InvalidOrder
    (cond (eqb n 303) DimensionMismatch (cond (eqb n 304) NotEnoughWaypoints (cond (eqb n 305) OutOfRangeS
    (cond (eqb n 308) UnsupportedDerivativeOrder (cond (eqb n 600) InvalidSheet SheetTooDeep))))))))))

pub error-number : (e : PathError) → error_of (number_of e) ≡ e
unfolding error_of
error-number InvalidLength = refl
error-number InvalidShape = refl
error-number InvalidArgument = refl
error-number InvalidDimension = refl
error-number InvalidRange = refl
error-number InvalidOrder = refl
error-number DimensionMismatch = refl
error-number NotEnoughWaypoints = refl
error-number OutOfRangeS = refl
error-number UnsupportedDerivativeOrder = refl
error-number InvalidSheet = refl
error-number SheetTooDeep = refl

-- no two refusals have one number
pub number_decides : (a b : PathError) → number_of a ≡ number_of b → a ≡ b
number_decides a b e = sym (error-number a) ∙ ap error_of e ∙ error-number b

-- no refusal has the number 0
pub number-not_zero : (e : PathError) → eqb (number_of e) 0 ≡ false
number-not_zero InvalidLength = refl
number-not_zero InvalidShape = refl
number-not_zero InvalidArgument = refl
number-not_zero InvalidDimension = refl
number-not_zero InvalidRange = refl
number-not_zero InvalidOrder = refl
number-not_zero DimensionMismatch = refl
number-not_zero NotEnoughWaypoints = refl
number-not_zero OutOfRangeS = refl
number-not_zero UnsupportedDerivativeOrder = refl
number-not_zero InvalidSheet = refl
number-not_zero SheetTooDeep = refl

pub refused_not_zero : (e : PathError) → number_of e ≡ 0 → ⊥
refused_not_zero e h =
    T_not (eqb (number_of e) 0) (subst (λ (b : Bool). T (not b)) (sym (number-not_zero e)) tt)
    (subst (λ (k : ℕ). T (eqb k 0)) (sym h) (eqb_refl 0))
