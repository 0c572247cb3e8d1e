-- How many numbers each of some lists has, with one list more. Assumes nothing.
use mathlib.Core.Path.{◌≡◌, refl, sym, ap}
use mathlib.Core.Bool.{Bool, true, false, cond, ◌&&◌}
use mathlib.Core.List.{List, [], ◌∷◌, ◌++◌}
use Prim.Native.Nat.{ℕ, zero, suc}
use native.Mathlib.Omega.{arith}
use lib.IntN.{ℤ}
use lib.ListN.{length}
use lib.Dec.{eqb}
use borrow.Author.Tests.{eqb-true, eqb-false, eq-eqb, ne_eqb}
use Rattle.law_lists.specs.Lists.{all}
use Rattle.rules.specs.Sheets.{Axis}
use Rattle.rules.specs.SheetAnswers.{of_each, columns_of}

-- J26: how many numbers each list has so far, with one more, where k lists were there
abbrev pub together_of : ℕ → ℕ → ℕ → ℕ
together_of k sofar n = cond (eqb k 0) n (cond (eqb sofar n) n 0)

all_more : {A : Type 0} (f : A → Bool) (xs : List A) (y : A) → all f (xs ++ (y ∷ [])) ≡ all f xs && f y
unfolding all
all_more f [] y = go (f y)
  where
    go : (b : Bool) → b && true ≡ true && b
    go true = refl
    go false = refl
all_more f (x ∷ xs) y = rw (all_more f xs y) (go (f x))
  where
    go : (b : Bool) → b && (all f xs && f y) ≡ (b && all f xs) && f y
    go true = refl
    go false = refl

pub columns_more : (lists : List (List ℤ)) (ys : List ℤ) (k : ℕ) → length lists ≡ k → together_of k (columns_of lists) (length ys)
    ≡ columns_of (lists ++ (ys ∷ []))
unfolding columns_of all
columns_more [] ys k e = rw (eq-eqb k 0 (sym e))
columns_more (xs ∷ rest) ys k e =
    rw (ne_eqb k 0 (λ z. omega arith), all_more (λ zs. eqb (length zs) (length xs)) rest ys)
    (go (all (λ zs. eqb (length zs) (length xs)) rest) (eqb (length ys) (length xs)) refl)
  where
    go : (a b : Bool) → eqb (length ys) (length xs) ≡ b
        → cond (eqb (cond a (length xs) 0) (length ys)) (length ys) 0 ≡ cond (a && b) (length xs) 0
    go true true h = let i = eqb-true (length ys) (length xs) h in rw (eq-eqb (length xs) (length ys) (sym i), i)
    go true false h = rw (ne_eqb (length xs) (length ys) (λ i. eqb-false (length ys) (length xs) h (sym i)))
    go false b h = none (length ys)
      where
        none : (n : ℕ) → cond (eqb 0 n) n 0 ≡ 0
        none zero = refl
        none (suc n) = rw (ne_eqb 0 (suc n) (λ e. omega arith))

-- the lists of axes with one axis more
pub each_more : (f : Axis → List ℤ) (axes : List Axis) (a : Axis) → of_each f (axes ++ (a ∷ [])) ≡ of_each f axes ++ (f a ∷ [])
unfolding of_each
each_more f [] a = refl
each_more f (x ∷ axes) a = ap (λ l. f x ∷ l) (each_more f axes a)

pub each_length : (f : Axis → List ℤ) (axes : List Axis) → length (of_each f axes) ≡ length axes
unfolding of_each
each_length f [] = refl
each_length f (x ∷ axes) = ap suc (each_length f axes)
