-- How many numbers each list of a state has: no list has fewer (`columns_long`), and the question about a state is whether each list is m long
-- (`states_one_by_one`). Assumes nothing.
use mathlib.Core.Path.{◌≡◌, refl, sym, ap, ◌∙◌}
use mathlib.Core.Bool.{Bool, true, false, cond, ◌&&◌}
use mathlib.Core.List.{List, [], ◌∷◌}
use Prim.Native.Nat.{ℕ, zero, suc, ◌*◌, ◌≤◌, ◌<◌}
use native.Mathlib.Nat.{le_of_eq, mul_comm, not-suc-le-zero, le_of_suc-le-suc}
use native.Mathlib.Omega.{arith}
use borrow.Author.Tests.{eqb-true, eqb-false, eq-eqb, ne_eqb}
use lib.Dec.{T, eqb, eqb→eq}
use lib.IntN.{ℤ}
use lib.ListN.{length, get_or}
use lib.Ieee.Fits.{and_l, and_r}
use Rattle.law_lists.specs.Lists.{all}
use Rattle.law_lists.proofs.Lists.{length-listed, length-joined}
use Rattle.rules.specs.Build.{valid_state}
use Rattle.rules.specs.SheetAnswers.{columns_of, column_major}
use Rattle.sheet_columns.specs.StatesOneByOne.{StatesOneByOne}

-- a list is k long
abbrev sized : ℕ → List ℤ → Bool
sized k xs = eqb (length xs) k

all_in : {A : Type 0} (f : A → Bool) (xs : List A) (d : A) → T (all f xs) → (i : ℕ) → i < length xs → T (f (get_or xs i d))
unfolding all
all_in f [] d t i l = absurd (not-suc-le-zero l)
all_in f (x ∷ xs) d t zero l = and_l (f x) (all f xs) t
all_in f (x ∷ xs) d t (suc i) l = all_in f xs d (and_r (f x) (all f xs) t) i (le_of_suc-le-suc l)

-- J26: no list is shorter than there are columns
pub columns_long : (lists : List (List ℤ)) (a : ℕ) → a < length lists → columns_of lists ≤ length (get_or lists a [])
unfolding columns_of
columns_long [] a l = absurd (not-suc-le-zero l)
columns_long (xs ∷ rest) zero l = go (all (sized (length xs)) rest)
  where
    go : (t : Bool) → cond t (length xs) 0 ≤ length xs
    go false = omega arith
    go true = le_of_eq refl
columns_long (xs ∷ rest) (suc a) l = go (all (sized (length xs)) rest) (λ t. all_in (sized (length xs)) rest [] t a (le_of_suc-le-suc l))
  where
    go : (t : Bool) → (T t → T (sized (length xs) (get_or rest a []))) → cond t (length xs) 0 ≤ length (get_or rest a [])
    go false e = omega arith
    go true e = le_of_eq (sym (eqb→eq _ _ (e tt)))

-- of one list or more, the columns are m where each list is m long
columns_are : (xs : List ℤ) (rest : List (List ℤ)) (m : ℕ) → 1 ≤ m → eqb (columns_of (xs ∷ rest)) m ≡ all (sized m) (xs ∷ rest)
unfolding columns_of all
columns_are xs rest m some = go (eqb (length xs) m) refl
  where
    none : (t : Bool) → (length xs ≡ m → ⊥) → eqb (cond t (length xs) 0) m ≡ false
    none true h = ne_eqb (length xs) m h
    none false h = ne_eqb 0 m (λ e. omega arith)

    alike : (t : Bool) → eqb (cond t m 0) m ≡ t
    alike true = eq-eqb m m refl
    alike false = ne_eqb 0 m (λ e. omega arith)

    go : (t : Bool) → eqb (length xs) m ≡ t → eqb (cond (all (sized (length xs)) rest) (length xs) 0) m ≡ (t && all (sized m) rest)
    go true e = rw (eqb-true (length xs) m e) (alike (all (sized m) rest))
    go false e = none (all (sized (length xs)) rest) (eqb-false (length xs) m e)

length_major : (lists : List (List ℤ)) (columns : ℕ) → length (column_major lists columns) ≡ length lists * columns
unfolding column_major
length_major lists columns = length-joined columns (length lists) _ (λ k l. length-listed _ _) ∙ mul_comm columns (length lists)

pub states_one_by_one : StatesOneByOne
unfolding StatesOneByOne valid_state
states_one_by_one [] m l some = absurd (not-suc-le-zero l)
states_one_by_one (xs ∷ rest) m l some = go (eqb (columns_of lists) m) refl ∙ columns_are xs rest m some
  where
    lists : List (List ℤ)
    lists = xs ∷ rest

    go : (t : Bool) → eqb (columns_of lists) m ≡ t
        → (eqb (length lists) (length lists) && eqb (columns_of lists) m && eqb (length (column_major lists (columns_of lists))) (length lists * m))
        ≡ eqb (columns_of lists) m
    go true e =
        let cells : length (column_major lists (columns_of lists)) ≡ length lists * m =
        length_major lists (columns_of lists) ∙ ap (λ (k : ℕ). length lists * k) (eqb-true _ m e) in
        rw (eq-eqb (length lists) (length lists) refl, e, eq-eqb _ _ cells)
    go false e = rw (eq-eqb (length lists) (length lists) refl, e)
