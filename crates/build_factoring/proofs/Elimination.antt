-- A matrix eliminated below row k in place: row by row, and each row cell by cell, from left to right. Assumes nothing.
use mathlib.Core.Path.{◌≡◌, sym, ap, ◌∙◌, subst}
use mathlib.Core.List.{List}
use Prim.Native.Nat.{ℕ, ◌+◌, ◌-◌, ◌*◌, ◌/◌, ◌%◌, ◌<◌, ◌≤◌}
use native.Mathlib.Numerals.{add-one}
use native.Mathlib.Nat.{suc-mul, mul-le-mul_right, div-lt_iff_lt-mul, div-add-mod', le_of_eq}
use native.Mathlib.Omega.{arith}
use lib.ListN.{length, get_or, set}
use Rattle.std.proofs.lemmas.Bool.Decides.{nat_tests}
use lib.Ieee.{Float, nan}
use Rattle.rules.specs.Floats.{◌!◌, ◌⊖◌, ◌⊗◌, ◌⊘◌, +0, +1}
use Rattle.rules.specs.Solve.{entry, matrix, Factored, eliminated}
use Rattle.law_lists.proofs.Filling.{filled, flat, flat_at, filled_set, filled_at, filled_past, filled_on, filled_start, filled_all}
use Rattle.rules.proofs.Matrices.{matrix_flat}
use Rattle.build_factoring.specs.Steps.{eliminated_entry, eliminated_to}
use Rattle.law_lists.proofs.Lists.{part_inside}
use Rattle.law_lists.proofs.Places.{cell_inside}
use Rattle.rules.proofs.Cells.{read}

-- the rows at and above k stay
stays_above : (m k : ℕ) (reciprocal : Float) (b : List Float) (i j : ℕ) → i ≤ k → eliminated_entry m k reciprocal b i j ≡ entry m b i j
stays_above m k reciprocal b i j h = grind (arith, nat_tests)

-- the elimination so far, inside row i: the columns below j are done
abbrev pub row_done : ℕ → ℕ → Float → List Float → ℕ → ℕ → List Float
row_done m k reciprocal b i j = filled (i * m + j) (flat m (eliminated_entry m k reciprocal b)) b

pub row_done_lem : (m k : ℕ) (reciprocal : Float) (b : List Float) (i : ℕ) → row_done m k reciprocal b i m ≡ eliminated_to m k reciprocal b (i + 1)
row_done_lem m k reciprocal b i = rw (add-one, suc-mul)

-- a loop over the rows starts below row k
pub elimination_start : (m k : ℕ) (reciprocal : Float) (b : List Float) → k < m → length b ≡ m * m → b ≡ eliminated_to m k reciprocal b (k + 1)
elimination_start m k reciprocal b h n =
    let p : 0 < m = omega arith in
    filled_start +0 ((k + 1) * m) (flat m (eliminated_entry m k reciprocal b)) b (rw n (mul-le-mul_right m (omega arith)))
    (λ q l. stays_above m k reciprocal b (q / m) (q % m) (omega (arith, (div-lt_iff_lt-mul p).1 l)) ∙ ap (λ (x : ℕ). b ! x) (div-add-mod' q m))

-- and is done at the last row
pub elimination_all : (m k : ℕ) (reciprocal : Float) (f : Factored) → length f.entries ≡ m * m → reciprocal ≡ +1 ⊘ entry m f.entries k k
    → eliminated_to m k reciprocal f.entries m ≡ (eliminated m k f).entries
unfolding eliminated
elimination_all m k reciprocal f n e =
    filled_all (m * m) (flat m (eliminated_entry m k reciprocal f.entries)) f.entries (le_of_eq n)
    ∙ sym (matrix_flat m m (eliminated_entry m k reciprocal f.entries))
    ∙ ap (λ (x : Float). matrix m m (eliminated_entry m k x f.entries)) e

module _ (m k : ℕ) (reciprocal : Float) (b : List Float) (i : ℕ) (h : k < i) (l : i < m) (n : length b ≡ m * m) where
  abbrev G : ℕ → Float
  G = flat m (eliminated_entry m k reciprocal b)

  abbrev multiplier : Float
  multiplier = entry m b i k ⊗ reciprocal

  stays_left : (j : ℕ) → j < k → G (i * m + j) ≡ entry m b i j
  stays_left j d = flat_at m (eliminated_entry m k reciprocal b) i j (omega arith) ∙ grind (arith, nat_tests)

  at_k : G (i * m + k) ≡ multiplier
  at_k = flat_at m (eliminated_entry m k reciprocal b) i k (omega arith) ∙ grind (arith, nat_tests)

  past_k : (j : ℕ) → k < j → j < m → G (i * m + j) ≡ entry m b i j ⊖ multiplier ⊗ entry m b k j
  past_k j d e = flat_at m (eliminated_entry m k reciprocal b) i j e ∙ grind (arith, nat_tests)

  -- what is still as it was
  behind : (a : List Float) (t q : ℕ) → a ≡ filled t G b → t ≤ q → q < m * m → get_or a q nan ≡ b ! q
  behind a t q e u v = ap (λ (xs : List Float). get_or xs q nan) e ∙ filled_past nan t G b q u ∙ read b q (rw n v)

  set-cell : (a : List Float) (j : ℕ) (v : Float) → j < m → a ≡ filled (i * m + j) G b → v ≡ G (i * m + j)
      → set a (i * m + j) v ≡ filled (i * m + (j + 1)) G b
  set-cell a j v u e w =
      let d : i * m + j + 1 ≡ i * m + (j + 1) = omega arith in
      ap (λ (xs : List Float). set xs (i * m + j) v) e ∙ filled_set +0 (i * m + j) G b v (rw n (cell_inside m l u)) w ∙ ap (λ (q : ℕ). filled q G b) d

  pub multiplier_is : (a : List Float) → a ≡ filled (i * m) G b → get_or a (i * m + k) nan ⊗ reciprocal ≡ multiplier
  multiplier_is a e = ap (λ (x : Float). x ⊗ reciprocal) (behind a (i * m) (i * m + k) e (omega arith) (cell_inside m l (omega arith)))

  pub row_start : (a : List Float) → a ≡ filled (i * m) G b
      → set a (i * m + k) (get_or a (i * m + k) nan ⊗ reciprocal) ≡ filled (i * m + (k + 1)) G b
  row_start a e =
      let p : i * m + k < m * m = cell_inside m l (omega arith) in
      set-cell a k _ (omega arith)
      (e ∙ filled_on +0 (i * m) (i * m + k) G b (omega arith) (omega arith)
      (λ q u v. subst (λ (x : ℕ). G x ≡ b ! x) (omega arith) (stays_left (q - i * m) (omega arith))))
      (multiplier_is a e ∙ sym at_k)

  pub row_step : (a : List Float) (j : ℕ) (x : Float) → k < j → j < m → x ≡ multiplier → a ≡ filled (i * m + j) G b
      → set a (i * m + j) (get_or a (i * m + j) nan ⊖ x ⊗ get_or a (k * m + j) nan) ≡ filled (i * m + (j + 1)) G b
  row_step a j x d u w e =
      let p : k * m + m ≤ i * m = part_inside m h in
      let above : get_or a (k * m + j) nan ≡ entry m b k j =
      ap (λ (xs : List Float). get_or xs (k * m + j) nan) e ∙ filled_at nan (i * m + j) G b (k * m + j) (omega arith)
      ∙ flat_at m (eliminated_entry m k reciprocal b) k j u ∙ stays_above m k reciprocal b k j (omega arith) in
      let here : get_or a (i * m + j) nan ≡ entry m b i j = behind a (i * m + j) (i * m + j) e (omega arith) (cell_inside m l u) in
      set-cell a j _ u e (rw (here, above, w) (sym (past_k j d u)))
