-- A list that a loop fills from the left, as the loop's invariant has it: ys is the list as it was, xs, with f's cells below i. Assumes nothing.
use mathlib.Core.Path.{◌≡◌, sym, ap, ◌∙◌}
use mathlib.Core.List.{List}
use Prim.Native.Nat.{ℕ, ◌+◌, ◌≤◌, ◌<◌}
use native.Mathlib.Omega.{arith}
use lib.ListN.{length, get_or, set}
use lib.Ieee.{Float, nan}
use Rattle.rules.specs.Floats.{◌!◌, +0}
use Rattle.law_lists.specs.Lists.{listed}
use Rattle.law_lists.proofs.Filling.{filled, filled_none, filled_set, filled_all, filled_past, filled_start, filled_on, length-filled}
use Rattle.rules.proofs.Cells.{read}

pub record Filled (i : ℕ) (f : ℕ → Float) (xs ys : List Float) : Type 0 where
  pub inside : i ≤ length xs
  pub is : ys ≡ filled i f xs

-- a loop that starts at cell k: the cells before are as they should be
pub start : (k : ℕ) (f : ℕ → Float) (xs : List Float) → k ≤ length xs → ((j : ℕ) → j < k → f j ≡ xs ! j) → Filled k f xs xs
start k f xs h e = record { inside = h; is = filled_start +0 k f xs h e }

pub none : (f : ℕ → Float) (xs : List Float) → Filled 0 f xs xs
none f xs = record { inside = omega arith; is = sym (filled_none f xs) }

module _ {i : ℕ} {f : ℕ → Float} {xs ys : List Float} (h : Filled i f xs ys) where
  pub kept : length ys ≡ length xs
  kept = ap length h.is ∙ length-filled i f xs h.inside

  pub step : {v : Float} → v ≡ f i → i < length xs → Filled (i + 1) f xs (set ys i v)
  step {v} e l = record { inside = omega arith; is = ap (λ (zs : List Float). set zs i v) h.is ∙ filled_set +0 i f xs v l e }

  -- what is read of a cell that is still to be filled
  pub left : (j : ℕ) → i ≤ j → j < length xs → get_or ys j nan ≡ xs ! j
  left j l b = read ys j (omega (arith, kept)) ∙ ap (λ (zs : List Float). zs ! j) h.is ∙ filled_past +0 i f xs j l

  -- the cells from i to k − 1 are as they should be already
  pub on : (k : ℕ) → i ≤ k → k ≤ length xs → ((j : ℕ) → i ≤ j → j < k → f j ≡ xs ! j) → Filled k f xs ys
  on k l b e = record { inside = b; is = h.is ∙ filled_on +0 i k f xs l b e }

  pub whole : {n : ℕ} → length xs ≡ n → n ≤ i → ys ≡ listed n f
  whole e l = h.is ∙ filled_all i f xs (omega arith) ∙ ap (λ (k : ℕ). listed k f) (omega arith)
