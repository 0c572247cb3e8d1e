-- The columns of lists in a buffer: where their numbers stand, and how many there are. Assumes nothing.
use mathlib.Core.Path.{◌≡◌}
use mathlib.Core.List.{List}
use Prim.Native.Nat.{ℕ, ◌+◌, ◌*◌, ◌≤◌, ◌<◌}
use native.Mathlib.Nat.{le_trans}
use lib.IntN.{ℤ}
use lib.ListN.{length}
use Rattle.law_lists.proofs.Lists.{length-listed, length-joined}
use Rattle.law_lists.proofs.Places.{cell_inside}
use Rattle.sheet_record.specs.Reached.{InReach}
use Rattle.sheet_columns.specs.Columns.{columns_at}

module _ {stride rows columns : ℕ} {buffer : List ℤ} (h : InReach stride rows columns buffer) where
  -- a number's place is inside
  pub place_inside : {a k : ℕ} → a < rows → k < columns → a * stride + k < length buffer
  place_inside l b = le_trans (cell_inside stride l (le_trans b h.apart)) h.inside

  -- fewer columns
  pub fewer : (k : ℕ) → k ≤ columns → InReach stride rows k buffer
  fewer k l = record { apart = le_trans l h.apart; inside = h.inside; near = λ a j b m. h.near a j b (le_trans m l) }

pub length_columns : (stride rows columns : ℕ) (buffer : List ℤ) → length (columns_at stride rows columns buffer) ≡ columns * rows
unfolding columns_at
length_columns stride rows columns buffer = length-joined columns rows _ (λ k l. length-listed rows _)
