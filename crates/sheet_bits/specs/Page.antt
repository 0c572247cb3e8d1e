-- Bytes written onto a page that has room for them. Assumes nothing.
use Rattle.std.specs.Prelude.{◌≡◌, ◌≤◌, List, ℕ, ◌+◌, length}
use lib.Seq.{paste}
use Rattle.sheet_bits.specs.declared.Page.{Page}

-- there is room for bytes
abbrev pub HasRoom : Page → List ℕ → Type 0
HasRoom page bytes = page.at + length bytes ≤ length page.buffer.now

-- what a routine does that writes bytes: they stand in the same buffer from the place on up to which it was written, and what is before and past them stays
pub record Wrote (before : Page) (bytes : List ℕ) (after : Page) : Type 0 where
  pub same_buffer : after.buffer.ghost_name ≡ before.buffer.ghost_name
  pub same_length : length after.buffer.now ≡ length before.buffer.now
  pub place : after.at ≡ before.at + length bytes
  pub inside : after.at ≤ length after.buffer.now
  pub is_written : after.buffer.now ≡ paste before.buffer.now before.at bytes (length bytes)
