-- How long the output can be. Proved by `output_fits` of proofs/Fits.antt. Assumes nothing.
use Rattle.std.specs.Prelude.{◌≡◌, List, ℕ, ◌*◌, ◌^◌, ◌<◌, ◌≤◌, length, Float}
use Rattle.rules.specs.declared.PathRecord.{PathRecord}
use Rattle.rules.specs.SheetAnswers.{table_output, refused_output, most_bytes}

-- the theorem
pub record OutputFits : Type 0 where
  -- J10, J11: no table's output is longer than `most_bytes`
  pub tables : (p : PathRecord) (t : List Float) → p.order ≤ 7 → p.segments ≤ 256 → p.axes ≤ 8 → length (table_output p t) ≤ most_bytes
  -- and that of a table of order 7 with 256 segments and 8 axes is as long
  pub longest : (p : PathRecord) (t : List Float) → p.order ≡ 7 → p.segments ≡ 256 → p.axes ≡ 8 → 8 * 256 * 8 ≤ length t
      → length (table_output p t) ≡ most_bytes
  -- J12: a refusal is shorter
  pub refusals : (number place : ℕ) → number < 2 ^ 32 → place < 2 ^ 64 → length (refused_output number place) ≤ 42
