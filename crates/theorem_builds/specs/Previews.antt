-- Ask before the build, Wish 3 of document 02: a preview "gives the number and record that the build would give on a copy of everything. Proved equal for
-- every input." Of two calls that are given the same, a preview that is told a length and a build into any buffer of that length. Proved by
-- `preview_is_the_build` of proofs/Previews.antt; `preview_then_build` of crates/build_previewed makes the two calls, so that what is supposed of them
-- here is what their contracts promise. Assumes nothing.
use Rattle.std.specs.Prelude.{◌≡◌, cond, List, ℕ, eqb, length, Float}
use Rattle.rules.specs.Build.{BuildInput, BuildAnswer, build_answer, table, buffer_after}

-- what the contract of `preview` promises of its answer, whatever the length is
abbrev pub Previewed : BuildInput → ℕ → BuildAnswer → Type 0
Previewed b cells told = told ≡ build_answer b cells

-- what the contract of `from_waypoints_view` promises of its answer, and of the buffer afterwards
abbrev pub Built : BuildInput → List Float → BuildAnswer → List Float → Type 0
Built b before answer after = (answer ≡ build_answer b (length before)) × (after ≡ buffer_after b before)

-- V2, V4, V5, V6: the theorem: number and record are the build's, at refusals too; and so a preview tells what becomes of the buffer, that the build's
-- table is written where its number is 0, and that else the buffer keeps what it holds
unfoldable pub PreviewIsTheBuild : Type 0
PreviewIsTheBuild =
    (b : BuildInput) (cells : ℕ) (told : BuildAnswer) → Previewed b cells told
    → (before after : List Float) (answer : BuildAnswer) → length before ≡ cells → Built b before answer after
    → (told ≡ answer) × (after ≡ cond (eqb told.number 0) (table b) before)
