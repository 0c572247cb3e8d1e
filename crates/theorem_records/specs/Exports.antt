-- What holds of the records that cross the boundary to C, and which numbers each export can answer. Assumes nothing.
use Rattle.std.specs.Prelude.{◌≡◌, ◌↔◌, ℕ, ◌≤◌, Bool, false, ◌||◌, List, [], ◌∷◌, T, eqb, Float}
use Rattle.rules.specs.declared.PathRecord.{PathRecord}
use Rattle.rules.specs.Floats.{+0}
use Rattle.rules.specs.Build.{BuildInput, valid_axes, valid_state, build_number, build_answer}
use Rattle.rules.specs.Query.{QueryInput, Lengths, query_number}
use Rattle.rules.specs.Master.{MasterSet, check_master}
use Rattle.rules.specs.SheetAnswers.{sheet_answer, sheet_place}
use Rattle.tezvorup_records.specs.declared.RawState.{RawState}
use Rattle.tezvorup_records.specs.Meaning.{state_of, path_of, record_of, answer_of, check_of}

-- An unknown kind gets 303 in its place, whatever comes with it. Proved by `unknown_kinds_fit_nothing` of proofs/States.antt.
unfoldable pub UnknownKindsFitNothing : Type 0
UnknownKindsFitNothing =
    (s : RawState) (axes m : ℕ) (numbers : List Float) → 3 ≤ s.kind → T (valid_axes axes) → valid_state axes m (state_of s) numbers ≡ false

-- A query of the record that a build handed over is one of the build's own. Proved by `records_come_back` of proofs/Records.antt.
unfoldable pub RecordsComeBack : Type 0
RecordsComeBack = (p : PathRecord) → path_of (record_of p) ≡ p

-- A build that refuses hands the all-zero record over, and so does its preview. Proved by `refusals_are_blank` of proofs/Records.antt.
unfoldable pub RefusalsAreBlank : Type 0
RefusalsAreBlank =
    (b : BuildInput) (cells : ℕ) → (build_number b cells ≡ 0 → ⊥)
    → (answer_of (build_answer b cells)).path
    ≡ record { order = 0; segments = 0; axes = 0; s_min = +0; s_max = +0; inv_ds = +0; mode = 0 }

-- good is 1 exactly where the check says yes, and never beside a refusal. Proved by `good_is_yes` of proofs/Numbers.antt.
unfoldable pub GoodIsYes : Type 0
GoodIsYes =
    (s : MasterSet)
    → (((check_of (check_master s)).good ≡ 1) ↔ T (check_master s).good)
    × ((check_of (check_master s)).good ≡ 1 → (check_of (check_master s)).number ≡ 0)

-- The numbers that `spline_build` and `spline_preview`, `spline_query` and `spline_check_master` can answer, and those that both exports for job
-- sheets can; include/tezvorup.h has a name for each.
abbrev pub build_numbers : List ℕ
build_numbers = 0 ∷ 2 ∷ 3 ∷ 4 ∷ 300 ∷ 301 ∷ 302 ∷ 303 ∷ 304 ∷ []

abbrev pub query_numbers : List ℕ
query_numbers = 0 ∷ 2 ∷ 300 ∷ 301 ∷ 302 ∷ 303 ∷ 304 ∷ 305 ∷ 308 ∷ []

abbrev pub check_numbers : List ℕ
check_numbers = 0 ∷ 2 ∷ 4 ∷ 302 ∷ 303 ∷ 304 ∷ []

-- J1: a sheet that is built from has 1 to 8 axes, so 300 is not among them
abbrev pub sheet_numbers : List ℕ
sheet_numbers = 0 ∷ 2 ∷ 3 ∷ 4 ∷ 301 ∷ 302 ∷ 303 ∷ 304 ∷ 600 ∷ 601 ∷ []

-- a number is on a list
unfoldable pub one_of : List ℕ → ℕ → Bool
one_of [] n = false
one_of (k ∷ rest) n = eqb n k || one_of rest n

-- There are no others. Proved by `numbers_are_listed` of proofs/Numbers.antt.
unfoldable pub NumbersAreListed : Type 0
NumbersAreListed =
    ((b : BuildInput) (cells : ℕ) → T (one_of build_numbers (build_number b cells)))
    × ((i : QueryInput) (n : Lengths) → T (one_of query_numbers (query_number i n)))
    × ((s : MasterSet) → T (one_of check_numbers (check_of (check_master s)).number))
    × ((t : List ℕ) (cells : ℕ) → T (one_of sheet_numbers (sheet_answer t cells).number))
    × ((t : List ℕ) → T (one_of sheet_numbers (sheet_place t).number))
