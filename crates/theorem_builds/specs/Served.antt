-- What a build handed over, a query serves: of the record of an accepted build with its table only the last three questions before a query can
-- say no, those about the level, the buffers' lengths and s. Proved by `built_paths_are_served` of proofs/Served.antt. Assumes nothing.
use Rattle.std.specs.Prelude.{◌≡◌, ℕ, ◌++◌}
use Rattle.rules.specs.declared.PathParam.{PathParam}
use Rattle.rules.specs.Questions.{first_no}
use Rattle.rules.specs.Build.{BuildInput, build_number, accepted_record, table}
use Rattle.rules.specs.Query.{QueryInput, Lengths, buffer_questions, range_questions, query_number}

-- a query of the path that a build handed over
abbrev pub query_of_built : BuildInput → PathParam → ℕ → QueryInput
query_of_built b s level = record { path = accepted_record b; coefficients = table b; s = s; level = level }

-- the theorem
unfoldable pub BuiltPathsAreServed : Type 0
BuiltPathsAreServed =
    (b : BuildInput) (cells : ℕ) (s : PathParam) (level : ℕ) (n : Lengths) → build_number b cells ≡ 0
    → let i = query_of_built b s level in query_number i n ≡ first_no (buffer_questions (accepted_record b).axes level n ++ range_questions (accepted_record b) s)
