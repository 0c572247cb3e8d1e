-- What the number of the first no says of the answer: `refused`, `served` and `few_points`, together `by_questions`. Assumes nothing.
use Rattle.std.specs.Prelude.{◌≡◌, ℕ, ◌≤◌, Result, Err}
use Rattle.std.proofs.Common.{sym, arith}
use Rattle.rules.specs.declared.PathError.{PathError}
use Rattle.rules.specs.declared.PathRecord.{PathRecord}
use Rattle.rules.specs.Build.{BuildInput, build_questions, build_number, accepted_record, build_answered, build_answer}
use Rattle.rules.specs.Questions.{first_no, number_of}
use Rattle.rules.proofs.Questions.{refused_not_zero}
use Rattle.rules.proofs.BuildAnswers.{refused_answer, accepted_answer, points_known}

pub refused : (b : BuildInput) (cells : ℕ) (e : PathError) (r : Result PathRecord PathError)
    → r ≡ Err e → number_of e ≡ first_no (build_questions b cells) → build_answered r ≡ build_answer b cells
unfolding build_number
refused b cells e r is asked = rw is (sym (refused_answer b cells _ (refused_not_zero e) (sym asked)))

pub served : (b : BuildInput) (cells : ℕ) (p : PathRecord) → 0 ≡ first_no (build_questions b cells) → p ≡ accepted_record b
    → record { number = 0; path = p } ≡ build_answer b cells
unfolding build_number
served b cells p asked is = rw is (sym (accepted_answer b cells (sym asked)))

pub few_points : (b : BuildInput) (cells : ℕ) → 0 ≡ first_no (build_questions b cells) → (1 ≤ b.points) × (b.points ≤ 257)
unfolding build_number
few_points b cells asked = let h = points_known b cells (sym asked) in (omega arith, h.1)

-- what a preview goes by
pub ruleset by_questions = (refused, served, few_points)
