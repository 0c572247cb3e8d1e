-- Each way out is a no to the next question, or a yes to all. Assumes nothing.
use Rattle.std.specs.Prelude.{◌≡◌, ℕ, true, ◌++◌}
use Rattle.std.proofs.Common.{sym, ◌∙◌}
use Rattle.std.proofs.lemmas.Result.{err_from_is_err_and}
use Rattle.rules.specs.declared.PathRecord.{PathRecord}
use Rattle.rules.specs.Questions.{first_no}
use Rattle.rules.specs.Query.{Lengths, path_questions, buffer_questions}
use Rattle.rules.proofs.Questions.{yes_to, no_to}
use Rattle.questions.proofs.Asked.{handed_on, went_on}
use Rattle.query_levels.specs.Levels.{lengths, valid_lengths}
use Rattle.query_questions.proofs.query_questions.Goals as goal

-- behind the questions about the path
behind : (p : PathRecord) (cells level : ℕ) (n : Lengths) → 0 ≡ first_no (path_questions p cells)
    → first_no (path_questions p cells ++ buffer_questions p.axes level n) ≡ first_no (buffer_questions p.axes level n)
unfolding path_questions
behind p cells level n e = went_on (path_questions p cells) _ tt e

pub returns-in_err-path_questions-clause-number : goal.returns-in_err-path_questions-clause-number
returns-in_err-path_questions-clause-number c =
    handed_on _ c.from_residual.result _ _ c.from_residual.ensures.1 c.in_err-path_questions.ensures

pub returns-in_err-known-clause-number : goal.returns-in_err-known-clause-number
unfolding buffer_questions
returns-in_err-known-clause-number c =
    let refused = c.in_err-known.ensures in
    let p = err_from_is_err_and c.from_residual-in_err-known.result c.from_residual-in_err-known.ensures.1 in
    rw (p.1, p.2, refused.1)
    (sym (behind c.args.path c.args.cells c.args.level (lengths c.args.n) c.in_ok-path_questions.ensures ∙ no_to _ refused.0))

pub returns-then-not-valid-clause-number : goal.returns-then-not-valid-clause-number
unfolding buffer_questions
returns-then-not-valid-clause-number c =
    let level = c.in_ok-known.ensures in
    sym (behind c.args.path c.args.cells c.args.level (lengths c.args.n) c.in_ok-path_questions.ensures
    ∙ yes_to _ _ level.0
    ∙ no_to _ (sym c.if-not-valid.ensures))

pub returns-clause-number : goal.returns-clause-number
unfolding buffer_questions first_no
returns-clause-number c =
    let level = c.in_ok-known.ensures in
    let valid : valid_lengths c.args.path.axes c.args.level (lengths c.args.n) ≡ true = sym c.if-not-valid.ensures in
    sym (behind c.args.path c.args.cells c.args.level (lengths c.args.n) c.in_ok-path_questions.ensures
    ∙ yes_to _ _ level.0
    ∙ yes_to _ _ valid)
