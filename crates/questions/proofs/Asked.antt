-- Questions that a `?` asks first, and others behind them: what its two ways on say of the answer to all. Assumes nothing.
use Rattle.std.specs.Prelude.{◌≡◌, List, ◌++◌, T, Result, Err, IsErrAnd}
use Rattle.std.proofs.Common.{sym, ap, ◌∙◌}
use Rattle.std.proofs.lemmas.Result.{err_from_is_err_and}
use Rattle.rules.specs.declared.PathError.{PathError}
use Rattle.rules.specs.Questions.{Question, first_no, number_of, number_answered}
use Rattle.rules.proofs.Questions.{numbered, first_no_lem, first_yes, refused_not_zero}

-- the error of a no answers all
pub no_decides : {A : Type 0} (e : PathError) (r : Result A PathError) (qs others : List Question)
    → r ≡ Err e → number_of e ≡ first_no qs → number_answered r ≡ first_no (qs ++ others)
no_decides e r qs others is asked = rw is (asked ∙ sym (first_no_lem qs others (λ none. refused_not_zero e (asked ∙ none))))

-- the same of what a `?` hands on
pub handed_on : {A : Type 0} (e : PathError) (r : Result A PathError) (qs others : List Question)
    → IsErrAnd r (λ y. y ≡ e) → number_of e ≡ first_no qs → number_answered r ≡ first_no (qs ++ others)
handed_on e r qs others is asked =
    let p = err_from_is_err_and r is in
    no_decides e r qs others (p.1 ∙ ap Err p.2) asked

-- where all of the first say yes, the others decide
pub went_on : (qs others : List Question) → T (numbered qs) → 0 ≡ first_no qs → first_no (qs ++ others) ≡ first_no others
went_on qs others h e = first_yes qs others h (sym e)
