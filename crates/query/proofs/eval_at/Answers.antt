-- The three ways out are a no to one of the questions before the lookup, an s that the lookup refuses, and a yes to all. Assumes nothing.
use Rattle.std.proofs.Common.{◌≡◌, ℕ, ◌<◌, true, sym, ap, ◌∙◌, subst}
use Rattle.std.proofs.lemmas.Result.{err_from_is_err_and}
use Rattle.rules.specs.declared.PathError.TheVariants.{OutOfRangeS}
use Rattle.rules.specs.Query.{lookup, LookupSays, lookup_says, query_of, lengths_of}
use Rattle.rules.proofs.Questions.{refused_not_zero}
use Rattle.query_levels.specs.Lent.{behind}
use Rattle.query_lookup.proofs.Answer.{range, in_range_lem, out_of_range, segment_known}
use Rattle.query.proofs.NumberAndBuffers.{asked, no_number, range_number, findable, evaluable, kept, written}
use Rattle.query.proofs.eval_at.Goals as goal

pub returns-in_err-level-clause-queried : goal.returns-in_err-level-clause-queried
returns-in_err-level-clause-queried c =
    let i = query_of c.args.path c.args.coeffs.now c.args.s c.args.level in
    let b = behind c.args.buffers.now in
    let e = c.in_err-level.field-0.0 in
    let p = err_from_is_err_and c.from_residual.result c.from_residual.ensures.1 in
    let answered = c.in_err-level.ensures.number ∙ ap (asked i) c.lengths.ensures in
    rw (p.1, p.2) (kept i b e (no_number i (lengths_of b) (λ none. refused_not_zero e (answered ∙ none)) ∙ sym answered))

pub segment_tau-requires : goal.segment_tau-requires
segment_tau-requires c =
    let i = query_of c.args.path c.args.coeffs.now c.args.s c.args.level in
    findable i (lengths_of (behind c.args.buffers.now)) (sym (c.in_ok-level.ensures.number ∙ ap (asked i) c.lengths.ensures))

pub returns-in_err-at-clause-queried : goal.returns-in_err-at-clause-queried
unfolding lookup_says
returns-in_err-at-clause-queried c =
    let i = query_of c.args.path c.args.coeffs.now c.args.s c.args.level in
    let b = behind c.args.buffers.now in
    let yes = sym (c.in_ok-level.ensures.number ∙ ap (asked i) c.lengths.ensures) in
    let p = err_from_is_err_and c.from_residual-in_err-at.result c.from_residual-in_err-at.ensures.1 in
    let says : (lookup_says (lookup i.path i.s)).number ≡ 305 = ap (λ (says : LookupSays). says.number) (sym c.in_err-at.ensures) in
    rw (p.1, p.2) (kept i b OutOfRangeS (range_number i (lengths_of b) yes (out_of_range i.path i.s says)))

pub eval_axes-requires : goal.eval_axes-requires
unfolding lookup_says
eval_axes-requires c =
    let i = query_of c.args.path c.args.coeffs.now c.args.s c.args.level in
    let n = lengths_of (behind c.args.buffers.now) in
    let yes = sym (c.in_ok-level.ensures.number ∙ ap (asked i) c.lengths.ensures) in
    let found = sym c.in_ok-at.ensures in
    let inside : range i.path i.s ≡ true = in_range_lem i.path i.s (ap (λ (says : LookupSays). says.number) found) in
    let known = segment_known i.path i.s (findable i n yes) inside in
    rw c.in_ok-level.ensures.level
    (evaluable i n yes c.in_ok-at.at.segment (subst (λ (k : ℕ). k < i.path.segments) (ap (λ (says : LookupSays). says.segment) found) known))

pub returns-clause-queried : goal.returns-clause-queried
unfolding lookup_says
returns-clause-queried c =
    let i = query_of c.args.path c.args.coeffs.now c.args.s c.args.level in
    let yes = sym (c.in_ok-level.ensures.number ∙ ap (asked i) c.lengths.ensures) in
    let found = sym c.in_ok-at.ensures in
    let inside : range i.path i.s ≡ true = in_range_lem i.path i.s (ap (λ (says : LookupSays). says.number) found) in
    written i (behind c.args.buffers.now) (behind c.eval_axes.new.buffers) c.in_ok-at.at yes inside found
    (rw c.in_ok-level.ensures.level at c.eval_axes.ensures.evaluated)
