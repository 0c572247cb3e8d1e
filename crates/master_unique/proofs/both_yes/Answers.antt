-- A yes is one to two sets that the check says yes to, and demand 3 speaks of those. Assumes nothing.
use Rattle.std.specs.Prelude.{◌≡◌, ◌↔◌, Bool, true, false, ◌&&◌, T, Result, Ok, Err, IsErrAnd}
use Rattle.std.proofs.Common.{refl, sym, ap, ◌∙◌, subst}
use Rattle.std.proofs.lemmas.Result.{err_from_is_err_and}
use lib.Ieee.Fits.{and_l, and_r}
use Rattle.rules.specs.declared.PathError.{PathError}
use Rattle.rules.specs.Master.{MasterSet, MasterSays, check_master, master_says}
use Rattle.master_questions.specs.Lists.{set_with}
use Rattle.master_unique.specs.Both.{both_say, check_both}
use Rattle.master_unique.specs.Unique.{MastersAreUnique}
use Rattle.master_unique.proofs.Unique.{masters_are_unique}
use Rattle.master_unique.proofs.both_yes.Goals as goal

-- a refused first set is refused, whatever the second is
first_refused : (s t : MasterSet) (e : PathError) (r : Result Bool PathError) → IsErrAnd r (λ y. y ≡ e) → master_says (Err e) ≡ check_master s
    → master_says r ≡ check_both s t
unfolding master_says check_both both_say
first_refused s t e r is h = let p = err_from_is_err_and r is in rw (p.1, p.2, ← h) refl

-- a second one where the first is not
second_refused : (s t : MasterSet) (a : Bool) (e : PathError) (r : Result Bool PathError) → IsErrAnd r (λ y. y ≡ e)
    → master_says (Ok a) ≡ check_master s → master_says (Err e) ≡ check_master t → master_says r ≡ check_both s t
unfolding master_says check_both both_say
second_refused s t true e r is h k = let p = err_from_is_err_and r is in rw (p.1, p.2, ← h, ← k) refl
second_refused s t false e r is h k = let p = err_from_is_err_and r is in rw (p.1, p.2, ← h, ← k) refl

none_refused : (s t : MasterSet) (a b : Bool) → master_says (Ok a) ≡ check_master s → master_says (Ok b) ≡ check_master t
    → master_says (Ok (a && b)) ≡ check_both s t
unfolding master_says check_both both_say
none_refused s t a b h k = rw (← h, ← k) refl

-- what is promised of an answer that says what the check's two answers say
promised : (s t : MasterSet) → s.order ≡ t.order → (r : Result Bool PathError) → master_says r ≡ check_both s t
    → r ≡ Ok true → (s.table ≡ t.table) ↔ ((s.waypoints ≡ t.waypoints) × (s.start ≡ t.start) × (s.end ≡ t.end))
unfolding MastersAreUnique check_both both_say master_says
promised s t e r q y =
    let both : T ((check_master s).good && (check_master t).good) = subst (λ (says : MasterSays). T says.good) (sym (ap master_says y) ∙ q) tt in
    masters_are_unique s t e (and_l (check_master s).good (check_master t).good both) (and_r (check_master s).good (check_master t).good both)

pub returns-in_err-first : goal.returns-in_err-first
returns-in_err-first c =
    let s = set_with c.args.order c.args.one in
    let t = set_with c.args.order c.args.other in
    let q : master_says c.from_residual.result ≡ check_both s t =
    first_refused s t _ c.from_residual.result c.from_residual.ensures.1 c.in_err-first.ensures in
    record { result_value = q; variant = promised s t refl c.from_residual.result q }

pub returns-in_err-second : goal.returns-in_err-second
returns-in_err-second c =
    let s = set_with c.args.order c.args.one in
    let t = set_with c.args.order c.args.other in
    let q : master_says c.from_residual-in_err-second.result ≡ check_both s t =
    second_refused s t _ _ c.from_residual-in_err-second.result c.from_residual-in_err-second.ensures.1 c.in_ok-first.ensures c.in_err-second.ensures in
    record { result_value = q; variant = promised s t refl c.from_residual-in_err-second.result q }

pub returns : goal.returns
returns c =
    let s = set_with c.args.order c.args.one in
    let t = set_with c.args.order c.args.other in
    let q = none_refused s t _ _ c.in_ok-first.ensures c.in_ok-second.ensures in
    record { result_value = q; variant = promised s t refl _ q }
