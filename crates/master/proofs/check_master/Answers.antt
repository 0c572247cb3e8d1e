-- A no of the first questions is the answer, and else the pass over the table is lent what they let pass, by the order's m. Assumes nothing.
use Rattle.std.proofs.Common.{ap, arith}
use Rattle.rules.specs.Tables.{m_of}
use Rattle.master_questions.specs.Lists.{set_with}
use Rattle.master.proofs.Pass.{refused, lent, seven}
use Rattle.master.proofs.check_master.Goals as goal

pub returns-in_err-master_questions : goal.returns-in_err-master_questions
returns-in_err-master_questions c =
    refused (set_with c.args.order c.args.lists) _ c.from_residual.result c.from_residual.ensures.1 c.in_err-master_questions.ensures

pub check_segments-requires : goal.check_segments-requires
check_segments-requires c = lent _ _ _ _ _ _ c.in_ok-master_questions.ensures (ap m_of c.in-3.is)

pub check_segments-requires-in-5 : goal.check_segments-requires-in-5
check_segments-requires-in-5 c = lent _ _ _ _ _ _ c.in_ok-master_questions.ensures (ap m_of c.in-5.is)

pub check_segments-requires-in_default : goal.check_segments-requires-in_default
check_segments-requires-in_default c =
    let asked = c.in_ok-master_questions.ensures in
    lent _ _ _ _ _ _ asked (seven _ _ _ _ _ asked (λ e. omega arith) (λ e. omega arith))
