-- Each arm is a case of what an answer says. Assumes nothing.
use Rattle.std.proofs.Common.{rules}
use Rattle.rules.specs.Master.{master_says}
use Rattle.tezvorup_records.proofs.RawCheckFromResultBoolPathError.from.Goals as goal

pub returns-in-Ok-true : goal.returns-in-Ok-true
unfolding master_says
returns-in-Ok-true c = search rules

pub returns-in-Ok-false : goal.returns-in-Ok-false
unfolding master_says
returns-in-Ok-false c = search rules

pub returns-in-Err : goal.returns-in-Err
unfolding master_says
returns-in-Err c = search rules
