use Rattle.std.proofs.Common.{◌∙◌}
use Rattle.master_equations.proofs.Tests.{as_lent}
use Rattle.master_equations.proofs.meets.Goals as goal

pub returns : goal.returns
returns c = c.eq.ensures ∙ as_lent c.args.sums.now c.args.numbers.now c.requires
