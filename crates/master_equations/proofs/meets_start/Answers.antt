use Rattle.std.proofs.Common.{◌∙◌}
use Rattle.master_equations.proofs.Tests.{start_as_made}
use Rattle.master_equations.proofs.meets_start.Goals as goal

pub returns : goal.returns
returns c segments = c.meets.ensures ∙ start_as_made c.args.m segments c.args.table.now c.args.start.now c.requires.0
