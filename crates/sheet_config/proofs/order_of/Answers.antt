-- `sheet_config::order_of` meets its contract. Assumes nothing.
use mathlib.Core.Path.{◌∙◌}
use Rattle.sheet_config.proofs.Exact.{back, order_or_0}
use Rattle.sheet_config.proofs.order_of.Goals as goal

pub returns-clause-value : goal.returns-clause-value
returns-clause-value c =
    c.unwrap_or.ensures ∙ order_or_0 c.args.order c.try_from.result c.requires (rw (back c.args.order c.requires) at c.try_from.ensures)
