-- The four buffers that a caller lends: what stands behind them, and that they stay the same ones. Assumes nothing.
use Rattle.std.specs.Prelude.{◌≡◌}
use Rattle.rules.specs.Query as Query
use Rattle.query_levels.specs.declared.Buffers.{Buffers}

-- what stands in the buffers
abbrev pub behind : Buffers → Query.Buffers
behind b = record { q = b.q.now; dq = b.dq.now; ddq = b.ddq.now; dddq = b.dddq.now }

-- Each of the four is the buffer that was lent, so that its owner finds there what stands behind it.
pub record SameBuffers (before after : Buffers) : Type 0 where
  pub q : after.q.ghost_name ≡ before.q.ghost_name
  pub dq : after.dq.ghost_name ≡ before.dq.ghost_name
  pub ddq : after.ddq.ghost_name ≡ before.ddq.ghost_name
  pub dddq : after.dddq.ghost_name ≡ before.dddq.ghost_name
