-- What the lookup may rely on: what the questions have found out of a path. Assumes nothing.
use Rattle.std.specs.Prelude.{◌≤◌, T}
use Rattle.rules.specs.declared.PathRecord.{PathRecord}
use Rattle.rules.specs.Query.{valid_path_range}

pub record Findable (p : PathRecord) : Type 0 where
  pub some : 1 ≤ p.segments
  pub few : p.segments ≤ 256
  pub range : T (valid_path_range p)
