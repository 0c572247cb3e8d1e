-- The check of two sets: what its two answers say together. Assumes nothing.
use Rattle.std.specs.Prelude.{cond, ◌&&◌, ◌||◌}
use Rattle.rules.specs.Master.{MasterSet, MasterSays, check_master}

-- Refused where either is, with the number of the first that is. Else yes where both say yes, and no where one says no.
unfoldable pub both_say : MasterSays → MasterSays → MasterSays
both_say first second = record {
  refused = first.refused || second.refused;
  number = cond first.refused first.number second.number;
  good = first.good && second.good;
}

unfoldable pub check_both : MasterSet → MasterSet → MasterSays
check_both s t = both_say (check_master s) (check_master t)
