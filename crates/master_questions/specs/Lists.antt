-- The set that an order and four lists are. Assumes nothing.
use Rattle.std.specs.Prelude.{ℕ}
use Rattle.rules.specs.Master.{MasterSet, set_of}
use Rattle.master_questions.specs.declared.lists.MasterLists.{MasterLists}

-- M9: "A set is all that one check is given"
abbrev pub set_with : ℕ → MasterLists → MasterSet
set_with order lists = set_of order lists.waypoints.now lists.start.now lists.end.now lists.table.now
