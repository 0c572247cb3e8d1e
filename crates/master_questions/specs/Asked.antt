-- The questions before a master check, but for the table's numbers; crates/master: they are those of crates/rules/specs/Master.antt. Assumes nothing.
use Rattle.std.specs.Prelude.{◌&&◌, List, [], ◌∷◌, ◌++◌, length}
use Rattle.law_lists.specs.Lists.{all}
use Rattle.rules.specs.Questions.{Question, ask}
use Rattle.rules.specs.Master.{MasterSet, size_questions, length_questions, within}

-- M1, M2, M3, M4, M5, M6, M7: the last question is asked of all but the table
unfoldable pub questions_before : MasterSet → List Question
questions_before s =
    size_questions s.order (length s.waypoints)
    ++ length_questions s
    ++ (ask (all within s.waypoints && all within s.start && all within s.end) 4 ∷ [])
