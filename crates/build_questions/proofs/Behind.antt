-- Where a question of counts says no, it decides, and else the others do. Assumes nothing.
use Rattle.std.specs.Prelude.{◌≡◌, ℕ, ◌-◌, List, [], ◌∷◌, ◌&&◌, eqb, length, Result, Err}
use Rattle.rules.specs.declared.PathError.{PathError}
use Rattle.rules.specs.Floats.{finite}
use Rattle.law_lists.specs.Lists.{all}
use Rattle.rules.specs.Questions.{Question, ask, first_no, number_of, number_answered}
use Rattle.rules.specs.Tables.{m_of}
use Rattle.rules.specs.Build.{BuildInput, valid_state, valid_range, finite_state, table_length, build_questions}
use Rattle.rules.specs.Master.{size_questions}
use Rattle.build_shape.specs.Shape.{shape_questions}
use Rattle.build_shape.proofs.Shaped.{limits}
use Rattle.questions.proofs.Asked.{no_decides, went_on}

abbrev pub of_counts : BuildInput → List Question
of_counts b = shape_questions b.config.order b.points b.axes (length b.waypoints)

abbrev pub others : BuildInput → ℕ → List Question
others b cells =
    let cfg = b.config in
    let m = m_of cfg.order in
    ask (valid_state b.axes m cfg.start_state b.start) 303
    ∷ ask (valid_state b.axes m cfg.end_state b.end) 303
    ∷ ask (eqb cells (table_length b.axes (b.points - 1) cfg.order)) 2
    ∷ ask (valid_range (b.points - 1) cfg.s_min cfg.s_max) 301
    ∷ ask (all finite b.waypoints && finite_state cfg.start_state b.start && finite_state cfg.end_state b.end) 4
    ∷ []

pub refused : (b : BuildInput) (cells : ℕ) (e : PathError) (r : Result (Unit {0}) PathError) → r ≡ Err e
    → number_of e ≡ first_no (of_counts b) → number_answered r ≡ first_no (build_questions b cells)
unfolding build_questions shape_questions size_questions
refused b cells e r is asked = no_decides e r (of_counts b) (others b cells) is asked

pub behind : (b : BuildInput) (cells : ℕ) → 0 ≡ first_no (of_counts b) → first_no (build_questions b cells) ≡ first_no (others b cells)
unfolding build_questions shape_questions size_questions
behind b cells e = went_on (of_counts b) (others b cells) tt e

-- what the questions behind those of counts go by
pub ruleset by_counts = (refused, behind, limits)
