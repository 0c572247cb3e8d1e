-- What the records stand for that a caller from C hands over, and gets back; what holds of them stands in crates/theorem_records. Assumes nothing.
use Rattle.std.specs.Prelude.{ℕ, true, false, cond, eqb, Option, None, Result, Ok, Err}
use Rattle.rules.specs.declared.OutOfRangeMode.{OutOfRangeMode}
use Rattle.rules.specs.declared.OutOfRangeMode.TheVariants.{Error, Clamp}
use Rattle.rules.specs.declared.BoundaryState.{BoundaryState}
use Rattle.rules.specs.declared.SplineConfig.{SplineConfig}
use Rattle.rules.specs.declared.PathRecord.{PathRecord}
use Rattle.rules.specs.Build.{BuildAnswer, given, refused_record}
use Rattle.rules.specs.Master.{MasterSays}
use Rattle.rules.specs.SheetAnswers.{SheetPlace, SheetAnswer}
use Rattle.tezvorup_records.specs.declared.RawState.{RawState}
use Rattle.tezvorup_records.specs.declared.RawConfig.{RawConfig}
use Rattle.tezvorup_records.specs.declared.RawPath.{RawPath}
use Rattle.tezvorup_records.specs.declared.RawAnswer.{RawAnswer}
use Rattle.tezvorup_records.specs.declared.RawCheck.{RawCheck}
use Rattle.tezvorup_records.specs.declared.RawPlace.{RawPlace}
use Rattle.tezvorup_records.specs.declared.RawSheet.{RawSheet}

-- A state by its kind: 0 is none, 1 is given, 2 is given per unit of s. Any other kind is reserved, and is a state of the largest
-- usize as rows: question 6 says no to it, as no axes that question 4 lets pass are so many.
abbrev pub state_of : RawState → Option BoundaryState
state_of s =
    cond (eqb s.kind 0) None
    (cond (eqb s.kind 1) (given s.rows s.columns false)
    (cond (eqb s.kind 2) (given s.rows s.columns true)
    (given 18446744073709551615 s.columns false)))

-- 1 is Clamp, and any other number is Error; 2 and above are reserved.
abbrev pub mode_of : ℕ → OutOfRangeMode
mode_of mode = cond (eqb mode 1) Clamp Error

-- The number that a mode is handed over as.
abbrev pub mode_number : OutOfRangeMode → ℕ
mode_number Error = 0
mode_number Clamp = 1

-- What a build is told.
abbrev pub config_of : RawConfig → SplineConfig
config_of c = record {
  order = c.order;
  s_min = record { 0 = c.s_min };
  s_max = record { 0 = c.s_max };
  out_of_range_mode = mode_of c.mode;
  start_state = state_of c.start;
  end_state = state_of c.end;
}

-- The path that a query is asked of.
abbrev pub path_of : RawPath → PathRecord
path_of p = record {
  order = p.order;
  segments = p.segments;
  axes = p.axes;
  s_min = record { 0 = p.s_min };
  s_max = record { 0 = p.s_max };
  inv_ds = p.inv_ds;
  mode = mode_of p.mode;
}

-- The same record, handed over.
abbrev pub record_of : PathRecord → RawPath
record_of p = record {
  order = p.order;
  segments = p.segments;
  axes = p.axes;
  s_min = p.s_min.0;
  s_max = p.s_max.0;
  inv_ds = p.inv_ds;
  mode = mode_number p.mode;
}

-- The record beside an answer's number: that of the path, or that of a refusal.
abbrev pub record_beside : {E : Type 0} → Result PathRecord E → RawPath
record_beside (Ok path) = record_of path
record_beside (Err error) = record_of refused_record

-- What a build answers, and a preview: the number, and the record beside it.
abbrev pub answer_of : BuildAnswer → RawAnswer
answer_of a = record { number = a.number; path = record_of a.path }

-- What a check answers: the refusal's number or 0, and beside it 1 for yes and 0 else.
abbrev pub check_of : MasterSays → RawCheck
check_of says = record { number = cond says.refused says.number 0; good = cond says.good 1 0 }

-- What reading a job sheet answers: number and place.
abbrev pub place_of : SheetPlace → RawPlace
place_of p = record { number = p.number; at = p.at }

-- What building the curve of one answers: the same, and the record beside it.
abbrev pub sheet_answer_of : SheetAnswer → RawSheet
sheet_answer_of a = record { number = a.number; at = a.at; path = record_of a.path }
