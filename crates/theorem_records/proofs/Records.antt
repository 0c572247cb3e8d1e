-- A path's record comes back as it was handed over, and that of a refusal is all zero. Assumes nothing.
use mathlib.Core.Path.{◌≡◌, refl}
use borrow.Author.Tests.{ne_eqb}
use Rattle.rules.specs.declared.OutOfRangeMode.{OutOfRangeMode}
use Rattle.rules.specs.declared.OutOfRangeMode.TheVariants.{Error, Clamp}
use Rattle.rules.specs.Build.{refused_record, build_number, build_answer}
use Rattle.tezvorup_records.specs.Meaning.{mode_of, mode_number}
use Rattle.theorem_records.specs.Exports.{RecordsComeBack, RefusalsAreBlank}

-- a mode's number stands for that mode
mode_comes_back : (mode : OutOfRangeMode) → mode_of (mode_number mode) ≡ mode
mode_comes_back Error = refl
mode_comes_back Clamp = refl

pub records_come_back : RecordsComeBack
unfolding RecordsComeBack
records_come_back p = rw (mode_comes_back p.mode)

pub refusals_are_blank : RefusalsAreBlank
unfolding RefusalsAreBlank build_answer refused_record
refusals_are_blank b cells refused = rw (ne_eqb (build_number b cells) 0 refused)
