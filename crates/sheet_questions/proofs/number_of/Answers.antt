-- `sheet_questions::number_of` meets its contract: the questions are asked of what a build of the sheet is given. Assumes nothing.
use mathlib.Core.Path.{ap₂, ◌∙◌}
use Rattle.rules.specs.Build.{build_number}
use Rattle.sheet_columns.proofs.Read.{cells_are, input_is}
use Rattle.sheet_questions.proofs.number_of.Goals as goal

-- what a build of that answers is what a build of the sheet answers
pub returns : goal.returns
unfolding build_number
returns c s read =
    c.build_questions.ensures
    ∙ ap₂ build_number (c.input-input.ensures ∙ input_is s c.args.read read) (c.cells_of.ensures ∙ cells_are s c.args.read read)
