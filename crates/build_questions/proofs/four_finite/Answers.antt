-- One comparison for four numbers. Assumes nothing.
use Rattle.build_questions.proofs.Fours.{of_four}
use Rattle.build_questions.proofs.four_finite.Goals as goal

pub returns : goal.returns
returns c = of_four c.args.four.now (search)
