-- What an iterator's `all` says of a list, by fours and then of the rest. Assumes nothing.
use Rattle.std.proofs.Common.{rules, tests, ◌∙◌, ◌/◌, length}
use Rattle.std.proofs.lemmas.Iterator.{YieldsList-from_slice}
use Rattle.std.proofs.lemmas.Iterator.Search.{all_from_yields_List}
use Rattle.std.specs.Float.{float_is_finite}
use Rattle.rules.specs.Floats.{finite}
use Rattle.law_lists.specs.Lists.{all}
use Rattle.questions.proofs.Finite.{all_finite_is}
use Rattle.build_questions.proofs.Fours.{first_fours, where_yes, where_no}
use Rattle.build_questions.proofs.all_finite.Goals as goal

pub returns-then-all : goal.returns-then-all
returns-then-all c =
    let xs = c.args.numbers.now in
    let rest = c.as_chunks.result.1.now in
    let fours =
    all_from_yields_List (all finite) _ _ _ c.all.ensures.ran (YieldsList-from_slice c.as_chunks.result.0.now cc) (λ x b q k. search (rules, tests)) in
    let others =
    all_from_yields_List float_is_finite _ _ _ c.all-then-all.ensures.ran (YieldsList-from_slice rest cc) (λ x b q k. search (rules, tests)) in
    others
    ∙ all_finite_is rest
    ∙ where_yes c.all.result (all finite rest) (all finite xs) c.if-all.true
    (first_fours (length xs / 4) xs rest c.as_chunks.result.0.now c.all.result c.as_chunks.ensures.front c.as_chunks.ensures.back fours)

pub returns-else-all : goal.returns-else-all
returns-else-all c =
    let xs = c.args.numbers.now in
    let rest = c.as_chunks.result.1.now in
    let fours =
    all_from_yields_List (all finite) _ _ _ c.all.ensures.ran (YieldsList-from_slice c.as_chunks.result.0.now cc) (λ x b q k. search (rules, tests)) in
    where_no c.all.result (all finite rest) (all finite xs) c.if-all.false
    (first_fours (length xs / 4) xs rest c.as_chunks.result.0.now c.all.result c.as_chunks.ensures.front c.as_chunks.ensures.back fours)
