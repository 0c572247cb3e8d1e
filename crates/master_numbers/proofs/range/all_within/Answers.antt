use Rattle.std.proofs.Common.{rules, tests, ◌≡◌, refl, ap, ◌∙◌, Bool, List, [], ◌∷◌, ◌&&◌}
use Rattle.std.specs.List.{list_all}
use Rattle.std.proofs.lemmas.Iterator.{YieldsList-from_slice}
use Rattle.std.proofs.lemmas.Iterator.Search.{all_from_yields_List}
use Rattle.law_lists.specs.Lists.{all}
use Rattle.rules.specs.Master.{within}
use Rattle.master_numbers.proofs.range.all_within.Goals as goal

-- std's word for it
as_listed : {A : Type 0} (f : A → Bool) (xs : List A) → list_all f xs ≡ all f xs
unfolding all
as_listed f [] = refl
as_listed f (x ∷ xs) = ap (λ (b : Bool). f x && b) (as_listed f xs)

pub returns : goal.returns
returns c =
    all_from_yields_List within _ _ _ c.all.ensures.ran (YieldsList-from_slice c.args.numbers.now cc) (λ x b q k. search (rules, tests))
    ∙ as_listed within c.args.numbers.now
