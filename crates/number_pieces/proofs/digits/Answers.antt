-- The bytes that are lent on are those from the place on. Assumes nothing.
use Rattle.std.proofs.Common.{sym, ap, ◌∙◌, subst, List, ℕ}
use Rattle.std.proofs.lemmas.List.{take_rest}
use Rattle.rules.specs.SheetNumbers.{go_on}
use Rattle.theorem_numbers.specs.Pieces.{Settled}
use Rattle.number_pieces.proofs.Bytes.{none_left}
use Rattle.number_pieces.proofs.digits.Goals as goal

pub returns-then-bytes-from : goal.returns-then-bytes-from
returns-then-bytes-from c = sym (none_left _ _ _ c.if-bytes-from.true)

pub with_digits-requires : goal.with_digits-requires
with_digits-requires c = subst (λ (t : List ℕ). Settled c.args.reading t) (sym (take_rest c.args.bytes.now c.args.from)) c.requires

pub returns : goal.returns
returns c = c.with_digits.ensures ∙ ap (go_on c.args.reading) (take_rest c.args.bytes.now c.args.from)
