-- Going on from each byte is going on from the first. Assumes nothing.
use Rattle.std.proofs.Common.{sym, ◌∙◌, arith}
use Rattle.theorem_numbers.proofs.Going.{stays, is_open_lem}
use Rattle.theorem_numbers.proofs.Pieces.{taken_sound, sound_size, digits_more, digits_over}
use Rattle.number_pieces.proofs.Bytes.{none_left, one_more}
use Rattle.number_pieces.proofs.with_digits.Goals as goal

pub is_more-requires : goal.is_more-requires
is_more-requires c = sound_size _ c.loop-b.invariant.1

pub taken-requires : goal.taken-requires
taken-requires c = sound_size _ c.loop-b.invariant.1

pub returns-then-not-is_more : goal.returns-then-not-is_more
returns-then-not-is_more c =
    let l = c.loop-b.invariant in
    let over = digits_over _ _ l.0 (sym c.is_more.ensures ∙ c.if-not-is_more.true) in
    c.taken.ensures ∙ sym (stays _ _ over) ∙ sym (one_more _ _ _ c.loop-b-test.true (is_open_lem _ (omega arith) l.1)) ∙ l.2

pub loop-b-preserved : goal.loop-b-preserved
loop-b-preserved c =
    let l = c.loop-b.invariant in
    let is = c.taken-kept.ensures in (
      rw is (digits_more _ _ l.0 (sym c.is_more.ensures ∙ c.if-not-is_more.false)),
      rw is (taken_sound _ _ l.1),
      rw is (sym (one_more _ _ _ c.loop-b-test.true (is_open_lem _ (omega arith) l.1)) ∙ l.2),
    )

pub returns : goal.returns
returns c = sym (none_left _ _ _ c.loop-b-test.false) ∙ c.loop-b.invariant.2
