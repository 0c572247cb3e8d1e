-- Reading on at each place is reading from the start. Assumes nothing.
use Rattle.std.proofs.Common.{◌≤◌, length, arith, sym, ◌∙◌}
use Rattle.sheet_decimals.specs.Says.{DigitsSay}
use Rattle.sheet_decimals.proofs.Readings.{left_in, left_is, digits_end, digits_other, digits_more, digits_large}
use Rattle.sheet_decimals.proofs.digits.Goals as goal

pub returns-then-not-digit_from-clause-says : goal.returns-then-not-digit_from-clause-says
unfolding DigitsSay
returns-then-not-digit_from-clause-says c =
    let here = c.args.cursor.now in
    let l = c.loop-b in
    let in_text = left_in here.text.now here.at l.b-index l.cursor.at l.invariant.here c.loop-b-test.true in
    let byte = left_is here.text.now here.at l.b-index l.cursor.at l.invariant.here c.loop-b-test.true in
    let other = sym c.digit_from.ensures.is ∙ c.if-not-digit_from.true in
    λ over. sym (digits_other _ over _ _ in_text _ (rw byte other)) ∙ l.invariant.on over

pub returns-then-limit-sum-clause-says : goal.returns-then-limit-sum-clause-says
unfolding DigitsSay
returns-then-limit-sum-clause-says c =
    let here = c.args.cursor.now in
    let l = c.loop-b in
    let in_text = left_in here.text.now here.at l.b-index l.cursor.at l.invariant.here c.loop-b-test.true in
    let byte = left_is here.text.now here.at l.b-index l.cursor.at l.invariant.here c.loop-b-test.true in
    let w = c.from.ensures in
    let digit = sym c.digit_from.ensures.is ∙ c.if-not-digit_from.false in
    λ over. sym (digits_large _ over _ _ in_text _ (rw byte digit) (omega (arith, byte))) ∙ l.invariant.on over

pub loop-b-preserved : goal.loop-b-preserved
loop-b-preserved c =
    let here = c.args.cursor.now in
    let l = c.loop-b in
    let in_text = left_in here.text.now here.at l.b-index l.cursor.at l.invariant.here c.loop-b-test.true in
    let byte = left_is here.text.now here.at l.b-index l.cursor.at l.invariant.here c.loop-b-test.true in
    let w = c.from.ensures in
    let digit = sym c.digit_from.ensures.is ∙ c.if-not-digit_from.false in
    record {
      same = l.invariant.same;
      here = omega (arith, l.invariant.here);
      within = omega arith;
      on = λ over. rw (w, ← byte) (sym (digits_more _ over _ _ in_text _ (rw byte digit) (omega (arith, byte))) ∙ l.invariant.on over);
    }

pub returns-clause-says : goal.returns-clause-says
unfolding DigitsSay
returns-clause-says c =
    let here = c.args.cursor.now in
    let l = c.loop-b in
    let ended : length here.text.now ≤ l.cursor.at = omega arith in
    λ over. sym (digits_end c.args.limit over here.text.now l.cursor.at l.value ended) ∙ l.invariant.on over
