-- Passing on at each place is passing from the start. Assumes nothing.
use Rattle.std.proofs.Common.{arith, sym, ◌∙◌}
use Rattle.sheet_words.proofs.Readings.{word_done, word_other, word_more}
use Rattle.sheet_words.proofs.word.Goals as goal

pub returns-then-not-eat-clause-says : goal.returns-then-not-eat-clause-says
returns-then-not-eat-clause-says c =
    let l = c.loop-b in
    let (other, here) = c.if-not-eat.ensures.says in
    rw (c.invalid_sheet.ensures, here, ← l.invariant.same)
    (sym (word_other c.args.w.now l.b-index l.cursor.text.now l.cursor.at (omega arith) other) ∙ l.invariant.on)

pub loop-b-preserved : goal.loop-b-preserved
loop-b-preserved c =
    let l = c.loop-b in
    let eaten = c.if-not-eat.ensures in
    record {
      same = eaten.same ∙ l.invariant.same;
      forward = omega arith;
      on = rw (eaten.same, eaten.says.1)
          (sym (word_more c.args.w.now l.b-index l.cursor.text.now l.cursor.at (omega arith) eaten.says.0) ∙ l.invariant.on);
    }

pub returns-clause-says : goal.returns-clause-says
returns-clause-says c =
    let l = c.loop-b in
    rw (← l.invariant.same) (sym (word_done c.args.w.now l.b-index l.cursor.text.now l.cursor.at (omega arith)) ∙ l.invariant.on)
