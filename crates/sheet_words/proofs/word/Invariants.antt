-- Passing on at each place is passing from the start. Assumes nothing.
use Rattle.std.proofs.Common.{◌≡◌, ◌≤◌, drop}
use Rattle.rules.specs.SheetReading as reading
use Rattle.sheet_words.proofs.word.Given as goal

abbrev pub invariant-loop-b : goal.invariant-loop-b
invariant-loop-b l =
    let text = l.cursor.text.now in
    record {
      same : text ≡ l.fn.cursor.text.now;
      forward : l.fn.cursor.at ≤ l.cursor.at;
      on : reading.word (drop l.b-index l.w) (drop l.cursor.at text) ≡ reading.word l.w (drop l.fn.cursor.at text);
    }
