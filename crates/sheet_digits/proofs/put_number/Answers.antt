-- `sheet_digits::put_number` meets its contract. Assumes nothing.
use Rattle.sheet_bits.proofs.Writing.{wrote_both}
use Rattle.sheet_digits.proofs.put_number.Goals as goal

pub returns : goal.returns
returns c = wrote_both c.put_bytes.ensures c.put_decimal.ensures
