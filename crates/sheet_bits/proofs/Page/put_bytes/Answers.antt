-- `Page::put_bytes` meets its contract. Assumes nothing.
use mathlib.Core.Path.{refl}
use Rattle.sheet_bits.proofs.Writing.{wrote_lent}
use Rattle.sheet_bits.proofs.Page.put_bytes.Goals as goal

pub returns : goal.returns
returns c = wrote_lent c.args.bytes.now c.copy_from_slice.ensures.after c.requires refl refl refl
