-- A list stands for as many numbers as its size says. Assumes nothing.
use mathlib.Core.Path.{◌≡◌, refl, ap, ◌∙◌}
use Prim.Native.Nat.{◌*◌}
use native.Mathlib.Omega.{arith}
use lib.ListN.{length, length-append}
use Rattle.rules.specs.Sheets.{Item, Items, whole, again, one, more}
use Rattle.rules.specs.SheetFaults.{size_of, size}
use Rattle.rules.specs.SheetAnswers.{numbers, numbers_of}
use Rattle.sheet_puts.proofs.Puts.{length-times}

mutual
  unfolding numbers_of size_of

  pub item_size : (i : Item) → length (numbers_of i) ≡ size_of i
  item_size (whole z) = refl
  item_size (again n items) = length-times n (numbers items) ∙ ap (λ x. n * x) (list_size items)

  pub list_size : (items : Items) → length (numbers items) ≡ size items
  list_size (one i) = item_size i
  list_size (more i items) = length-append (numbers_of i) (numbers items) ∙ omega (arith, item_size i, list_size items)
