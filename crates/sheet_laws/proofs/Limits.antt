-- What is read within the limits of a sheet is a spelling, and valid. Assumes nothing.
use mathlib.Core.Path.{◌≡◌, sym, ap, subst, ◌∙◌}
use mathlib.Core.Bool.{true}
use mathlib.Core.List.{List, ◌++◌}
use Prim.Native.Nat.{ℕ, suc, ◌+◌, ◌*◌, ◌^◌, ◌<◌}
use native.Mathlib.Omega.{arith}
use lib.ListN.{length}
use borrow.Author.Tests.{leb-true, le-leb}
use Rattle.rules.specs.Sheets.{Item, Items, spell_item, spell_items, ValidItem, ValidItems, within, below4}
use Rattle.rules.specs.SheetReading.{Read, got, item}
use Rattle.sheet_laws.proofs.Exact.{Out, reads, faults, other, Any}
use Rattle.sheet_laws.proofs.Steps.{ItemEnds, item_n, items_n}
use Rattle.sheet_laws.proofs.Items.{item_out, items_out}
use Rattle.sheet_laws.proofs.Fuel.{list, item_is}

pub within_small : (d : ℕ) → d < 10 → within d ≡ true
within_small d h = le-leb d (2 ^ 40) (omega arith)

pub within_shorter : (n d : ℕ) → within (n * 10 + d) ≡ true → within n ≡ true
within_shorter n d e = le-leb n (2 ^ 40) (let h = leb-true (n * 10 + d) (2 ^ 40) e in omega arith)

-- an exact reading that reads a value reads its spelling
pub spelled : {A : Type 0} (sp : A → List ℕ) (Ok : A → Type 0) (P : ℕ → List ℕ → Read A) (F : A → List ℕ → Type 0) (t : List ℕ) (x : Read A)
    → Out sp Ok P F t x → (a : A) (z : List ℕ) → x ≡ got a z → (t ≡ sp a ++ z) × Ok a
spelled sp Ok P F t x (reads b y p q v f) a z e =
    let i : b ≡ a = cc in
    let j : y ≡ z = cc in
    (q ∙ ap (λ c. sp c ++ y) i ∙ ap (λ c. sp a ++ c) j, subst Ok i v)
spelled sp Ok P F t x (other k y p h) a z e = let w : ◌≡◌ {A = ℕ} 0 1 = cc in absurd (omega arith)
spelled sp Ok P F t x (faults y p f) a z e = let w : ◌≡◌ {A = ℕ} 0 1 = cc in absurd (omega arith)

pub item_spelled : (d : ℕ) (t : List ℕ) (i : Item) (z : List ℕ) → item within below4 (λ r. list within below4 (suc d) r) d t ≡ got i z
    → (t ≡ spell_item i ++ z) × ValidItem within below4 i d
item_spelled d t i z e =
    spelled spell_item (λ x. ValidItem within below4 x d) (item_n within below4 d) ItemEnds t _
    (item_out within below4 within_small within_shorter (length t) d t (omega arith)
    (λ c r h. items_out within below4 within_small within_shorter (length t) c r h)) i z
    (sym (item_is within below4 (length t) d t (omega arith)) ∙ e)

pub list_spelled : (d : ℕ) (t : List ℕ) (its : Items) (z : List ℕ) → list within below4 d t ≡ got its z
    → (t ≡ spell_items its ++ z) × ValidItems within below4 its d
list_spelled d t its z e =
    spelled spell_items (λ x. ValidItems within below4 x d) (items_n within below4 d) Any t _
    (items_out within below4 within_small within_shorter (suc (length t)) d t (omega arith)) its z e
