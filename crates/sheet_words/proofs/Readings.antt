-- One step of the judge's reading of fixed bytes, at a place of the text. Assumes nothing.
use Prim.{tt}
use mathlib.Core.Path.{◌≡◌, refl, ap, ◌∙◌}
use mathlib.Core.List.{List}
use Prim.Native.Nat.{ℕ, ◌+◌, ◌<◌, ◌≤◌}
use lib.ListN.{length, get_or, drop, drop_of_length-le}
use borrow.Author.Tests.{eq-eqb, ne_eqb}
use Rattle.std.proofs.Common.{Option, None, Some}
use Rattle.std.specs.List.{slice_get}
use Rattle.rules.specs.SheetReading as reading
use Rattle.sheet_laws.proofs.Texts.{drop_here}
use Rattle.sheet_reading.proofs.Bytes.{left_none, left_byte}

module _ (w : List ℕ) (i : ℕ) (s : List ℕ) (j : ℕ) where
  pub word_done : length w ≤ i → reading.word (drop i w) (drop j s) ≡ reading.got tt (drop j s)
  unfolding reading.word
  word_done h = rw (drop_of_length-le w h)

  module _ (h : i < length w) where
    pub word_other : (slice_get s j ≡ Some (get_or w i 0) → ⊥) → reading.word (drop i w) (drop j s) ≡ reading.stop 600 (drop j s)
    unfolding reading.word
    word_other n = go (slice_get s j) refl
      where
        go : (o : Option ℕ) → slice_get s j ≡ o → reading.word (drop i w) (drop j s) ≡ reading.stop 600 (drop j s)
        go None e = rw (drop_here w i h, left_none s j e)
        go (Some b) e =
            let other : b ≡ get_or w i 0 → ⊥ = λ f. n (e ∙ ap (λ x. Some x) f) in
            rw (drop_here w i h, left_byte s j b e, ne_eqb _ _ other, reading.word)

    pub word_more : slice_get s j ≡ Some (get_or w i 0) → reading.word (drop i w) (drop j s) ≡ reading.word (drop (i + 1) w) (drop (j + 1) s)
    unfolding reading.word
    word_more e = rw (drop_here w i h, left_byte s j _ e, eq-eqb (get_or w i 0) (get_or w i 0) refl, reading.word)
