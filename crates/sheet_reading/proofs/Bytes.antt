-- What is left of a text by the byte at its start, if there is one. Assumes nothing.
use mathlib.Core.Path.{◌≡◌, ◌∙◌, ap}
use mathlib.Core.List.{List, [], ◌∷◌}
use Prim.Native.Nat.{ℕ, ◌+◌, ◌<◌, ◌≤◌}
use lib.ListN.{length, drop, drop_of_length-le}
use Rattle.std.proofs.lemmas.List.{drop_more}
use Rattle.std.proofs.Common.{None, Some, inl, inr}
use Rattle.std.specs.List.{slice_get}
use Rattle.std.proofs.lemmas.Option.{slice_get_cases, slice_get_within, get_or_from_slice_get}

module _ (s : List ℕ) (i : ℕ) where
  pub none_here : slice_get s i ≡ None → length s ≤ i
  none_here e = elim (slice_get_cases s i).1 [ inl (x, h, f, g) ↦ cc | inr (h, f) ↦ h ]

  pub left_none : slice_get s i ≡ None → drop i s ≡ []
  left_none e = drop_of_length-le s (none_here e)

  module _ (b : ℕ) (e : slice_get s i ≡ Some b) where
    pub byte_here : i < length s
    byte_here = slice_get_within s i b e

    pub left_byte : drop i s ≡ b ∷ drop (i + 1) s
    left_byte = drop_more s i 0 byte_here ∙ ap (λ x. x ∷ drop (i + 1) s) (get_or_from_slice_get s i b 0 e)
