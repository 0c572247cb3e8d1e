-- Matrices as the definitions have them, row by row: their length, their entries, and their cells place by place. Assumes nothing.
use mathlib.Core.Path.{◌≡◌, sym, ap, ◌∙◌, subst}
use mathlib.Core.List.{List}
use mathlib.Core.Logic.{◌⊎◌, inl, inr}
use Prim.Native.Nat.{ℕ, ◌*◌, ◌/◌, ◌%◌, ◌<◌}
use native.Mathlib.Nat.{mul-zero, div-lt_iff_lt-mul, div-add-mod', mod-lt, eq-zero-or-pos, not-suc-le-zero}
use lib.ListN.{length}
use lib.Seq.{ext_get_or}
use lib.Ieee.{Float}
use Rattle.law_lists.specs.Lists.{listed}
use Rattle.law_lists.proofs.Lists.{length-listed, length-joined}
use Rattle.law_lists.proofs.Filling.{listed_at, listed_ext, listed_of, joined_at, joined_ext, flat}
use Rattle.rules.specs.Floats.{◌!◌, +0}
use Rattle.rules.specs.Solve.{matrix, entry}

module _ (m n : ℕ) where
  pub length-matrix : (g : ℕ → ℕ → Float) → length (matrix m n g) ≡ m * n
  unfolding matrix
  length-matrix g = length-joined m n (λ i. listed n (g i)) (λ i h. length-listed n (g i))

  pub matrix_at : (g : ℕ → ℕ → Float) (i j : ℕ) → i < m → j < n → entry n (matrix m n g) i j ≡ g i j
  unfolding matrix
  matrix_at g i j h l = joined_at +0 m n (λ i'. listed n (g i')) (λ i' h'. length-listed n (g i')) i j h l ∙ listed_at +0 n (g i) j l

  pub matrix_ext : (f g : ℕ → ℕ → Float) → ((i j : ℕ) → i < m → j < n → f i j ≡ g i j) → matrix m n f ≡ matrix m n g
  unfolding matrix
  matrix_ext f g h = joined_ext m _ _ (λ i l. listed_ext n (f i) (g i) (λ j b. h i j l b))

  -- place by place
  pub matrix_flat : (g : ℕ → ℕ → Float) → matrix m n g ≡ listed (m * n) (flat n g)
  matrix_flat g =
      ext_get_or +0 (matrix m n g) (listed (m * n) (flat n g)) (length-matrix g ∙ sym (length-listed (m * n) _))
      (λ q h. let l : q < m * n = rw length-matrix at h in cell q l (eq-zero-or-pos n) ∙ sym (listed_at +0 (m * n) (flat n g) q l))
    where
      cell : (q : ℕ) → q < m * n → (n ≡ 0) ⊎ (0 < n) → matrix m n g ! q ≡ flat n g q
      cell q h (inl e) = absurd (not-suc-le-zero (subst (λ (k : ℕ). q < k) (ap (λ (k : ℕ). m * k) e ∙ mul-zero m) h))
      cell q h (inr p) =
          subst (λ (k : ℕ). matrix m n g ! k ≡ flat n g q) (div-add-mod' q n)
          (matrix_at g (q / n) (q % n) ((div-lt_iff_lt-mul p).1 h) (mod-lt q p))

  -- a matrix is made of its entries
  pub matrix_of : (a : List Float) → length a ≡ m * n → matrix m n (entry n a) ≡ a
  matrix_of a e =
      matrix_flat (entry n a)
      ∙ listed_ext (m * n) _ (λ (q : ℕ). a ! q) (λ q h. ap (λ (k : ℕ). a ! k) (div-add-mod' q n))
      ∙ listed_of +0 (m * n) a e
