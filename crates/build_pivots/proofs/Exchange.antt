-- Two cells of a list exchanged, and with them two rows of a matrix cell by cell. Assumes nothing.
use mathlib.Core.Path.{◌≡◌, sym, ◌∙◌}
use mathlib.Core.Bool.{cond}
use mathlib.Core.List.{List}
use Prim.Native.Nat.{ℕ, ◌+◌, ◌*◌, ◌<◌}
use native.Mathlib.Omega.{arith}
use borrow.Author.Tests.{lt-ltb, le-ltb}
use lib.Dec.{eqb, ltb}
use lib.ListN.{length, get_or}
use lib.Seq.{ext_get_or}
use lib.Ieee.{Float}
use Rattle.std.specs.List.{SwappedAt}
use Rattle.std.proofs.lemmas.Bool.Decides.{nat_tests}
use Rattle.rules.specs.Floats.{+0}
use Rattle.law_lists.specs.Lists.{listed}
use Rattle.rules.specs.Solve.{entry, matrix, exchange}
use Rattle.law_lists.proofs.Lists.{length-listed}
use Rattle.law_lists.proofs.Filling.{listed_at}
use Rattle.rules.proofs.Matrices.{matrix_of, matrix_at, matrix_ext}
use Rattle.law_lists.proofs.Places.{place_same}

pub exchange_below : (k p n i : ℕ) → k < n → p < n → i < n → exchange k p i < n
unfolding exchange
exchange_below k p n i h l b = grind (arith, nat_tests)

-- two cells swapped: each place has what the exchange says
module _ {A : Type 0} (d : A) (k p : ℕ) (xs ys : List A) (e : length ys ≡ length xs) (s : SwappedAt xs ys k p) where
  swapped_at : (i : ℕ) → get_or ys i d ≡ get_or xs (exchange k p i) d
  unfolding exchange
  swapped_at i = grind (arith, nat_tests, s.0 d, s.1 d, s.2 i d)

  pub swapped_listed : ys ≡ listed (length xs) (λ i. get_or xs (exchange k p i) d)
  swapped_listed =
      ext_get_or d ys _ (e ∙ sym (length-listed (length xs) _)) (λ i b. swapped_at i ∙ sym (listed_at d (length xs) _ i (rw e at b)))

-- the rows k and p of a matrix exchanged in the columns below j
abbrev pub exchanged_to : ℕ → List Float → ℕ → ℕ → ℕ → ℕ → ℕ → Float
exchanged_to m a₀ k p j i c = entry m a₀ (cond (ltb c j) (exchange k p i) i) c

module _ (m : ℕ) (a₀ : List Float) (k p : ℕ) where
  pub exchange_none : length a₀ ≡ m * m → a₀ ≡ matrix m m (exchanged_to m a₀ k p 0)
  exchange_none e = sym (matrix_of m m a₀ e) ∙ matrix_ext m m _ _ (λ i c h l. rw (le-ltb c 0 (omega arith)))

  pub exchange_all : matrix m m (exchanged_to m a₀ k p m) ≡ matrix m m (λ i c. entry m a₀ (exchange k p i) c)
  exchange_all = matrix_ext m m _ _ (λ i c h l. rw (lt-ltb c m l))

  -- the row whose cell comes to stand at row i and column c, where column j is exchanged
  came : ℕ → ℕ → ℕ → ℕ
  came j i c = cond (eqb c j) (exchange k p i) i

  exchange_places : (j i c : ℕ) → c < m → j < m → exchange (k * m + j) (p * m + j) (i * m + c) ≡ came j i c * m + c
  unfolding exchange came
  exchange_places j i c l b =
      grind (arith, nat_tests, place_same {m = m} {i = i} {c = c} {k = k} {j = j} l b, place_same {m = m} {i = i} {c = c} {k = p} {j = j} l b)

  came_below : (j i c : ℕ) → k < m → p < m → i < m → came j i c < m
  unfolding came
  came_below j i c h l b = grind (arith, nat_tests, exchange_below k p m i h l b)

  came_next : (j i c : ℕ) → exchanged_to m a₀ k p j (came j i c) c ≡ exchanged_to m a₀ k p (j + 1) i c
  unfolding came
  came_next j i c = grind (arith, nat_tests)

  pub exchange_step : (j : ℕ) (a next : List Float) → j < m → k < m → p < m → length a ≡ m * m → a ≡ matrix m m (exchanged_to m a₀ k p j)
      → length next ≡ length a → SwappedAt a next (k * m + j) (p * m + j) → next ≡ matrix m m (exchanged_to m a₀ k p (j + 1))
  exchange_step j a next b h l n e q s =
      sym (matrix_of m m next (q ∙ n))
      ∙ matrix_ext m m (entry m next) _
      (λ i c v w.
      swapped_at +0 (k * m + j) (p * m + j) a next q s (i * m + c)
      ∙ rw (exchange_places j i c w b, e) (matrix_at m m (exchanged_to m a₀ k p j) (came j i c) c (came_below j i c h l v) w)
      ∙ came_next j i c)
