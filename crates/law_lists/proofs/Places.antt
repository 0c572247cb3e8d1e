-- Places of a list that is made of parts of k cells each: where a cell stands, and where the next part starts. Assumes nothing.
use mathlib.Core.Path.{◌≡◌, sym, ap, ◌∙◌}
use Prim.Native.Nat.{ℕ, ◌+◌, ◌*◌, ◌<◌}
use native.Mathlib.Nat.{suc-mul}
use native.Mathlib.Numerals.{add-one}
use native.Mathlib.Omega.{arith}
use Rattle.law_lists.proofs.Lists.{part_inside}
use Rattle.law_lists.proofs.Filling.{flat, flat_at}

-- of n parts, the j-th cell of the i-th is inside
pub cell_inside : (k : ℕ) {i j n : ℕ} → i < n → j < k → i * k + j < n * k
cell_inside k h l = omega (arith, part_inside k h)

-- the next part starts k cells on
pub next_part : (k i : ℕ) → (i + 1) * k ≡ i * k + k
next_part k i = rw (add-one, suc-mul)

-- an entry has one place
pub place_same : {m i c k j : ℕ} → c < m → j < m → i * m + c ≡ k * m + j → (i ≡ k) × (c ≡ j)
place_same {m} {i} {c} {k} {j} h l e = (
  sym (flat_at m (λ x y. x) i c h) ∙ ap (flat m (λ x y. x)) e ∙ flat_at m (λ x y. x) k j l,
  sym (flat_at m (λ x y. y) i c h) ∙ ap (flat m (λ x y. y)) e ∙ flat_at m (λ x y. y) k j l,
)
