-- The homogeneous equations, those of a master whose waypoints and states are all zero, have no solution but zero: `only_zero`. The energies of the segments
-- telescope to zero, so each is zero, and then each segment is zero in turn, from the first on. Assumes nothing.
use mathlib.Core.Path.{◌≡◌, sym, ap, ◌∙◌}
use mathlib.Core.Logic.{◌⊎◌, inl, inr}
use Prim.Native.Nat.{ℕ, zero, suc, ◌+◌, ◌*◌, ◌<◌, ◌≤◌}
use native.Mathlib.Nat.{not-suc-le-zero}
use native.Mathlib.Decide.{dec_lt}
use native.Mathlib.Omega.{arith}
use lib.IntN.{ℤ, pos, nat_abs, ◌+ℤ◌, ◌*ℤ◌, *ℤ-zero}
use Rattle.rules.specs.Master.{binomial}
use Rattle.law_lists.proofs.Lists.{below_suc}
use Rattle.theorem_exact.proofs.Sums.{sum_same, sum_zero}
use Rattle.master_unique.proofs.Energy.{end_of, W, W_zero, W_same, Energy, segment_energy, energy_by_parts, upper_zero}

-- the equations of the segments 0 to last, where d i k is coefficient k of segment i
pub record Homogeneous (m last : ℕ) (d : ℕ → ℕ → ℤ) : Type 0 where
  pub left : (i : ℕ) → i ≤ last → d i 0 ≡ pos 0
  pub right : (i : ℕ) → i ≤ last → end_of m (d i) 0 ≡ pos 0
  pub start : (r : ℕ) → r < m → d 0 (suc r) ≡ pos 0
  pub end : (r : ℕ) → r < m → end_of m (d last) (suc r) ≡ pos 0
  pub joint : (i : ℕ) → i < last → (r : ℕ) → r < 2 * m → end_of m (d i) (suc r) ≡ d (suc i) (suc r)

-- e 0 + e 1 + .. + e (n − 1)
total : (ℕ → ℕ) → ℕ → ℕ
total e zero = 0
total e (suc n) = total e n + e n

total_zero : (e : ℕ → ℕ) (n : ℕ) → total e n ≡ 0 → (i : ℕ) → i < n → e i ≡ 0
unfolding total
total_zero e zero t i h = absurd (not-suc-le-zero h)
total_zero e (suc n) t i h = go (below_suc h) (total_zero e n (omega arith) i)
  where
    go : (i ≡ n) ⊎ (i < n) → (i < n → e i ≡ 0) → e i ≡ 0
    go (inl q) r = ap e q ∙ omega arith
    go (inr l) r = r l

-- a segment that is zero ends at zero
end_of_zero : (m : ℕ) (x : ℕ → ℤ) → ((k : ℕ) → k < 2 * m + 2 → x k ≡ pos 0) → (r : ℕ) → end_of m x r ≡ pos 0
unfolding end_of
end_of_zero m x z r =
    sum_same (2 * m + 2) _ _ (λ k l. ap (λ (y : ℤ). pos (binomial k r) *ℤ y) (z k l) ∙ *ℤ-zero (pos (binomial k r))) ∙ sum_zero (2 * m + 2)

module _ {m last : ℕ} {d : ℕ → ℕ → ℤ} (e : Energy m) (h : Homogeneous m last d) where
  abbrev energies : ℕ → ℕ
  energies i = segment_energy e (d i)

  -- the coefficients 0 to m of the first segment, and those of the last one about its end
  starts : (k : ℕ) → k < suc m → d 0 k ≡ pos 0
  starts zero l = h.left 0 (omega arith)
  starts (suc r) l = h.start r (omega arith)

  ends : (k : ℕ) → k < suc m → end_of m (d last) k ≡ pos 0
  ends zero l = h.right last (omega arith)
  ends (suc r) l = h.end r (omega arith)

  -- W starts from zero, grows over each segment by the segment's energy, and is the same on either side of a joint
  telescoped : (i : ℕ) → i ≤ last → W m (d i) ≡ pos (total energies i)
  unfolding total
  telescoped zero l = W_zero m (d 0) starts
  telescoped (suc i) l =
      sym (W_same m (end_of m (d i)) (d (suc i)) (h.right i (omega arith)) (h.left (suc i) l) (h.joint i l))
      ∙ energy_by_parts e (d i)
      ∙ ap (λ (z : ℤ). z +ℤ pos (energies i)) (telescoped i (omega arith))

  -- and W ends at zero, so there was no energy
  no_energy : (i : ℕ) → i < suc last → energies i ≡ 0
  unfolding total
  no_energy =
      total_zero energies (suc last)
      (ap nat_abs
      (sym (energy_by_parts e (d last) ∙ ap (λ (z : ℤ). z +ℤ pos (energies last)) (telescoped last (omega arith))) ∙ W_zero m (end_of m (d last)) ends))

  -- with no energy a segment is zero if its coefficients 0 to m are, which the segment before it decides
  by_lower : (i : ℕ) → i ≤ last → ((k : ℕ) → k < suc m → d i k ≡ pos 0) → (k : ℕ) → k < 2 * m + 2 → d i k ≡ pos 0
  by_lower i l z k g = go (dec_lt k (suc m))
    where
      go : Dec (k < suc m) → d i k ≡ pos 0
      go (yes below) = z k below
      go (no above) = upper_zero e (d i) (no_energy i (omega arith)) k (omega arith) g

  lower_zero : (i : ℕ) → i ≤ last → (k : ℕ) → k < suc m → d i k ≡ pos 0
  lower_zero zero l k g = starts k g
  lower_zero (suc i) l zero g = h.left (suc i) l
  lower_zero (suc i) l (suc r) g = sym (h.joint i l r (omega arith)) ∙ end_of_zero m (d i) (by_lower i (omega arith) (lower_zero i (omega arith))) (suc r)

  pub only_zero : (i : ℕ) → i ≤ last → (k : ℕ) → k < 2 * m + 2 → d i k ≡ pos 0
  only_zero i l = by_lower i l (lower_zero i l)
