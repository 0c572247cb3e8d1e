-- No pivot of an inner node is zero, and the nodes' matrices repeat: both by the orbit of the factored matrices. Assumes nothing.
use mathlib.Core.Path.{◌≡◌, refl, sym, ◌∙◌, subst}
use mathlib.Core.Bool.{Bool, true, false, not, ◌&&◌}
use Prim.Native.Nat.{ℕ, ◌≤◌, ◌<◌}
use lib.Dec.{T}
use lib.Ieee.{eq, le}
use lib.Ieee.Bits.{is_true}
use lib.Ieee.Fits.{and_l, and_r}
use Rattle.rules.specs.Floats.{+0, finite, magnitude}
use Rattle.rules.specs.Solve.{Factored}
use Rattle.law_lists.proofs.Lists.{every_at}
use Rattle.theorem_pivots.specs.Pivots.{pivot, least, PivotsAreNeverZero}
use Rattle.theorem_pivots.specs.Repeating.{settled, NodesRepeat}
use Rattle.theorem_pivots.proofs.Orbits.{repeats, always}
use Rattle.theorem_pivots.proofs.Cycles.{node_is, fine, all_fine, cycle}

not_false : (b : Bool) → T (not b) → b ≡ false
not_false true t = absurd t
not_false false t = refl

module _ (m : ℕ) (h : 1 ≤ m) (l : m ≤ 3) where
  pub fine_pivot : (i k : ℕ) → k < m → T (fine (pivot m i k))
  unfolding all_fine
  fine_pivot i = every_at m _ (subst (λ (f : Factored). T (all_fine m f)) (sym (node_is m i)) (always (cycle m h l) i))

pub pivots_are_never_zero : PivotsAreNeverZero
unfolding PivotsAreNeverZero fine
pivots_are_never_zero m i k h l b =
    let p = pivot m i k in
    let t : T (fine p) = fine_pivot m h l i k b in
    let first = and_l (not (eq p +0) && finite p) (le least (magnitude p)) t in (
      not_false (eq p +0) (and_l (not (eq p +0)) (finite p) first),
      is_true (finite p) (and_r (not (eq p +0)) (finite p) first),
      is_true (le least (magnitude p)) (and_r (not (eq p +0) && finite p) (le least (magnitude p)) t),
    )

pub nodes_repeat : NodesRepeat
unfolding NodesRepeat settled
nodes_repeat m i h l = node_is m i ∙ repeats (cycle m h l) i ∙ sym (node_is m (settled m i))
