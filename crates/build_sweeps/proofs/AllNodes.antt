-- The factored matrices of all inner nodes, as factoring leaves those that differ: the others repeat them. Assumes nothing.
use mathlib.Core.Path.{◌≡◌, sym, ap, ◌∙◌}
use mathlib.Core.List.{List, ◌++◌}
use Prim.Native.Nat.{ℕ, ◌+◌, ◌-◌, ◌*◌, ◌<◌, ◌≤◌}
use native.Mathlib.Nat.{le_trans}
use lib.ListN.{length, take, drop}
use lib.Ieee.{Float}
use Rattle.rules.specs.Tables.{B, C}
use Rattle.rules.specs.Solve.{Factored, solve_matrix, node_matrix, node_factors, solved_c_of}
use Rattle.law_lists.proofs.Lists.{part_inside}
use Rattle.theorem_pivots.specs.Repeating.{settled, distinct, NodesRepeat}
use Rattle.theorem_pivots.proofs.Pivots.{nodes_repeat}
use Rattle.theorem_pivots.proofs.Settled.{settled_below}
use Rattle.build_products.specs.Columns.{transposed, Below}
use Rattle.build_factoring.proofs.Factors.{length_rows, rows_below}
use Rattle.law_lists.proofs.Lent.{part_size, part_length}
use Rattle.build_nodes.specs.NodeLists.{Room, node_entries, node_rows, node_solved}
use Rattle.law_lists.proofs.PartedList.{Parted, kept, part_at}
use Rattle.build_nodes.proofs.Nodes.{length_entries, length-node_rows, length_solved}
use Rattle.build_sweeps.specs.Nodes.{NodeFactors, NodeSolved}

-- a node among n: k is the place that the code finds for it
module _ {m n i k : ℕ} (l : i < n) (e : k ≡ settled m i) where
  module _ {entries : List Float} {rows : List ℕ} (h : NodeFactors m n entries rows) where
    pub entries_inside : k * (m * m) + m * m ≤ length entries
    entries_inside = rw e (le_trans (part_inside (m * m) (settled_below m n i l)) h.entries_length)

    pub rows_inside : k * m + m ≤ length rows
    rows_inside = rw e (le_trans (part_inside m (settled_below m n i l)) h.rows_length)

    pub entries_part : take (k * (m * m) + m * m - k * (m * m)) (drop (k * (m * m)) entries) ≡ (node_factors m i).entries
    entries_part = part_size (k * (m * m)) (m * m) entries ∙ rw e (h.entries_at i l)

    pub rows_part : take (k * m + m - k * m) (drop (k * m) rows) ≡ (node_factors m i).rows
    rows_part = part_size (k * m) m rows ∙ rw e (h.rows_at i l)

  -- solved C
  module _ {solved : List Float} (h : NodeSolved m n solved) where
    pub solved_inside : k * (m * m) + m * m ≤ length solved
    solved_inside = rw e (le_trans (part_inside (m * m) (settled_below m n i l)) h.solved_length)

    pub solved_part : take (k * (m * m) + m * m - k * (m * m)) (drop (k * (m * m)) solved) ≡ transposed m (solved_c_of m i)
    solved_part = part_size (k * (m * m)) (m * m) solved ∙ rw e (h.solved_at i l)

-- how long a part is that is lent
pub lent_length : {A : Type 0} (at k : ℕ) (xs : List A) → at + k ≤ length xs → length (take (at + k - at) (drop at xs)) ≡ k
lent_length at k xs h = rw part_size (part_length at k xs h)

-- a node's factored matrix, as solving wants it
module _ (m i : ℕ) where
  pub node_below : Below m (node_factors m i).rows
  unfolding node_factors
  node_below j l = rows_below m (node_matrix m i) j (rw (length_rows m (node_matrix m i)) at l)

-- ---- all nodes, as factoring leaves them: behind the lists' first cells the lists are as they were

pub room_for : {m k l : ℕ} {entries : List Float} {rows : List ℕ} {solved : List Float} → k ≡ l → Room m l entries rows solved → Room m k entries rows solved
room_for e h = rw e h

module _ {m : ℕ} (some : 1 ≤ m) (few : m ≤ 3) where
  repeated : (i : ℕ) → node_factors m (settled m i) ≡ node_factors m i
  unfolding NodesRepeat
  repeated i = sym (nodes_repeat m i some few)

  -- k nodes are factored, which are those that differ among n
  module _ {n k : ℕ} (e : k ≡ distinct m n) {entries : List Float} {rows : List ℕ} {solved : List Float} (room : Room m k entries rows solved)
      (size : length (B m) ≡ m * m) where
    below : (i : ℕ) → i < n → settled m i < k
    below i l = rw e (settled_below m n i l)

    pub node_factors_lem : {entries' : List Float} {rows' : List ℕ} → entries' ≡ node_entries m k ++ drop (k * (m * m)) entries
        → rows' ≡ node_rows m k ++ drop (k * m) rows → NodeFactors m n entries' rows'
    unfolding node_entries node_rows
    node_factors_lem {entries'} {rows'} x y =
        let E : Parted (m * m) k (λ i. (node_factors m i).entries) entries entries' =
        record { sized = length_entries m size; inside = room.for_entries; is = x } in
        let R : Parted m k (λ i. (node_factors m i).rows) rows rows' = record { sized = length-node_rows m; inside = room.for_rows; is = y } in
        record {
          entries_at = λ i l. part_at E (settled m i) (below i l) ∙ ap (λ (f : Factored). f.entries) (repeated i);
          entries_length = rw (kept E, ← e) room.for_entries;
          rows_at = λ i l. part_at R (settled m i) (below i l) ∙ ap (λ (f : Factored). f.rows) (repeated i);
          rows_length = rw (kept R, ← e) room.for_rows;
        }

    pub node_solved_lem : {solved' : List Float} → solved' ≡ node_solved m k ++ drop (k * (m * m)) solved → NodeSolved m n solved'
    unfolding node_solved solved_c_of
    node_solved_lem {solved'} x =
        let S : Parted (m * m) k (λ i. transposed m (solved_c_of m i)) solved solved' =
        record { sized = length_solved m; inside = room.for_solved; is = x } in
        record {
          solved_at = λ i l. part_at S (settled m i) (below i l) ∙ ap (λ (f : Factored). transposed m (solve_matrix m f (C m))) (repeated i);
          solved_length = rw (kept S, ← e) room.for_solved;
        }
