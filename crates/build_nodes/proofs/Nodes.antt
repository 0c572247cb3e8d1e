-- The matrices of the inner nodes, from the tables and the nodes before, which are kept by columns; and their lengths. Assumes nothing.
use mathlib.Core.Path.{◌≡◌, refl, sym, ap, ◌∙◌, subst}
use mathlib.Core.List.{List, []}
use Prim.Native.Nat.{ℕ, zero, suc, ◌+◌, ◌*◌, ◌-◌, ◌<◌, ◌≤◌}
use native.Mathlib.Omega.{arith}
use lib.ListN.{length, get_or, take, drop}
use lib.Ieee.{Float}
use Rattle.rules.specs.Floats.{◌⊖◌, ◌⊗◌, ◌!◌, sum_of}
use Rattle.rules.specs.Tables.{A, B, C}
use Rattle.rules.specs.Solve.{Factored, entry, matrix, column, factor, solve, solve_matrix, node_matrix, node_factors, solved_c_of}
use Rattle.law_lists.proofs.Filling.{listed_ext, parts_at}
use Rattle.rules.proofs.Matrices.{matrix_ext, length-matrix}
use Rattle.build_products.specs.Columns.{transposed, HoldsA, HoldsB}
use Rattle.build_nodes.specs.NodeLists.{node_solved}
use Rattle.build_nodes.specs.Steps.{next_entry, SolvedTo}
use Rattle.build_factoring.proofs.Factors.{length-factor, length_rows}
use Rattle.law_lists.proofs.Lent.{part_size, part_length}
use Rattle.law_lists.proofs.PartedList.{Parted}
use Rattle.build_products.proofs.Sums.{sum_of_ext}
use Rattle.build_products.proofs.Transposed.{transposed_at, length-transposed}

-- a part of k cells, as the code lends it
pub lent_length : {A : Type 0} (at k : ℕ) (xs : List A) → at + k ≤ length xs → length (take (at + k - at) (drop at xs)) ≡ k
lent_length at k xs h = ap length (part_size at k xs) ∙ part_length at k xs h

module _ (m : ℕ) where
  -- by columns and by rows again
  twice : (a : List Float) (i j : ℕ) → i < m → j < m → entry m (transposed m (transposed m a)) i j ≡ entry m a i j
  twice a i j h l = transposed_at m (transposed m a) i j h l ∙ transposed_at m a j i l h

  solve_twice : (f : Factored) (c : List Float) → solve_matrix m f (transposed m (transposed m c)) ≡ solve_matrix m f c
  unfolding solve_matrix column
  solve_twice f c =
      ap (λ (columns : List (List Float)). matrix m m (λ i j. get_or columns j [] ! i))
      (listed_ext m _ _ (λ j h. ap (solve m f) (listed_ext m _ _ (λ i l. twice c i j l h))))

  pub first_matrix : node_matrix m 0 ≡ B m
  unfolding node_matrix
  first_matrix = refl

  -- an entry of b − a·(previous solved C), of any lists; of A and B it is `next_entry`
  abbrev entry_after : List Float → List Float → List Float → ℕ → ℕ → Float
  entry_after a b previous r c = entry m b r c ⊖ sum_of m (λ k. entry m a r k ⊗ entry m previous k c)

  -- of a list that has A's entries
  next_matrix : (a : List Float) → ((r k : ℕ) → r < m → k < m → entry m a r k ≡ entry m (A m) r k) → (i : ℕ)
      → matrix m m (entry_after a (B m) (transposed m (transposed m (solved_c_of m i)))) ≡ node_matrix m (suc i)
  unfolding node_matrix solved_c_of node_factors
  next_matrix a e i =
      matrix_ext m m _ _
      (λ r c h l. ap (λ (x : Float). entry m (B m) r c ⊖ x) (sum_of_ext m _ _ (λ k b. rw (e r k h b, twice (solved_c_of m i) k c b l))))

  length-node : length (B m) ≡ m * m → (i : ℕ) → length (node_matrix m i) ≡ m * m
  unfolding node_matrix
  length-node e zero = e
  length-node e (suc i) = length-matrix m m _

  pub length_entries : length (B m) ≡ m * m → (i : ℕ) → length (node_factors m i).entries ≡ m * m
  unfolding node_factors
  length_entries e i = length-factor m (node_matrix m i) (length-node e i)

  pub length-node_rows : (i : ℕ) → length (node_factors m i).rows ≡ m
  unfolding node_factors
  length-node_rows i = length_rows m (node_matrix m i)

  pub length_solved : (i : ℕ) → length (transposed m (solved_c_of m i)) ≡ m * m
  length_solved i = length-transposed m (solved_c_of m i)

  -- the last of the parts so far
  solved_part : (i : ℕ) (solved : List Float) → SolvedTo m (suc i) solved → take (m * m) (drop (i * (m * m)) solved) ≡ transposed m (solved_c_of m i)
  unfolding node_solved
  solved_part i solved h =
      ap (λ (xs : List Float). take (m * m) (drop (i * (m * m)) xs)) h.1
      ∙ parts_at (m * m) (λ j. transposed m (solved_c_of m j)) (suc i) solved i (λ j l. length_solved j) (omega arith)

  -- a node past the first, from the part of the node before: of any lists that hold A and B
  pub node_after : (i j : ℕ) (a b solved : List Float) → suc j ≡ i → HoldsA m a → HoldsB m b → SolvedTo m i solved
      → let at = j * (m * m) in
      matrix m m (entry_after (transposed m a) b (transposed m (take (at + m * m - at) (drop at solved)))) ≡ node_matrix m i
  node_after i j a b solved e s t h =
      let size : j * (m * m) + m * m - j * (m * m) ≡ m * m = omega arith in
      rw (size, solved_part j solved (subst (λ (k : ℕ). SolvedTo m k solved) (sym e) h), s.is, t.is)
      (next_matrix (transposed m (transposed m (A m))) (twice (A m)) j)
      ∙ ap (node_matrix m) e

  -- and of A and B themselves
  pub node_after_of_m : (i j : ℕ) (solved : List Float) → suc j ≡ i → SolvedTo m i solved
      → let at = j * (m * m) in matrix m m (next_entry m (transposed m (take (at + m * m - at) (drop at solved)))) ≡ node_matrix m i
  node_after_of_m i j solved e h =
      let size : j * (m * m) + m * m - j * (m * m) ≡ m * m = omega arith in
      rw (size, solved_part j solved (subst (λ (k : ℕ). SolvedTo m k solved) (sym e) h)) (next_matrix (A m) (λ r k b l. refl) j)
      ∙ ap (node_matrix m) e

  -- what solving with a node's factors gives
  pub solved_node : (i : ℕ) (a c entries : List Float) (rows : List ℕ) {out : List Float} → a ≡ node_matrix m i
      → entries ≡ (factor m a).entries → rows ≡ (factor m a).rows → c ≡ transposed m (C m)
      → out ≡ transposed m (solve_matrix m (record { entries = entries; rows = rows }) (transposed m c))
      → out ≡ transposed m (solved_c_of m i)
  unfolding solved_c_of node_factors
  solved_node i a c entries rows n e r t o = rw (o, t, e, r, n) (ap (transposed m) (solve_twice (factor m (node_matrix m i)) (C m)))

  -- solved C of the nodes so far, as parts
  pub solved_parts : {i : ℕ} {solved : List Float} → SolvedTo m i solved → Parted (m * m) i (λ j. transposed m (solved_c_of m j)) solved solved
  unfolding node_solved
  solved_parts h = record { sized = length_solved; inside = h.0; is = h.1 }
