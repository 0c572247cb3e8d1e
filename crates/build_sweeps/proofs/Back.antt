-- The list that the back sweep works over in place: from node b on it has the nodes' numbers, and below b the solved right sides. The laws are
-- its start, a step and its end, with what they lean on: a part of a list of parts can be replaced. Assumes nothing.
use mathlib.Core.Path.{◌≡◌, sym, ap, ap₂, ◌∙◌}
use mathlib.Core.Bool.{cond}
use mathlib.Core.List.{List, [], ◌++◌, append_assoc, append-nil}
use mathlib.Core.Logic.{◌⊎◌, inl, inr}
use Prim.Native.Nat.{ℕ, zero, suc, ◌+◌, ◌-◌, ◌*◌, ◌<◌, ◌≤◌}
use native.Mathlib.Nat.{not-suc-le-zero}
use native.Mathlib.Numerals.{add-one}
use native.Mathlib.Omega.{arith}
use borrow.Author.Tests.{lt-ltb, le-ltb}
use lib.Dec.{ltb}
use lib.ListN.{length, take, drop, length-drop, drop_of_length-le}
use lib.Seq.{take_at, drop_at, drop-drop}
use Rattle.std.proofs.lemmas.List.{drop-take, take-take}
use lib.Ieee.{Float}
use Rattle.law_lists.specs.Lists.{joined}
use Rattle.rules.specs.Solve.{times, minus, solve_matrix, solved_c_of}
use Rattle.rules.specs.Build.{solved_side, inner_numbers}
use Rattle.law_lists.proofs.Lists.{below_suc, length-joined}
use Rattle.law_lists.proofs.Filling.{lt_or_le, joined_ext, parts_at}
use Rattle.rules.proofs.Matrices.{length-matrix}
use Rattle.rules.proofs.Build.{length-solved_side, length-inner}
use Rattle.build_sides.specs.Node.{part}
use Rattle.build_sweeps.specs.Nodes.{put}

-- the i-th of n parts that are k long each is replaced: g is f elsewhere
pub parts_replace : (n k i : ℕ) (f g : ℕ → List Float) (zs rest : List Float) → ((j : ℕ) → j < n → length (f j) ≡ k)
    → i < n → zs ≡ g i → ((j : ℕ) → j < n → (j < i) ⊎ (i < j) → f j ≡ g j) → put k i zs (joined n f ++ rest) ≡ joined n g ++ rest
unfolding joined
parts_replace zero k i f g zs rest e h z s = absurd (not-suc-le-zero h)
parts_replace (suc n) k i f g zs rest e h z s =
    ap (put k i zs) (append_assoc (joined n f) (f n) rest)
    ∙ go (below_suc h) (parts_replace n k i f g zs (f n ++ rest) (λ j b. e j (omega arith)))
    ∙ sym (append_assoc (joined n g) (g n) rest)
  where
    go : (i ≡ n) ⊎ (i < n)
        → (i < n → zs ≡ g i → ((j : ℕ) → j < n → (j < i) ⊎ (i < j) → f j ≡ g j) → put k i zs (joined n f ++ (f n ++ rest)) ≡ joined n g ++ (f n ++ rest))
        → put k i zs (joined n f ++ (f n ++ rest)) ≡ joined n g ++ (g n ++ rest)
    go (inl q) r =
        let size : i * k + k - i * k ≡ k = omega arith in
        let before : length (joined n f) ≡ i * k = length-joined n k f (λ j l. e j (omega arith)) ∙ ap (λ (p : ℕ). p * k) (sym q) in
        rw (
          size,
          take_at (joined n f) (f n ++ rest) (i * k) before,
          drop_at (joined n f) (f n ++ rest) (i * k) before,
          drop_at (f n) rest k (e n (omega arith)),
        )
        (ap₂ (λ (xs ys : List Float). xs ++ (ys ++ rest)) (joined_ext n f g (λ j l. s j (omega arith) (inl (omega arith)))) (z ∙ ap g q))
    go (inr l) r = r l z (λ j b. s j (omega arith)) ∙ ap (λ (xs : List Float). joined n g ++ (xs ++ rest)) (s n (omega arith) (inr l))

-- a list that is lent in two halves, of which the first ends with the m numbers from `at` on: these come back as ys
module _ (at m : ℕ) (xs : List Float) {own : List Float} (e : own ≡ take (at + m) xs) (long : length own ≡ at + m) where
  pub own_part : take (length own - at) (drop at own) ≡ take m (drop at xs)
  own_part =
      let size : at + m - at ≡ m = omega arith in
      rw (long, size, e, drop-take) (take-take m m (drop at xs) (omega arith))

  pub own_back : (ys : List Float) → (take at own ++ (ys ++ drop (length own - at) (drop at own))) ++ drop (at + m) xs
      ≡ take at xs ++ (ys ++ drop (at + m - at) (drop at xs))
  own_back ys =
      let size : at + m - at ≡ m = omega arith in
      let none : drop m (drop at own) ≡ [] = drop_of_length-le (drop at own) (simp (length-drop, long) (omega arith)) in
      let start : take at own ≡ take at xs = ap (take at) e ∙ take-take at (at + m) xs (omega arith) in
      let rest : drop m (drop at xs) ≡ drop (at + m) xs = drop-drop m at xs in
      rw (long, size, none, start, append-nil, rest, append_assoc)

pub length-solved_c : (m i : ℕ) → length (solved_c_of m i) ≡ m * m
unfolding solved_c_of solve_matrix
length-solved_c m i = length-matrix m m _

-- a list after a step at node p
abbrev pub stepped : ℕ → ℕ → List Float → List Float
stepped m p xs = put m p (minus m (part m xs p) (times m (solved_c_of m p) (part m xs (p + 1)))) xs

module _ (m n : ℕ) (w start end : List Float) where
  -- the parts of the list, swept from node b on
  unfoldable pub swept : ℕ → ℕ → List Float
  swept b j = cond (ltb j b) (solved_side m n w start end j) (inner_numbers m n w start end j (n - suc j))

  swept_below : (b j : ℕ) → j < b → swept b j ≡ solved_side m n w start end j
  unfolding swept
  swept_below b j h = rw (lt-ltb j b h)

  swept_from : (b j : ℕ) → b ≤ j → swept b j ≡ inner_numbers m n w start end j (n - suc j)
  unfolding swept
  swept_from b j h = rw (le-ltb j b h)

  length-swept : (b j : ℕ) → length (swept b j) ≡ m
  length-swept b j = go (lt_or_le j b)
    where
      go : (j < b) ⊎ (b ≤ j) → length (swept b j) ≡ m
      go (inl h) = ap length (swept_below b j h) ∙ length-solved_side m n w start end j
      go (inr h) = ap length (swept_from b j h) ∙ length-inner m n w start end j (n - suc j)

  -- the last node's numbers are its solved right side
  pub swept_start : joined n (solved_side m n w start end) ≡ joined n (swept (n - 1))
  unfolding inner_numbers
  swept_start = joined_ext n _ _ (λ j h. go j h (lt_or_le j (n - 1)))
    where
      go : (j : ℕ) → j < n → (j < n - 1) ⊎ (n - 1 ≤ j) → solved_side m n w start end j ≡ swept (n - 1) j
      go j h (inl l) = sym (swept_below (n - 1) j l)
      go j h (inr l) =
          let last : n - suc j ≡ 0 = omega arith in
          sym (swept_from (n - 1) j l ∙ ap (inner_numbers m n w start end j) last)

  pub swept_end : (b : ℕ) → b ≡ 0 → joined n (swept b) ≡ joined n (λ j. inner_numbers m n w start end j (n - suc j))
  swept_end b e = joined_ext n _ _ (λ j h. swept_from b j (omega arith))

  -- what a step makes of node p
  found : (p : ℕ) → p + 2 ≤ n → minus m (swept (p + 1) p) (times m (solved_c_of m p) (swept (p + 1) (p + 1))) ≡ swept p p
  unfolding inner_numbers
  found p h =
      let more : n - suc p ≡ suc (n - suc (p + 1)) = omega arith in
      ap₂ (λ (x y : List Float). minus m x (times m (solved_c_of m p) y)) (swept_below (p + 1) p (omega arith))
      (swept_from (p + 1) (p + 1) (omega arith) ∙ ap (λ (q : ℕ). inner_numbers m n w start end q (n - suc (p + 1))) (add-one p))
      ∙ sym (swept_from p p (omega arith) ∙ ap (inner_numbers m n w start end p) more)

  pub swept_step : (p : ℕ) (xs : List Float) → p + 2 ≤ n
      → stepped m p (joined n (swept (p + 1)) ++ drop (n * m) xs) ≡ joined n (swept p) ++ drop (n * m) xs
  swept_step p xs h =
      parts_replace n m p (swept (p + 1)) (swept p) _ (drop (n * m) xs) (λ j l. length-swept (p + 1) j) (omega arith)
      (ap₂ (λ (x y : List Float). minus m x (times m (solved_c_of m p) y)) (read p (omega arith)) (read (p + 1) (omega arith)) ∙ found p h)
      same
    where
      read : (j : ℕ) → j < n → part m (joined n (swept (p + 1)) ++ drop (n * m) xs) j ≡ swept (p + 1) j
      read j l = parts_at m (swept (p + 1)) n xs j (λ i b. length-swept (p + 1) i) l

      same : (j : ℕ) → j < n → (j < p) ⊎ (p < j) → swept (p + 1) j ≡ swept p j
      same j l (inl b) = swept_below (p + 1) j (omega arith) ∙ sym (swept_below p j b)
      same j l (inr b) = swept_from (p + 1) j (omega arith) ∙ sym (swept_from p j (omega arith))
