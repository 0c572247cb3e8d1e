-- A part of a list that is lent: how long it is, that the code's count for it is its length, and a list of which two parts were lent. Assumes nothing.
use mathlib.Core.Path.{◌≡◌, ap}
use mathlib.Core.List.{List, ◌++◌}
use Prim.Native.Nat.{ℕ, ◌+◌, ◌-◌, ◌≤◌}
use native.Mathlib.Nat.{sub-zero}
use native.Mathlib.Omega.{arith}
use lib.ListN.{length, take, drop, length-drop}
use lib.Seq.{length-take-le, take_at, drop_at}

module _ {A : Type 0} (at k : ℕ) (xs : List A) where
  pub part_size : take (at + k - at) (drop at xs) ≡ take k (drop at xs)
  part_size = ap (λ (n : ℕ). take n (drop at xs)) count
    where
      count : at + k - at ≡ k
      count = omega arith

  pub part_length : at + k ≤ length xs → length (take k (drop at xs)) ≡ k
  part_length h = length-take-le k (drop at xs) (simp length-drop (omega arith))

-- a part from the start
pub start_length : {A : Type 0} (k : ℕ) (xs : List A) → k ≤ length xs → length (take (k - 0) xs) ≡ k
start_length k xs h = rw sub-zero (length-take-le k xs h)

-- the first m cells and then the next m come back
pub both_halves : {A : Type 0} (m : ℕ) (xs first last : List A) → length first ≡ m
    → take m (first ++ drop (m - 0) xs) ++ (last ++ drop (m + m - m) (drop m (first ++ drop (m - 0) xs))) ≡ first ++ (last ++ drop m (drop m xs))
both_halves m xs first last e =
    let size : m + m - m ≡ m = omega arith in
    rw (size, sub-zero, take_at first (drop m xs) m e, drop_at first (drop m xs) m e)
