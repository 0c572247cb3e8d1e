-- A segment's cells, written in three pieces, are the segment's coefficients. Assumes nothing.
use mathlib.Core.Path.{◌≡◌}
use mathlib.Core.List.{List, [], ◌∷◌, ◌++◌, append-nil}
use Prim.Native.Nat.{ℕ, ◌+◌, ◌-◌, ◌*◌, ◌≤◌}
use native.Mathlib.Omega.{arith}
use lib.ListN.{length, take, drop, set, length-append, drop_of_length-le}
use lib.Seq.{take_at, drop_at}
use lib.Ieee.{Float}

-- k cells from a on replaced, as a part that is lent comes back
abbrev pub put : ℕ → ℕ → List Float → List Float → List Float
put a k xs ys = take a xs ++ (ys ++ drop k (drop a xs))

pub assembled : (m : ℕ) (y : Float) (out left upper : List Float) → length out ≡ 2 * m + 2 → length left ≡ m
    → (let started = put 1 (m + 1 - 1) (set out 0 y) left in
    put (m + 1) (length started - (m + 1)) started upper ≡ y ∷ (left ++ upper))
assembled m y [] left upper e l = absurd (omega arith)
assembled m y (x ∷ out) left upper e l =
    let rest : List Float = drop (m + 1 - 1) out in
    let size : length (y ∷ left) ≡ m + 1 = omega arith in
    let full : length rest ≤ length (y ∷ (left ++ rest)) - (m + 1) = omega (arith, length-append left rest) in
    rw (take_at (y ∷ left) rest (m + 1) size, drop_at (y ∷ left) rest (m + 1) size, drop_of_length-le rest full, append-nil)
