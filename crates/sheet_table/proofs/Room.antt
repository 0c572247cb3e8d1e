-- A build into the first cells of a buffer, as many as it has: the others stay. Assumes nothing.
use mathlib.Core.Path.{◌≡◌, sym, ap, ap₂, ◌∙◌}
use mathlib.Core.Logic.{◌⊎◌, inl, inr}
use mathlib.Core.List.{List, ◌++◌}
use Prim.Native.Nat.{ℕ, ◌≤◌, ◌<◌, min}
use native.Mathlib.Omega.{arith}
use lib.ListN.{length, take, drop, drop_of_length-le}
use lib.Seq.{take_all, length-take-le}
use lib.Ieee.{Float}
use Rattle.law_lists.proofs.Filling.{lt_or_le}
use Rattle.rules.specs.Build.{BuildInput, BuildAnswer, build_answer, buffer_after}
use Rattle.rules.specs.SheetAnswers.{cells_of}

-- a list is parted at k, or at its end where it is shorter
parted : (k : ℕ) (xs : List Float) → (take (min (length xs) k) xs ≡ take k xs) × (drop (min (length xs) k) xs ≡ drop k xs)
parted k xs = go (lt_or_le k (length xs))
  where
    go : (k < length xs) ⊎ (length xs ≤ k) → (take (min (length xs) k) xs ≡ take k xs) × (drop (min (length xs) k) xs ≡ drop k xs)
    go (inl l) = let e : min (length xs) k ≡ k = omega arith in (rw e, rw e)
    go (inr l) =
        let e : min (length xs) k ≡ length xs = omega arith in
        let full : length xs ≤ length xs = omega arith in
        (rw e (take_all (length xs) xs full ∙ sym (take_all k xs l)), rw e (drop_of_length-le xs full ∙ sym (drop_of_length-le xs l)))

-- what a build into the part that is lent answers and leaves
pub built_in : {b c : BuildInput} (before : List Float) {after : List Float} {room : ℕ} {answer : BuildAnswer} → b ≡ c
    → room ≡ min (length before) (cells_of c)
    → (answer ≡ build_answer b (length (take room before))) × (after ≡ buffer_after b (take room before))
    → (answer ≡ build_answer c (min (length before) (cells_of c)))
    × (after ++ drop room before ≡ buffer_after c (take (cells_of c) before) ++ drop (cells_of c) before)
built_in {c = c} before e is (number, buffer) = (
  number ∙ rw (e, is) (ap (build_answer c) (length-take-le (min (length before) (cells_of c)) before (omega arith))),
  rw (buffer, e, is) (ap₂ (λ (xs ys : List Float). buffer_after c xs ++ ys) (parted (cells_of c) before).0 (parted (cells_of c) before).1),
)
