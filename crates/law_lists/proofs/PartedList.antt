-- A list that a loop fills part by part, k cells each, as the loop's invariant has it: ys is the list as it was, xs, with f's parts below i. Assumes nothing.
use mathlib.Core.Path.{◌≡◌, sym, ap, ◌∙◌}
use mathlib.Core.List.{List, ◌++◌, append-nil}
use Prim.Native.Nat.{ℕ, ◌+◌, ◌*◌, ◌-◌, ◌<◌, ◌≤◌}
use native.Mathlib.Nat.{zero-mul}
use native.Mathlib.Omega.{arith}
use lib.ListN.{length, take, drop, drop_of_length-le}
use lib.Seq.{drop_at, drop-drop}
use Rattle.law_lists.specs.Lists.{joined}
use Rattle.law_lists.proofs.Lists.{length-joined}
use Rattle.law_lists.proofs.Filling.{parts, parts_none, parts_set, parts_at, length-parts}
use Rattle.law_lists.proofs.Places.{next_part}

pub record Parted {A : Type 0} (k i : ℕ) (f : ℕ → List A) (xs ys : List A) : Type 0 where
  pub sized : (j : ℕ) → length (f j) ≡ k
  pub inside : i * k ≤ length xs
  pub is : ys ≡ parts k i f xs

pub none : {A : Type 0} (k : ℕ) (f : ℕ → List A) (xs : List A) → ((j : ℕ) → length (f j) ≡ k) → Parted k 0 f xs xs
none k f xs e = record { sized = e; inside = omega (arith, zero-mul k); is = sym (parts_none k f xs) }

module _ {A : Type 0} {k i : ℕ} {f : ℕ → List A} {xs ys : List A} (h : Parted k i f xs ys) where
  pub kept : length ys ≡ length xs
  kept = ap length h.is ∙ length-parts k f i xs (λ j l. h.sized j) h.inside

  -- past the parts the list is as it was
  rest : (n : ℕ) → i * k ≤ n → drop n ys ≡ drop n xs
  rest n l =
      let full : length (joined i f) ≡ i * k = length-joined i k f (λ j b. h.sized j) in
      let split : n ≡ i * k + (n - i * k) = omega arith in
      rw (split, ← drop-drop (n - i * k) (i * k) xs, ← drop-drop (n - i * k) (i * k) ys, h.is, drop_at (joined i f) (drop (i * k) xs) (i * k) full)

  -- so it may be said of itself
  pub own : ys ≡ parts k i f ys
  own = h.is ∙ ap (λ (l : List A). joined i f ++ l) (sym (rest (i * k) (omega arith)))

  -- and what is said of it is said of the list as it was
  pub later : {zs : List A} → zs ≡ parts k (i + 1) f ys → (i + 1) * k ≤ length xs → Parted k (i + 1) f xs zs
  later e l = record {
    sized = h.sized;
    inside = l;
    is = e ∙ ap (λ (z : List A). joined (i + 1) f ++ z) (rest ((i + 1) * k) (omega (arith, next_part k i)));
  }

  -- a part that is there, read
  pub part_at : (j : ℕ) → j < i → take k (drop (j * k) ys) ≡ f j
  part_at j l = ap (λ (zs : List A). take k (drop (j * k) zs)) h.is ∙ parts_at k f i xs j (λ j' b. h.sized j') l

  -- the i-th part was lent, and came back
  pub step : {zs : List A} → zs ≡ f i → (i + 1) * k ≤ length xs
      → Parted k (i + 1) f xs (take (i * k) ys ++ (zs ++ drop (i * k + k - i * k) (drop (i * k) ys)))
  step {zs} e l = record {
    sized = h.sized;
    inside = l;
    is =
        let size : i * k + k - i * k ≡ k = omega arith in
        rw (size, h.is) (parts_set k f i xs zs (λ j b. h.sized j) e (ap length e ∙ h.sized i));
  }

  pub whole : {n : ℕ} → length xs ≡ n * k → i ≡ n → ys ≡ joined n f
  whole e l =
      let all : length xs ≤ i * k = omega (arith, ap (λ (j : ℕ). j * k) l) in
      h.is ∙ ap (λ (rest : List A). joined i f ++ rest) (drop_of_length-le xs all) ∙ append-nil (joined i f) ∙ ap (λ (j : ℕ). joined j f) l
