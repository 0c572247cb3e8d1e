-- Lists that a loop fills from the left: `filled i f xs` has f's cells below i, and those of xs from i on. Each law is a step of
-- such a loop, its start or its end. A list that is worked over in place is filled too: what is left to do is as it was.
-- The same for parts of k cells each, `parts`. Assumes nothing.
use mathlib.Core.Path.{◌≡◌, refl, sym, ap, ◌∙◌, subst}
use mathlib.Core.Bool.{Bool, true, false}
use mathlib.Core.List.{List, [], ◌∷◌, ◌++◌, append_assoc, append-nil}
use mathlib.Core.Logic.{◌⊎◌, inl, inr}
use Prim.Native.Nat.{ℕ, zero, suc, ◌+◌, ◌-◌, ◌*◌, ◌/◌, ◌%◌, ◌<◌, ◌≤◌}
use native.Mathlib.Nat.{suc-mul, zero-mul, not-suc-le-zero, mul-add-div_right, mul-add-mod_self_right, div-eq_of_lt, mod-eq_of_lt, add-zero}
use native.Mathlib.Numerals.{add-one}
use native.Mathlib.Omega.{arith}
use borrow.Author.Tests.{ltb-true, ltb-false}
use lib.Dec.{T, ltb}
use lib.ListN.{length, get_or, take, drop, set, length-append, length-drop, drop_of_length-le, get_or-append}
use lib.Seq.{take_all, take_at, drop_at, set_at, get_or_at, get_or-append-add, get_or-drop, get_or-take, drop-cons, drop-drop, ext_get_or, take-append-le, drop-append-le}
use Rattle.law_lists.specs.Lists.{joined, listed, all}
use Rattle.law_lists.proofs.Lists.{below_suc, part_inside, length-listed, length-joined, joined_part, all_of}

pub lt_or_le : (j i : ℕ) → (j < i) ⊎ (i ≤ j)
lt_or_le j i = go (ltb j i) refl
  where
    go : (t : Bool) → ltb j i ≡ t → (j < i) ⊎ (i ≤ j)
    go true e = inl (ltb-true j i e)
    go false e = inr (ltb-false j i e)

module _ {A : Type 0} where
  abbrev pub filled : ℕ → (ℕ → A) → List A → List A
  filled i f xs = listed i f ++ drop i xs

  -- k cells a part
  abbrev pub parts : ℕ → ℕ → (ℕ → List A) → List A → List A
  parts k i f xs = joined i f ++ drop (i * k) xs

  pub filled_none : (f : ℕ → A) (xs : List A) → filled 0 f xs ≡ xs
  unfolding listed
  filled_none f xs = refl

  pub length-filled : (i : ℕ) (f : ℕ → A) (xs : List A) → i ≤ length xs → length (filled i f xs) ≡ length xs
  length-filled i f xs h = simp (length-append, length-listed, length-drop) (omega arith)

  pub filled_all : (n : ℕ) (f : ℕ → A) (xs : List A) → length xs ≤ n → filled n f xs ≡ listed n f
  filled_all n f xs h = ap (λ (l : List A). listed n f ++ l) (drop_of_length-le xs h) ∙ append-nil (listed n f)

  pub listed_ext : (n : ℕ) (f g : ℕ → A) → ((i : ℕ) → i < n → f i ≡ g i) → listed n f ≡ listed n g
  unfolding listed
  listed_ext zero f g h = refl
  listed_ext (suc n) f g h = rw (listed_ext n f g (λ i l. h i (omega arith)), h n (omega arith))

  pub joined_ext : (n : ℕ) (f g : ℕ → List A) → ((i : ℕ) → i < n → f i ≡ g i) → joined n f ≡ joined n g
  unfolding joined
  joined_ext zero f g h = refl
  joined_ext (suc n) f g h = rw (joined_ext n f g (λ i l. h i (omega arith)), h n (omega arith))

-- the laws that read a cell; d is what a list is said to have past its end
module _ {A : Type 0} (d : A) where
  pub listed_at : (n : ℕ) (f : ℕ → A) (i : ℕ) → i < n → get_or (listed n f) i d ≡ f i
  unfolding listed
  listed_at zero f i h = absurd (not-suc-le-zero h)
  listed_at (suc n) f i h = go (below_suc h) (listed_at n f i)
    where
      go : (i ≡ n) ⊎ (i < n) → (i < n → get_or (listed n f) i d ≡ f i) → get_or (listed n f ++ (f n ∷ [])) i d ≡ f i
      go (inl e) r = rw e (get_or_at (listed n f) (f n) [] d n (length-listed n f))
      go (inr l) r = get_or-append (listed n f) (f n ∷ []) d i (rw length-listed l) ∙ r l

  pub listed_of : (n : ℕ) (xs : List A) → length xs ≡ n → listed n (λ i. get_or xs i d) ≡ xs
  listed_of n xs e =
      ext_get_or d (listed n (λ i. get_or xs i d)) xs (length-listed n _ ∙ sym e)
      (λ i h. listed_at n _ i (rw length-listed at h))

  pub filled_at : (i : ℕ) (f : ℕ → A) (xs : List A) (j : ℕ) → j < i → get_or (filled i f xs) j d ≡ f j
  filled_at i f xs j h = get_or-append (listed i f) (drop i xs) d j (rw length-listed h) ∙ listed_at i f j h

  pub filled_past : (i : ℕ) (f : ℕ → A) (xs : List A) (j : ℕ) → i ≤ j → get_or (filled i f xs) j d ≡ get_or xs j d
  filled_past i f xs j h =
      subst (λ (k : ℕ). get_or (filled i f xs) k d ≡ get_or xs j d) (rw length-listed (omega arith))
      (get_or-append-add (listed i f) (drop i xs) (j - i) d ∙ get_or-drop i xs (j - i) d ∙ ap (λ (k : ℕ). get_or xs k d) (omega arith))

  -- a step: cell i is set
  pub filled_set : (i : ℕ) (f : ℕ → A) (xs : List A) (v : A) → i < length xs → v ≡ f i → set (filled i f xs) i v ≡ filled (i + 1) f xs
  unfolding listed
  filled_set i f xs v h e =
      ap (λ (l : List A). set (listed i f ++ l) i v) (drop-cons xs i d h)
      ∙ set_at (listed i f) (get_or xs i d) (drop (suc i) xs) v i (length-listed i f)
      ∙ rw (add-one, e, append_assoc)

  -- the cells from i to k − 1 are as they should be already
  pub filled_on : (i k : ℕ) (f : ℕ → A) (xs : List A) → i ≤ k → k ≤ length xs
      → ((j : ℕ) → i ≤ j → j < k → f j ≡ get_or xs j d) → filled i f xs ≡ filled k f xs
  filled_on i k f xs h l e =
      ext_get_or d (filled i f xs) (filled k f xs)
      (length-filled i f xs (omega arith) ∙ sym (length-filled k f xs l))
      (λ j b. cell j (lt_or_le j i) (lt_or_le j k))
    where
      cell : (j : ℕ) → (j < i) ⊎ (i ≤ j) → (j < k) ⊎ (k ≤ j) → get_or (filled i f xs) j d ≡ get_or (filled k f xs) j d
      cell j (inl a) b = filled_at i f xs j a ∙ sym (filled_at k f xs j (omega arith))
      cell j (inr a) (inl b) = filled_past i f xs j a ∙ sym (e j a b) ∙ sym (filled_at k f xs j b)
      cell j (inr a) (inr b) = filled_past i f xs j a ∙ sym (filled_past k f xs j b)

  -- a loop that starts at cell k
  pub filled_start : (k : ℕ) (f : ℕ → A) (xs : List A) → k ≤ length xs → ((j : ℕ) → j < k → f j ≡ get_or xs j d) → xs ≡ filled k f xs
  filled_start k f xs l e = sym (filled_none f xs) ∙ filled_on 0 k f xs (omega arith) l (λ j h b. e j b)

  -- a cell of the i-th part
  pub joined_at : (n k : ℕ) (f : ℕ → List A) → ((i : ℕ) → i < n → length (f i) ≡ k)
      → (i j : ℕ) → i < n → j < k → get_or (joined n f) (i * k + j) d ≡ get_or (f i) j d
  joined_at n k f e i j h l =
      sym (cell (joined n f) (i * k + j)) ∙ ap (λ (xs : List A). get_or xs 0 d) (joined_part n k f e i j 1 h (omega arith)) ∙ cell (f i) j
    where
      cell : (xs : List A) (p : ℕ) → get_or (take 1 (drop p xs)) 0 d ≡ get_or xs p d
      cell xs p = get_or-take 1 (drop p xs) 0 d (omega arith) ∙ get_or-drop p xs 0 d ∙ ap (λ (q : ℕ). get_or xs q d) (add-zero p)

-- a test that passes at each cell's number passes at the list
pub all_listed : {A : Type 0} (f : A → Bool) (n : ℕ) (g : ℕ → A) → ((i : ℕ) → T (f (g i))) → T (all f (listed n g))
all_listed f n g h = all_of f (listed n g) (g 0) (λ i l. rw (listed_at (g 0) n g i (rw length-listed at l)) (h i))

-- ---- parts

module _ {A : Type 0} (k : ℕ) (f : ℕ → List A) where
  pub parts_none : (xs : List A) → parts k 0 f xs ≡ xs
  unfolding joined
  parts_none xs = ap (λ (n : ℕ). drop n xs) (zero-mul k)

  pub length-parts : (i : ℕ) (xs : List A) → ((j : ℕ) → j < i → length (f j) ≡ k) → i * k ≤ length xs → length (parts k i f xs) ≡ length xs
  length-parts i xs e h = simp (length-append, length-joined i k f e, length-drop) (omega arith)

  -- what came back from a part that was lent: the i-th part is set
  pub parts_set : (i : ℕ) (xs ys : List A) → ((j : ℕ) → j < i → length (f j) ≡ k) → ys ≡ f i → length ys ≡ k
      → take (i * k) (parts k i f xs) ++ (ys ++ drop k (drop (i * k) (parts k i f xs))) ≡ parts k (i + 1) f xs
  unfolding joined
  parts_set i xs ys e y l =
      let n : length (joined i f) ≡ i * k = length-joined i k f e in
      rw (take_at (joined i f) (drop (i * k) xs) (i * k) n, drop_at (joined i f) (drop (i * k) xs) (i * k) n, drop-drop, add-one, suc-mul, y, append_assoc)

  -- the i-th part, read
  pub parts_at : (i : ℕ) (xs : List A) (j : ℕ) → ((j : ℕ) → j < i → length (f j) ≡ k) → j < i → take k (drop (j * k) (parts k i f xs)) ≡ f j
  parts_at i xs j e h =
      let room : j * k + k ≤ i * k = part_inside k h in
      let n : length (joined i f) ≡ i * k = length-joined i k f e in
      ap (take k) (drop-append-le (j * k) (joined i f) (drop (i * k) xs) (rw n (omega arith)))
      ∙ take-append-le k (drop (j * k) (joined i f)) (drop (i * k) xs) (simp (length-drop, n) (omega arith))
      ∙ ap (λ (p : ℕ). take k (drop p (joined i f))) (sym (add-zero (j * k)))
      ∙ joined_part i k f e j 0 k h (omega arith)
      ∙ take_all k (f j) (rw (e j h) (omega arith))

-- ---- a list of rows of n cells, place by place

-- the entry that stands at place q
abbrev pub flat : {A : Type 0} → ℕ → (ℕ → ℕ → A) → ℕ → A
flat n g q = g (q / n) (q % n)

pub flat_at : {A : Type 0} (n : ℕ) (g : ℕ → ℕ → A) (i j : ℕ) → j < n → flat n g (i * n + j) ≡ g i j
flat_at n g i j h =
    let p : 0 < n = omega arith in
    rw (mul-add-div_right p, mul-add-mod_self_right, div-eq_of_lt h, mod-eq_of_lt h, add-zero)
