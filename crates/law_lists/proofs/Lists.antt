-- Laws of the lists and tests that the definitions are made of: how long a list is, where a part of it stands, and what a passed test says.
-- Assumes nothing.
use mathlib.Core.Path.{◌≡◌, refl, sym, ap, ◌∙◌, subst}
use mathlib.Core.Bool.{Bool, true, false, ◌&&◌}
use mathlib.Core.List.{List, [], ◌∷◌, ◌++◌}
use mathlib.Core.Logic.{◌⊎◌, inl, inr}
use Prim.Native.Nat.{ℕ, zero, suc, ◌+◌, ◌*◌, ◌<◌, ◌≤◌}
use native.Mathlib.Nat.{eq-or-lt_of_le, le_of_suc-le-suc, le_antisymm, not-suc-le-zero, le_of_eq}
use native.Mathlib.Nat.{add-zero, add-mul, zero-mul, suc-mul, mul_assoc, mul-le-mul_right}
use native.Mathlib.Numerals.{add-one}
use native.Mathlib.Omega.{arith}
use lib.Dec.{T, not_T}
use lib.ListN.{length, get_or, take, drop, length-append, length-drop}
use lib.Seq.{drop-cons, drop-length, take_all, take-append-le, drop-append-le, drop-append-add}
use lib.Ieee.Bits.{is_false}
use lib.Ieee.Fits.{and_i, and_l, and_r}
use Rattle.law_lists.specs.Lists.{joined, listed, all, every}

-- a number below n + 1 is below n, or is n
pub below_suc : {i n : ℕ} → i < suc n → (i ≡ n) ⊎ (i < n)
below_suc h = eq-or-lt_of_le (le_of_suc-le-suc h)

-- the i-th of n parts of k cells each ends within them
pub part_inside : (k : ℕ) {i n : ℕ} → i < n → i * k + k ≤ n * k
part_inside k h = rw suc-mul at (mul-le-mul_right k h)

module _ {A : Type 0} where
  pub length-listed : (n : ℕ) (f : ℕ → A) → length (listed n f) ≡ n
  unfolding listed
  length-listed zero f = refl
  length-listed (suc n) f = simp (length-append, length-listed n f) (omega arith)

  pub length-joined : (n k : ℕ) (f : ℕ → List A) → ((i : ℕ) → i < n → length (f i) ≡ k) → length (joined n f) ≡ n * k
  unfolding joined
  length-joined zero k f h = sym (zero-mul k)
  length-joined (suc n) k f h =
      simp (length-append, length-joined n k f (λ i l. h i (omega arith)), h n (omega arith), suc-mul)

  -- of lists that are k long each, a part inside the i-th is a part of all
  pub joined_part : (n k : ℕ) (f : ℕ → List A) → ((i : ℕ) → i < n → length (f i) ≡ k)
      → (i at count : ℕ) → i < n → at + count ≤ k → take count (drop (i * k + at) (joined n f)) ≡ take count (drop at (f i))
  unfolding joined
  joined_part zero k f e i at count h l = absurd (not-suc-le-zero h)
  joined_part (suc n) k f e i at count h l = go (below_suc h) (joined_part n k f (λ i' h'. e i' (omega arith)) i at count)
    where
      before : length (joined n f) ≡ n * k
      before = length-joined n k f (λ i' h'. e i' (omega arith))

      go : (i ≡ n) ⊎ (i < n) → (i < n → at + count ≤ k → take count (drop (i * k + at) (joined n f)) ≡ take count (drop at (f i)))
          → take count (drop (i * k + at) (joined n f ++ f n)) ≡ take count (drop at (f i))
      go (inl q) r = rw (q, ← before) (ap (take count) (drop-append-add (joined n f) (f n) at))
      go (inr h') r =
          let room : i * k + k ≤ n * k = part_inside k h' in
          ap (take count) (drop-append-le (i * k + at) (joined n f) (f n) (rw before (omega arith)))
          ∙ take-append-le count (drop (i * k + at) (joined n f)) (f n) (simp (length-drop, before) (omega arith))
          ∙ r h' l

  -- a list of lists of lists that are k long each: the j-th list of the i-th stands at (i * n + j) * k
  pub joined_twice : (m n k : ℕ) (f : ℕ → ℕ → List A) → ((i j : ℕ) → length (f i j) ≡ k)
      → (i j : ℕ) → i < m → j < n → take k (drop ((i * n + j) * k) (joined m (λ i'. joined n (f i')))) ≡ f i j
  joined_twice m n k f e i j h l =
      ap (λ (at : ℕ). take k (drop at (joined m (λ i'. joined n (f i'))))) (add-mul (i * n) j k ∙ ap (λ (at : ℕ). at + j * k) (mul_assoc i n k))
      ∙ joined_part m (n * k) _ (λ i' h'. length-joined n k (f i') (λ j' l'. e i' j')) i (j * k) k h (part_inside k l)
      ∙ ap (λ (at : ℕ). take k (drop at (joined n (f i)))) (sym (add-zero (j * k)))
      ∙ joined_part n k (f i) (λ j' l'. e i j') j 0 k l (omega arith)
      ∙ take_all k (f i j) (le_of_eq (e i j))

-- a test that passes at each element passes at each place, beyond the end too if it passes at what is read there
pub all_at : {A : Type 0} (f : A → Bool) (xs : List A) (d : A) → T (f d) → T (all f xs) → (i : ℕ) → T (f (get_or xs i d))
unfolding all
all_at f [] d u t i = u
all_at f (x ∷ xs) d u t zero = and_l (f x) (all f xs) t
all_at f (x ∷ xs) d u t (suc i) = all_at f xs d u (and_r (f x) (all f xs) t) i

pub all_of : {A : Type 0} (f : A → Bool) (xs : List A) (d : A) → ((i : ℕ) → i < length xs → T (f (get_or xs i d))) → T (all f xs)
unfolding all
all_of f [] d h = tt
all_of f (x ∷ xs) d h = and_i (f x) (all f xs) (h 0 (omega arith)) (all_of f xs d (λ i l. h (suc i) (omega arith)))

-- a loop over a list, with i elements behind it: none is left, or the one at i and those after it
pub all_none_left : {A : Type 0} (f : A → Bool) (xs : List A) (i : ℕ) → i ≤ length xs → length xs ≤ i → all f (drop i xs) ≡ true
unfolding all
all_none_left f xs i h l = rw (le_antisymm h l, drop-length)

pub all_next : {A : Type 0} (f : A → Bool) (xs : List A) (i : ℕ) (d : A) → i < length xs → {b : Bool} → f (get_or xs i d) ≡ b
    → all f (drop i xs) ≡ (b && all f (drop (i + 1) xs))
unfolding all
all_next f xs i d h e = rw (add-one, drop-cons xs i d, e)

pub and_assoc : (a b c : Bool) → (a && b && c) ≡ (a && (b && c))
and_assoc true b c = refl
and_assoc false b c = refl

-- a list passes where its first k elements and the rest do
pub all_split : {A : Type 0} (f : A → Bool) (k : ℕ) (xs : List A) → all f xs ≡ (all f (take k xs) && all f (drop k xs))
unfolding all
all_split f zero xs = refl
all_split f (suc k) [] = refl
all_split f (suc k) (x ∷ xs) = ap (λ (b : Bool). f x && b) (all_split f k xs) ∙ sym (and_assoc (f x) (all f (take k xs)) (all f (drop k xs)))

-- `every` passes exactly where its test passes at each place below n
pub every_at : (n : ℕ) (f : ℕ → Bool) → T (every n f) → (i : ℕ) → i < n → T (f i)
unfolding every
every_at zero f t i h = absurd (not-suc-le-zero h)
every_at (suc n) f t i h = go (below_suc h) (every_at n f (and_l (every n f) (f n) t) i)
  where
    go : (i ≡ n) ⊎ (i < n) → (i < n → T (f i)) → T (f i)
    go (inl e) r = subst (λ (j : ℕ). T (f j)) (sym e) (and_r (every n f) (f n) t)
    go (inr l) r = r l

pub every_of : (n : ℕ) (f : ℕ → Bool) → ((i : ℕ) → i < n → T (f i)) → T (every n f)
unfolding every
every_of zero f h = tt
every_of (suc n) f h = and_i (every n f) (f n) (every_of n f (λ i l. h i (omega arith))) (h n (omega arith))

-- a loop over the places: one where the test fails decides, and one more is tested after those before it
pub every_fails : (n : ℕ) (f : ℕ → Bool) (i : ℕ) → i < n → f i ≡ false → false ≡ every n f
every_fails n f i h e = sym (is_false (every n f) (not_T (every n f) (λ t. subst T e (every_at n f t i h))))

pub every_more : (f : ℕ → Bool) (n : ℕ) (b : Bool) → every n f ≡ b → every (n + 1) f ≡ (b && f n)
unfolding every
every_more f n b e = rw (add-one, e)
