-- Lists, and tests over the places 0 to n − 1. Assumes nothing.
use Rattle.std.specs.Prelude.{ℕ, zero, suc, Bool, true, ◌&&◌, List, [], ◌∷◌, ◌++◌}

module _ {A : Type 0} where
  -- the lists f 0, f 1, .., f (n − 1), one after the other
  unfoldable pub joined : ℕ → (ℕ → List A) → List A
  joined zero f = []
  joined (suc n) f = joined n f ++ f n

  -- the list of f 0, f 1, .., f (n − 1)
  unfoldable pub listed : ℕ → (ℕ → A) → List A
  listed zero f = []
  listed (suc n) f = listed n f ++ (f n ∷ [])

  -- the test passes at each element
  unfoldable pub all : (A → Bool) → List A → Bool
  all f [] = true
  all f (x ∷ xs) = f x && all f xs

-- the test passes at each of 0, 1, .., n − 1
unfoldable pub every : ℕ → (ℕ → Bool) → Bool
every zero f = true
every (suc n) f = every n f && f n
