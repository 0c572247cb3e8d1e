-- The tables of document 01, for m = 1, 2, 3, where m = (order − 1)/2. Each is a list, row by row, of whole numbers; the rules use the same numbers as floats.
-- A, B and C have m rows and m columns, R m rows and 2, H m + 1 rows and 1 + 2m. Assumes nothing.
use Rattle.std.specs.Prelude.{ℕ, zero, suc, ◌-◌, ◌/◌, List, [], ◌∷◌, ℤ, pos, neg_ℤ, Float}
use Rattle.rules.specs.Floats.{of_ints}

-- G3: m
abbrev pub m_of : ℕ → ℕ
m_of order = (order - 1) / 2

pub record BlockMatrices : Type 0 where
  pub a : List ℤ
  pub b : List ℤ
  pub c : List ℤ
  pub r : List ℤ
  pub h : List ℤ

-- − n
abbrev pub neg : ℕ → ℤ
neg n = neg_ℤ (pos n)

-- T1: the tables of m = 1
unfoldable pub m1 : BlockMatrices
m1 = record {
  a = pos 1 ∷ [];
  b = pos 4 ∷ [];
  c = pos 1 ∷ [];
  r = pos 3 ∷ pos 3 ∷ [];
  h =
      pos 3 ∷ neg 2 ∷ neg 1 ∷
      neg 2 ∷ pos 1 ∷ pos 1 ∷ [];
}

-- T2: the tables of m = 2
unfoldable pub m2 : BlockMatrices
m2 = record {
  a =
      neg 4 ∷ neg 1 ∷
      neg 7 ∷ neg 2 ∷ [];
  b =
      pos 0 ∷ pos 6 ∷
      neg 16 ∷ pos 0 ∷ [];
  c =
      pos 4 ∷ neg 1 ∷
      neg 7 ∷ pos 2 ∷ [];
  r =
      neg 10 ∷ pos 10 ∷
      neg 15 ∷ neg 15 ∷ [];
  h =
      pos 10 ∷ neg 6 ∷ neg 3 ∷ neg 4 ∷ pos 1 ∷
      neg 15 ∷ pos 8 ∷ pos 3 ∷ pos 7 ∷ neg 2 ∷
      pos 6 ∷ neg 3 ∷ neg 1 ∷ neg 3 ∷ pos 1 ∷ [];
}

-- T3: the tables of m = 3
unfoldable pub m3 : BlockMatrices
m3 = record {
  a =
      pos 15 ∷ pos 5 ∷ pos 1 ∷
      pos 39 ∷ pos 14 ∷ pos 3 ∷
      pos 34 ∷ pos 13 ∷ pos 3 ∷ [];
  b =
      pos 40 ∷ pos 0 ∷ pos 8 ∷
      pos 0 ∷ neg 40 ∷ pos 0 ∷
      pos 72 ∷ pos 0 ∷ pos 8 ∷ [];
  c =
      pos 15 ∷ neg 5 ∷ pos 1 ∷
      neg 39 ∷ pos 14 ∷ neg 3 ∷
      pos 34 ∷ neg 13 ∷ pos 3 ∷ [];
  r =
      pos 35 ∷ pos 35 ∷
      pos 84 ∷ neg 84 ∷
      pos 70 ∷ pos 70 ∷ [];
  h =
      pos 35 ∷ neg 20 ∷ neg 10 ∷ neg 4 ∷ neg 15 ∷ pos 5 ∷ neg 1 ∷
      neg 84 ∷ pos 45 ∷ pos 20 ∷ pos 6 ∷ pos 39 ∷ neg 14 ∷ pos 3 ∷
      pos 70 ∷ neg 36 ∷ neg 15 ∷ neg 4 ∷ neg 34 ∷ pos 13 ∷ neg 3 ∷
      neg 20 ∷ pos 10 ∷ pos 4 ∷ pos 1 ∷ pos 10 ∷ neg 4 ∷ pos 1 ∷ [];
}

-- the tables of an m; of any other m, which no order has, they are empty
unfoldable pub for_order : ℕ → BlockMatrices
for_order zero = record { a = []; b = []; c = []; r = []; h = [] }
for_order (suc zero) = m1
for_order (suc (suc zero)) = m2
for_order (suc (suc (suc zero))) = m3
for_order (suc (suc (suc (suc m)))) = record { a = []; b = []; c = []; r = []; h = [] }

-- ---- the same as floats

abbrev pub A : ℕ → List Float
A m = of_ints (for_order m).a

abbrev pub B : ℕ → List Float
B m = of_ints (for_order m).b

abbrev pub C : ℕ → List Float
C m = of_ints (for_order m).c

abbrev pub R : ℕ → List Float
R m = of_ints (for_order m).r

abbrev pub H : ℕ → List Float
H m = of_ints (for_order m).h
