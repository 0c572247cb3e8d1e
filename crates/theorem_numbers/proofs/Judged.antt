-- What document 03 says of a number is what the judge reads. Assumes nothing.
use mathlib.Core.Path.{◌≡◌, refl, sym, ap, ◌∙◌}
use mathlib.Core.Bool.{Bool, true, false, cond}
use mathlib.Core.List.{List, [], ◌∷◌}
use Prim.Native.Nat.{ℕ, ◌+◌, ◌-◌, ◌*◌, ◌^◌, ◌≤◌}
use native.Mathlib.Omega.{arith}
use lib.IntN.{ℤ, pos}
use lib.Dec.{eqb}
use lib.ListN.{length, drop, get_or, length-drop}
use borrow.Author.Tests.{le-leb, lt-leb, leb-true, leb-false}
use Rattle.rules.specs.Sheets.{within}
use Rattle.rules.specs.SheetReading as reading
use Rattle.rules.specs.SheetNumbers.{read_as, refused_at, run, worth, signed_by, sized_at, number_at}
use Rattle.sheet_laws.proofs.Decimal.{first_bounds}
use Rattle.theorem_numbers.specs.Pieces.{placed, JudgedAlike}
use Rattle.theorem_numbers.proofs.Going.{judge_minus, judge_zero, judge_plain}

-- more digits are not worth less
grows : (ds : List ℕ) (n : ℕ) → n ≤ worth n ds
unfolding worth
grows [] n = omega arith
grows (b ∷ ds) n = let h = grows ds (n * 10 + (b - 48)) in omega arith

-- the digits after some that are worth n; `X` are the bytes from the number's first one on
module _ (X : List ℕ) where
  abbrev pub run_says : ℕ → List ℕ → reading.Read ℕ
  run_says n t = cond (within (worth n (run t))) (reading.got (worth n (run t)) (drop (length (run t)) t)) (reading.stop 4 X)

  pub digits_run : (t : List ℕ) (n : ℕ) → n ≤ 2 ^ 40 → reading.digits within (λ r. reading.stop 4 X) n t ≡ run_says n t
  unfolding run worth reading.digits
  digits_run [] n h = rw (le-leb n (2 ^ 40) h)
  digits_run (b ∷ t) n h = go (λ h. digits_run t (n * 10 + (b - 48)) h) (reading.is_digit b) refl (within (n * 10 + (b - 48))) refl
    where
      go : (n * 10 + (b - 48) ≤ 2 ^ 40 → reading.digits within (λ r. reading.stop 4 X) (n * 10 + (b - 48)) t ≡ run_says (n * 10 + (b - 48)) t)
          → (d : Bool) → reading.is_digit b ≡ d → (f : Bool) → within (n * 10 + (b - 48)) ≡ f
          → reading.digits within (λ r. reading.stop 4 X) n (b ∷ t) ≡ run_says n (b ∷ t)
      go on true i true j = rw (i, j, reading.digits) (on (leb-true _ _ j))
      go on true i false j =
          let more = grows (run t) (n * 10 + (b - 48)) in
          let big = leb-false (n * 10 + (b - 48)) (2 ^ 40) j in
          rw (i, j, reading.digits) (rw (lt-leb (worth (n * 10 + (b - 48)) (run t)) (2 ^ 40) (omega arith)))
      go on false i f j = rw (i, reading.digits, le-leb n (2 ^ 40) h)

  -- a first digit is one like the others, after none
  digits_step : (b : ℕ) (t : List ℕ) (n : ℕ) → reading.is_digit b ≡ true → within (n * 10 + (b - 48)) ≡ true
      → reading.digits within (λ r. reading.stop 4 X) n (b ∷ t) ≡ reading.digits within (λ r. reading.stop 4 X) (n * 10 + (b - 48)) t
  unfolding reading.digits
  digits_step b t n i j = rw (i, j, reading.digits)

  pub positive_digits : (b : ℕ) (t : List ℕ) → reading.is_first b ≡ true
      → reading.positive within (λ r. reading.stop 4 X) (b ∷ t) ≡ reading.digits within (λ r. reading.stop 4 X) 0 (b ∷ t)
  unfolding reading.positive
  positive_digits b t i =
      let m = first_bounds b i in
      let z : b - 48 ≡ 0 * 10 + (b - 48) = omega arith in
      let digit : reading.is_digit b ≡ true = rw (le-leb 48 b (omega arith), le-leb b 57 (omega arith)) in
      rw (i, reading.positive) (ap (λ n. reading.digits within (λ r. reading.stop 4 X) n t) z
      ∙ sym (digits_step b t 0 digit (le-leb (0 * 10 + (b - 48)) (2 ^ 40) (omega arith))))

pub run_short : (t : List ℕ) → length (run t) ≤ length t
unfolding run
run_short [] = omega arith
run_short (b ∷ t) = go (run_short t) (reading.is_digit b) refl
  where
    go : length (run t) ≤ length t → (d : Bool) → reading.is_digit b ≡ d → length (run (b ∷ t)) ≤ length (b ∷ t)
    go h true i = rw i (omega arith)
    go h false i = rw i (omega arith)

-- digits from q on, of the number that starts at p
module _ (minus : Bool) (p q : ℕ) (t X : List ℕ) (began : q + length t - length X ≡ p) where
  abbrev sized_says : reading.Read ℤ
  sized_says = reading.then (run_says X 0 t) (λ n rest. reading.got (signed_by minus n) rest)

  sized : sized_at minus p q t ≡ placed (q + length t) sized_says
  unfolding sized_at reading.then
  sized = go (within (worth 0 (run t))) refl
    where
      go : (f : Bool) → within (worth 0 (run t)) ≡ f → sized_at minus p q t ≡ placed (q + length t) sized_says
      go true i =
          let short = run_short t in
          let k : q + length (run t) ≡ q + length t - length (drop (length (run t)) t) = simp length-drop (omega arith) in
          rw i (ap (read_as (signed_by minus (worth 0 (run t)))) k)
      go false i = rw i (ap (refused_at 4) (sym began))

-- a number without a sign, of which document 03 says the same
module _ (minus : Bool) (p q : ℕ) (X : List ℕ) where
  abbrev PositiveAlike : List ℕ → Type 0
  PositiveAlike t =
      cond (reading.is_first (get_or t 0 0)) (sized_at minus p q t) (refused_at 600 q)
      ≡ placed (q + length t) (reading.then (reading.positive within (λ r. reading.stop 4 X) t) (λ n rest. reading.got (signed_by minus n) rest))

  positive_alike : (t : List ℕ) → q + length t - length X ≡ p → PositiveAlike t
  unfolding reading.positive reading.then
  positive_alike [] e = ap (refused_at 600) (let k : q ≡ q + 0 - 0 = omega arith in k)
  positive_alike (b ∷ t) e = go (reading.is_first b) refl
    where
      go : (d : Bool) → reading.is_first b ≡ d → PositiveAlike (b ∷ t)
      go true i =
          rw i (sized minus p q (b ∷ t) X e
          ∙ ap (λ x. placed (q + length (b ∷ t)) (reading.then x (λ n rest. reading.got (signed_by minus n) rest)))
          (sym (positive_digits X b t i ∙ digits_run X (b ∷ t) 0 (omega arith))))
      go false i = rw (i, reading.positive) (ap (refused_at 600) (let k : q ≡ q + length (b ∷ t) - length (b ∷ t) = omega arith in k))

module _ (p b : ℕ) (t : List ℕ) where
  pub at_minus : eqb b 45 ≡ true → number_at p (b ∷ t) ≡ cond (reading.is_first (get_or t 0 0)) (sized_at true p (p + 1) t) (refused_at 600 (p + 1))
  unfolding number_at
  at_minus i = rw i

  pub at_zero : eqb b 45 ≡ false → eqb b 48 ≡ true → number_at p (b ∷ t) ≡ read_as (pos 0) (p + 1)
  unfolding number_at
  at_zero i j = rw (i, j)

  pub at_plain : eqb b 45 ≡ false → eqb b 48 ≡ false → number_at p (b ∷ t) ≡ cond (reading.is_first b) (sized_at false p p (b ∷ t)) (refused_at 600 p)
  unfolding number_at
  at_plain i j = rw (i, j)

pub judged_alike : JudgedAlike
unfolding JudgedAlike number_at reading.number
judged_alike p [] = ap (refused_at 600) (let k : p ≡ p + 0 - 0 = omega arith in k)
judged_alike p (b ∷ t) = go (eqb b 45) refl (eqb b 48) refl
  where
    go : (m : Bool) → eqb b 45 ≡ m → (z : Bool) → eqb b 48 ≡ z → number_at p (b ∷ t) ≡ placed (p + length (b ∷ t)) (reading.number within (b ∷ t))
    go true i z j =
        let k : p + 1 + length t ≡ p + length (b ∷ t) = omega arith in
        at_minus p b t i ∙ positive_alike true p (p + 1) (b ∷ t) t (omega arith) ∙ rw k (ap (placed (p + length (b ∷ t))) (sym (judge_minus b t i)))
    go false i true j =
        at_zero p b t i j ∙ ap (read_as (pos 0)) (let k : p + 1 ≡ p + length (b ∷ t) - length t = omega arith in k)
        ∙ ap (placed (p + length (b ∷ t))) (sym (judge_zero b t i j))
    go false i false j =
        at_plain p b t i j ∙ positive_alike false p p (b ∷ t) (b ∷ t) (omega arith) ∙ ap (placed (p + length (b ∷ t))) (sym (judge_plain b t i j))
