-- Four numbers told finite by one comparison, and a list by its fours. Assumes nothing.
use Rattle.std.proofs.Common.{◌≡◌, ℕ, zero, suc, ◌+◌, ◌*◌, List, [], ◌∷◌, length, take, drop, slice_index_or, Bool, true, false, cond, ◌&&◌, refl, sym, ap, ap₂, ◌∙◌, arith}
use Rattle.std.specs.Prelude.{Float, pos}
use Rattle.std.specs.Float.{nan, inf, fin, binary64}
use Rattle.std.specs.List.{list_all}
use Rattle.std.specs.Simd.{first_chunks}
use Rattle.std.proofs.lemmas.List.{drop-drop}
use lib.Ieee.{add, sub, neg, eq, of_bits}
use Rattle.law_lists.specs.Lists.{all}
use Rattle.law_lists.proofs.Lists.{all_split}
use Rattle.law_rounding.proofs.Values.{sub_self}
use Rattle.rules.specs.Floats.{finite}

-- +0 where a test says yes, and else NaN
abbrev pub zero_where : Bool → Float
zero_where p = cond p (fin false 0 (pos 0)) nan

-- x − x
pub less_itself : (x : Float) → sub binary64 x x ≡ zero_where (finite x)
unfolding sub neg add
less_itself nan = refl
less_itself (inf true) = refl
less_itself (inf false) = refl
less_itself (fin s m e) = sub_self binary64 s m e

-- a sum is a zero where both are
pub both_zero : (p q : Bool) → add binary64 (zero_where p) (zero_where q) ≡ zero_where (p && q)
unfolding add
both_zero false false = refl
both_zero false true = refl
both_zero true false = refl
both_zero true true = refl

pub is_zero : (p : Bool) → eq (zero_where p) (of_bits binary64 0) ≡ p
unfolding eq of_bits
is_zero true = refl
is_zero false = refl

regrouped : (p q r s : Bool) → ((p && q) && (r && s)) ≡ (p && (q && (r && (s && true))))
regrouped false q r s = refl
regrouped true false r s = refl
regrouped true true false s = refl
regrouped true true true false = refl
regrouped true true true true = refl

abbrev difference : List Float → ℕ → Float
difference xs i = sub binary64 (slice_index_or xs i nan) (slice_index_or xs i nan)

abbrev sum_of_four : List Float → Float
sum_of_four xs = add binary64 (add binary64 (difference xs 0) (difference xs 1)) (add binary64 (difference xs 2) (difference xs 3))

two : (x y : Float) → add binary64 (sub binary64 x x) (sub binary64 y y) ≡ zero_where (finite x && finite y)
two x y = ap₂ (add binary64) (less_itself x) (less_itself y) ∙ both_zero (finite x) (finite y)

pub of_four : (xs : List Float) → length xs ≡ 4 → eq (sum_of_four xs) (of_bits binary64 0) ≡ all finite xs
unfolding all
of_four (a ∷ b ∷ c ∷ d ∷ []) e =
    ap (λ (x : Float). eq x (of_bits binary64 0))
    (ap₂ (add binary64) (two a b) (two c d) ∙ both_zero (finite a && finite b) (finite c && finite d))
    ∙ is_zero ((finite a && finite b) && (finite c && finite d))
    ∙ regrouped (finite a) (finite b) (finite c) (finite d)
of_four [] e = absurd (omega arith)
of_four (a ∷ []) e = absurd (omega arith)
of_four (a ∷ b ∷ []) e = absurd (omega arith)
of_four (a ∷ b ∷ c ∷ []) e = absurd (omega arith)
of_four (a ∷ b ∷ c ∷ d ∷ x ∷ xs) e = absurd (omega arith)

together : (p q r s t : Bool) → (q && r) ≡ s → t ≡ (p && s) → ((p && q) && r) ≡ t
together false q r s t e f = sym f
together true q r s t e f = e ∙ sym f

pub by_fours : (k : ℕ) (xs : List Float) → (list_all (all finite) (first_chunks 4 k xs) && all finite (drop (k * 4) xs)) ≡ all finite xs
by_fours zero xs = refl
by_fours (suc k) xs = together (all finite (take 4 xs)) (list_all (all finite) (first_chunks 4 k (drop 4 xs))) (all finite (drop (suc k * 4) xs))
    (all finite (drop 4 xs)) (all finite xs)
    (ap (λ (ys : List Float). list_all (all finite) (first_chunks 4 k (drop 4 xs)) && all finite ys) (next k xs) ∙ by_fours k (drop 4 xs))
    (all_split finite 4 xs)
  where
    next : (k : ℕ) (xs : List Float) → drop (suc k * 4) xs ≡ drop (k * 4) (drop 4 xs)
    next k xs =
        let e : suc k * 4 ≡ 4 + k * 4 = omega arith in
        ap (λ (n : ℕ). drop n xs) e ∙ sym (drop-drop (k * 4) 4 xs)

-- a list of which the fours were looked at first, with the answer r, and then the rest
pub first_fours : (k : ℕ) (xs rest : List Float) (fours : List (List Float)) (r : Bool) → fours ≡ first_chunks 4 k xs → rest ≡ drop (k * 4) xs
    → r ≡ list_all (all finite) fours → (r && all finite rest) ≡ all finite xs
first_fours k xs rest fours r e f g =
    ap₂ (λ (p : Bool) (ys : List Float). p && all finite ys) (g ∙ ap (list_all (all finite)) e) f
    ∙ by_fours k xs

pub where_yes : (r b t : Bool) → r ≡ true → (r && b) ≡ t → b ≡ t
where_yes r b t e f = sym (ap (λ (p : Bool). p && b) e) ∙ f

pub where_no : (r b t : Bool) → r ≡ false → (r && b) ≡ t → r ≡ t
where_no r b t e f = e ∙ sym (ap (λ (p : Bool). p && b) e) ∙ f
