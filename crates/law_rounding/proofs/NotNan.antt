-- What is no NaN, in either format: a rounded fraction, the difference of finite values, and a value that is no NaN times one that is finite and above zero.
-- And which values are so, by comparisons: what lies between finite values is finite, and what equals a value above zero is above zero. Assumes nothing.
use mathlib.Core.Path.{◌≡◌, refl, ap}
use mathlib.Core.Bool.{Bool, true, false, not, ◌&&◌, ◌||◌, beq, cond}
use Prim.Native.Nat.{ℕ, ◌+◌, ◌-◌, ◌*◌, ◌<◌, zero-le}
use native.Mathlib.Nat.{lt_of_le_of_lt, mul-pos}
use native.Mathlib.Omega.{arith}
use lib.IntN.{pos}
use lib.Dec.{T, ltb, eqb, ltb→lt, lt→ltb, eqb→eq, eqb_refl, not_T}
use lib.Ieee.{Float, nan, inf, fin, Format, unlike, up, down, round, sum, add, neg, sub, mul, lt, eq, le, is_nan}
use lib.Ieee.Fits.{up_pos, down_pos, and_l, and_r, and_i}
use lib.Ieee.Bits.{cond_no, is_true}
use lib.Ieee.Scale.{finite}
use lib.Ieee.Positive.{positive, first_pos}
use Rattle.law_rounding.proofs.Signs.{rounded}

-- ---- rounded values

cond_number : (b : Bool) (x y : Float) → is_nan x ≡ false → is_nan y ≡ false → is_nan (cond b x y) ≡ false
cond_number true x y h k = h
cond_number false x y h k = k

pub round_number : (f : Format) (s : Bool) (a c : ℕ) → is_nan (round f s a c) ≡ false
unfolding is_nan
round_number f s = rounded (λ x. is_nan x ≡ false) s refl (λ m e. refl) f

-- ---- differences and products

sum_number : (f : Format) (s : Bool) (a : ℕ) (t : Bool) (b c : ℕ) → is_nan (sum f s a t b c) ≡ false
unfolding sum
sum_number f s a t b c =
    let above = round f t (b - a) c in
    let rest = round f (s && ltb b a) (a - b) c in
    cond_number (beq s t) (round f s (a + b) c) (cond (ltb a b) above rest) (round_number f s (a + b) c)
    (cond_number (ltb a b) above rest (round_number f t (b - a) c) (round_number f (s && ltb b a) (a - b) c))

-- A difference of finite values may overflow, to an infinity.
pub sub_number : (f : Format) (x y : Float) → T (finite x) → T (finite y) → is_nan (sub f x y) ≡ false
unfolding sub add neg
sub_number f nan y h k = elim h [ ]
sub_number f (inf _) y h k = elim h [ ]
sub_number f (fin s m e) nan h k = elim k [ ]
sub_number f (fin s m e) (inf _) h k = elim k [ ]
sub_number f (fin s m e) (fin t n d) h k = sum_number f s _ (not t) _ _

not_zero : (n : ℕ) → 0 < n → n ≡ 0 → ⊥
not_zero n h e = omega arith

-- Only a zero and an infinity multiply to a NaN, and the second factor is neither.
pub mul_number : (f : Format) (x y : Float) → is_nan x ≡ false → T (positive y) → is_nan (mul f x y) ≡ false
unfolding mul is_nan
mul_number f nan y h k = h
mul_number f (inf s) nan h k = elim k [ ]
mul_number f (inf s) (inf _) h k = elim k [ ]
mul_number f (inf s) (fin true n d) h k = elim k [ ]
mul_number f (fin s m e) nan h k = elim k [ ]
mul_number f (fin s m e) (inf _) h k = elim k [ ]
mul_number f (fin s m e) (fin true n d) h k = elim k [ ]
mul_number f (inf s) (fin false n d) h k =
    ap is_nan (cond_no (eqb n 0) nan (inf (unlike s false)) (not_T (eqb n 0) (λ e. not_zero n (ltb→lt 0 n k) (eqb→eq n 0 e))))
mul_number f (fin s m e) (fin false n d) h k = round_number f _ _ _

-- ---- comparisons

-- a comparison with a NaN is false
pub no_more_than_nan : (x : Float) → le x nan ≡ false
unfolding le lt eq
no_more_than_nan nan = refl
no_more_than_nan (inf s) = refl
no_more_than_nan (fin s m e) = refl

-- finite values bound no infinity: by `le`, and by `lt` where the comparison is that neither end is passed
pub finite_between : (lo hi x : Float) → T (finite lo) → T (finite hi) → T (le lo x) → T (le x hi) → T (finite x)
unfolding le lt eq
finite_between nan hi _ h k l g = elim h [ ]
finite_between (inf _) hi _ h k l g = elim h [ ]
finite_between (fin s m e) nan _ h k l g = elim k [ ]
finite_between (fin s m e) (inf _) _ h k l g = elim k [ ]
finite_between (fin s m e) (fin t n d) nan h k l g = elim l [ ]
finite_between (fin s m e) (fin t n d) (inf true) h k l g = l
finite_between (fin s m e) (fin t n d) (inf false) h k l g = g
finite_between (fin s m e) (fin t n d) (fin u r i) h k l g = tt

pub finite_not_outside : (lo hi x : Float) → T (finite lo) → T (finite hi) → T (not (is_nan x)) → T (not (lt x lo)) → T (not (lt hi x)) → T (finite x)
unfolding lt is_nan
finite_not_outside nan hi _ h k q l g = elim h [ ]
finite_not_outside (inf _) hi _ h k q l g = elim h [ ]
finite_not_outside (fin s m e) nan _ h k q l g = elim k [ ]
finite_not_outside (fin s m e) (inf _) _ h k q l g = elim k [ ]
finite_not_outside (fin s m e) (fin t n d) nan h k q l g = elim q [ ]
finite_not_outside (fin s m e) (fin t n d) (inf true) h k q l g = l
finite_not_outside (fin s m e) (fin t n d) (inf false) h k q l g = g
finite_not_outside (fin s m e) (fin t n d) (fin u r i) h k q l g = tt

pub above_zero : (x : Float) → T (finite x) → T (lt (fin false 0 (pos 0)) x) → T (positive x)
unfolding lt
above_zero nan h l = elim h [ ]
above_zero (inf _) h l = elim h [ ]
above_zero (fin true n d) h l = elim l [ ]
above_zero (fin false n d) h l = lt→ltb 0 n (first_pos n (up d) (first_pos (n * up d) 1 (lt_of_le_of_lt zero-le (ltb→lt (0 * 1 * down d) (n * up d * 1) l))))

-- -0 and +0 are equal, and no other two values of unlike signs
pub equal_positive : (x y : Float) → T (positive y) → T (eq x y) → T (positive x)
unfolding eq
equal_positive nan y h e = elim e [ ]
equal_positive (inf s) nan h e = elim h [ ]
equal_positive (inf s) (inf _) h e = elim h [ ]
equal_positive (inf s) (fin true n d) h e = elim h [ ]
equal_positive (fin s m i) nan h e = elim h [ ]
equal_positive (fin s m i) (inf _) h e = elim h [ ]
equal_positive (fin s m i) (fin true n d) h e = elim h [ ]
equal_positive (inf s) (fin false n d) h e = e
equal_positive (fin s m i) (fin false n d) h e = go s (and_r (eqb a b) (beq s false || eqb a 0) e)
  where
    a : ℕ
    a = m * up i * down d

    b : ℕ
    b = n * up d * down i

    above : 0 < a
    above = rw (eqb→eq a b (and_l (eqb a b) (beq s false || eqb a 0) e)) (mul-pos (mul-pos (ltb→lt 0 n h) (up_pos d)) (down_pos i))

    go : (s : Bool) → T (beq s false || eqb a 0) → T (positive (fin s m i))
    go true k = absurd (not_zero a above (eqb→eq a 0 k))
    go false k = lt→ltb 0 m (first_pos m (up i) (first_pos (m * up i) (down d) above))

-- a value that is no NaN equals itself
pub number_test : (x : Float) → eq x x ≡ not (is_nan x)
unfolding eq is_nan
number_test nan = refl
number_test (inf true) = refl
number_test (inf false) = refl
number_test (fin s m e) = is_true (eqb n n && (beq s s || eqb n 0)) (and_i (eqb n n) (beq s s || eqb n 0) (eqb_refl n) (alike s))
  where
    n : ℕ
    n = m * up e * down e

    alike : (s : Bool) → T (beq s s || eqb n 0)
    alike true = tt
    alike false = tt
