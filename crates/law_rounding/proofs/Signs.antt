-- What a result that is finite and above zero says of its operands, in either format: a count's quotient is so only where the divisor is, and a difference
-- only where both terms are finite and the second is below the first. For rounding keeps the sign. Assumes nothing.
use mathlib.Core.Path.{sym, subst}
use Prim.Native.Nat.{ℕ, zero, suc, ◌+◌, ◌-◌, ◌*◌, ◌^◌, ◌<◌}
use native.Mathlib.Nat.{zero-lt-suc, add_comm}
use native.Mathlib.Omega.{arith}
use mathlib.Core.Bool.{Bool, true, false, not, ◌&&◌, beq, cond}
use lib.IntN.{ℤ, pos}
use lib.Dec.{T, ltb, eqb, lt→ltb}
use lib.Ieee.{Float, nan, inf, fin, Format, prec, emax, low, odd, units, round, neg, sum, add, sub, div, below, lt, of_int}
use lib.Ieee.Fits.{round_is}
use lib.Ieee.Scale.{finite}
use lib.Ieee.Positive.{positive}
use Rattle.law_rounding.proofs.Values.{round_zero}

-- ---- rounded values

-- A rounded fraction is an infinity or a finite value, of the fraction's sign: what holds of these holds of it.

module _ (P : Float → Type 0) (s : Bool) (infinite : P (inf s)) (bounded : (m : ℕ) (e : ℤ) → P (fin s m e)) where
  odd_is : (d q k l : ℕ) → P (odd d s q k l)
  unfolding odd
  odd_is d zero k l = bounded _ _
  odd_is d (suc q) k l = bounded _ _

  units_is : (f : Format) (q k : ℕ) → P (units f s q k)
  unfolding units
  units_is f q k = go (ltb (q * 2 ^ k) (2 ^ (low f + suc (emax f))))
    where
      go : (b : Bool) → P (cond b (odd (suc (prec f)) s q k (low f)) (inf s))
      go true = odd_is (suc (prec f)) q k (low f)
      go false = infinite

  pub rounded : (f : Format) (a c : ℕ) → P (round f s a c)
  rounded f a c = subst P (sym (round_is f s a c)) (units_is f _ _)

-- so only a fraction above zero is rounded to a value above zero
not_below : (f : Format) (a c : ℕ) → T (positive (round f true a c)) → ⊥
not_below = rounded (λ x. T (positive x) → ⊥) true (λ h. h) (λ m e h. h)

above : (f : Format) (a c : ℕ) → T (positive (round f false a c)) → 0 < a
above f zero c h = absurd (subst (λ x. T (positive x)) (round_zero f false c) h)
above f (suc a) c h = zero-lt-suc a

-- where one of two values is above zero, and not the first, it is the second
second : (b : Bool) (x y : Float) → (T (positive x) → ⊥) → T (positive (cond b x y)) → T (positive y)
second true x y none h = absurd (none h)
second false x y none h = h

more : (a b : ℕ) → 0 < a - b → T (ltb b a)
more a b h = lt→ltb b a (omega arith)

-- ---- quotients

-- an infinity divided is an infinity or a NaN
of_infinity : (f : Format) (y : Float) → T (positive (div f (inf false) y)) → T (positive y)
unfolding div
of_infinity f nan h = elim h [ ]
of_infinity f (inf _) h = elim h [ ]
of_infinity f (fin t n d) h = absurd h

-- A number divided by a zero is an infinity or a NaN, by an infinity a zero, and by a number below zero it is not above zero.
of_number : (f : Format) (m : ℕ) (e : ℤ) (y : Float) → T (positive (div f (fin false m e) y)) → T (positive y)
unfolding div
of_number f m e nan h = elim h [ ]
of_number f m e (inf true) h = h
of_number f m e (inf false) h = h
of_number f m e (fin true n d) h = not_below f _ _ (second (eqb n 0) _ (round f true _ _) (second (eqb m 0) nan (inf true) (λ h. h)) h)
of_number f m e (fin false zero d) h = absurd (second (eqb m 0) nan (inf false) (λ h. h) h)
of_number f m e (fin false (suc n) d) h = lt→ltb 0 (suc n) (zero-lt-suc n)

pub divisor_positive : (f : Format) (n : ℕ) (y : Float) → T (positive (div f (of_int f (pos n)) y)) → T (positive y)
unfolding of_int
divisor_positive f n y = rounded (λ x. T (positive (div f x y)) → T (positive y)) false (of_infinity f y) (λ m e. of_number f m e y) f n 1

-- ---- differences

-- ±a / c and ±b / c: where the difference is above zero, the second is below the first
sum_below : (f : Format) (s : Bool) (a : ℕ) (t : Bool) (b c : ℕ) → T (positive (sum f s a (not t) b c)) → T (below t b s a)
unfolding sum
sum_below f false a true b c h = lt→ltb 0 (b + a) (subst (λ (n : ℕ). 0 < n) (add_comm a b) (above f (a + b) c h))
sum_below f true a false b c h = not_below f (a + b) c h
sum_below f false a false b c h = more a b (above f (a - b) c (second (ltb a b) (round f true (b - a) c) (round f false (a - b) c) (not_below f (b - a) c) h))
sum_below f true a true b c h = go (ltb a b) (ltb b a) (more a b) h
  where
    go : (l m : Bool) → (0 < a - b → T m) → T (positive (cond l (round f false (b - a) c) (round f m (a - b) c))) → T l
    go true m k h = tt
    go false true k h = not_below f (a - b) c h
    go false false k h = k (above f (a - b) c h)

pub terms_apart : (f : Format) (x y : Float) → T (positive (sub f x y)) → T (finite y && finite x && lt y x)
unfolding sub add neg lt
terms_apart f nan y h = elim h [ ]
terms_apart f (inf s) nan h = elim h [ ]
terms_apart f (inf s) (fin t n d) h = elim h [ ]
terms_apart f (fin s m e) nan h = elim h [ ]
terms_apart f (fin s m e) (inf t) h = elim h [ ]
terms_apart f (inf s) (inf t) h = absurd (second (beq s (not t)) (inf s) nan (λ h. h) h)
terms_apart f (fin s m e) (fin t n d) h = sum_below f s _ t _ _ h
