-- In a range that the question lets pass, no s that it takes gives a NaN for the position counted in segments: `scaled_is_a_number`. Assumes nothing.
use Rattle.std.proofs.Common.{◌≡◌, Bool, true, false, cond, not, ◌&&◌, T, sym, subst}
use lib.Ieee.{binary64, lt, le, eq, is_nan}
use lib.Ieee.Fits.{and_l, and_r}
use Rattle.std.specs.Float.{◌≤ᶠ◌}
use Rattle.std.proofs.lemmas.Float.{le_of_lt}
use Rattle.rules.specs.declared.PathParam.{PathParam}
use Rattle.rules.specs.declared.OutOfRangeMode.{OutOfRangeMode}
use Rattle.rules.specs.declared.OutOfRangeMode.TheVariants.{Error, Clamp}
use Rattle.rules.specs.declared.PathRecord.{PathRecord}
use Rattle.rules.specs.Floats.{+0, finite}
use Rattle.rules.specs.Build.{valid_range, inv_ds_of}
use Rattle.rules.specs.Query.{valid_path_range, in_range, clamped, scaled}
use Rattle.law_rounding.proofs.NotNan.{sub_number, mul_number, finite_between, finite_not_outside, above_zero, equal_positive}

-- what the question says: each of its tests but the order of the ends, which is not needed here
each : (a b c d e f : Bool) → T (a && b && c && d && e && f) → T a × T b × T d × T e × T f
each false b c d e f h = elim h [ ]
each true false c d e f h = elim h [ ]
each true true false d e f h = elim h [ ]
each true true true false e f h = elim h [ ]
each true true true true false f h = elim h [ ]
each true true true true true false h = elim h [ ]
each true true true true true true h = (tt, tt, tt, tt, tt)

-- An s that is taken is finite like the ends, once it is set to the nearest end in Clamp.
clamped_finite : (mode : OutOfRangeMode) (lo hi s : PathParam) → T (finite lo.0) → T (finite hi.0) → T (in_range mode lo hi s)
    → T (finite (clamped mode lo hi s).0)
unfolding in_range clamped
clamped_finite Error lo hi s h k r = go (is_nan s.0) (le lo.0 s.0) (le s.0 hi.0) (finite_between lo.0 hi.0 s.0 h k) r
  where
    go : (n a b : Bool) → (T a → T b → T (finite s.0)) → T (not n && a && b) → T (finite s.0)
    go false true true between t = between tt tt
    go false false b between t = elim t [ ]
    go false true false between t = elim t [ ]
    go true a b between t = elim t [ ]
clamped_finite Clamp lo hi s h k r = go (lt s.0 lo.0) (lt hi.0 s.0) (finite_not_outside lo.0 hi.0 s.0 h k r)
  where
    go : (a b : Bool) → (T (not a) → T (not b) → T (finite s.0)) → T (finite (cond a lo (cond b hi s)).0)
    go true b inside = h
    go false true inside = k
    go false false inside = inside tt tt

-- R22: the difference is a number, if an infinite one, and inv_ds equals a finite number above 0.
pub scaled_is_a_number : (p : PathRecord) (s : PathParam)
    → T (valid_path_range p)
    → in_range p.mode p.s_min p.s_max s ≡ true
    → is_nan (scaled p (clamped p.mode p.s_min p.s_max s)).0 ≡ false
unfolding scaled valid_range
scaled_is_a_number p s h r =
    let lo = p.s_min in
    let hi = p.s_max in
    let inv = inv_ds_of p.segments lo hi in
    let (low, high, bounded, above, equal) =
    each (finite lo.0) (finite hi.0) (lt lo.0 hi.0) (finite inv) (lt +0 inv) (eq p.inv_ds inv) h in
    let inside : T (in_range p.mode lo hi s) = subst T (sym r) tt in
    mul_number binary64 _ _
    (sub_number binary64 (clamped p.mode lo hi s).0 lo.0 (clamped_finite p.mode lo hi s low high inside) low)
    (equal_positive p.inv_ds inv (above_zero inv bounded above) equal)

-- and its ends are in order
pub ends_in_order : (p : PathRecord) → T (valid_path_range p) → p.s_min.0 ≤ᶠ p.s_max.0
unfolding valid_range
ends_in_order p h =
    let lo = p.s_min in
    let hi = p.s_max in
    let inv = inv_ds_of p.segments lo hi in
    let bounded : Bool = finite lo.0 && finite hi.0 in
    le_of_lt lo.0 hi.0
    (and_r bounded (lt lo.0 hi.0)
    (and_l (bounded && lt lo.0 hi.0) (finite inv)
    (and_l (bounded && lt lo.0 hi.0 && finite inv) (lt +0 inv) (and_l (valid_range p.segments lo hi) (eq p.inv_ds inv) h))))
