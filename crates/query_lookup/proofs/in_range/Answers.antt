-- std's order of floats is that of the rule, and nothing is beside a NaN in it. Assumes nothing.
use Rattle.std.proofs.Common.{◌≡◌, Bool, true, false, cond, not, ◌&&◌, ◌||◌, Some, None, Less, Equal, Greater, is_le, refl, ◌∙◌}
use lib.Ieee.{Float, nan, inf, fin, lt, le, eq, is_nan}
use Rattle.std.specs.Ordering.{is_some_and, partial_le, float_partial_cmp}
use Rattle.rules.specs.Query.{in_range}
use Rattle.query_lookup.proofs.in_range.Goals as goal

by_cmp : (x y : Float) → partial_le float_partial_cmp x y ≡ le x y
unfolding le
by_cmp x y = go (lt x y) (eq x y) (lt y x)
  where
    go : (a b d : Bool) → is_some_and is_le (cond a (Some Less) (cond b (Some Equal) (cond d (Some Greater) None))) ≡ (a || b)
    go true b d = refl
    go false true d = refl
    go false false true = refl
    go false false false = refl

no_nan : (lo s hi : Float) → (le lo s && le s hi) ≡ (not (is_nan s) && le lo s && le s hi)
unfolding le lt eq is_nan
no_nan nan nan hi = refl
no_nan (inf t) nan hi = refl
no_nan (fin t m e) nan hi = refl
no_nan lo (inf t) hi = refl
no_nan lo (fin t m e) hi = refl

pub returns-in-Error : goal.returns-in-Error
unfolding in_range
returns-in-Error c =
    let lo = c.args.path.s_min.0 in
    let hi = c.args.path.s_max.0 in
    let s = c.args.s.0 in
    c.contains.ensures.value ∙ rw (c.new.ensures.start, c.new.ensures.end, c.new.ensures.exhausted, c.in-Error.is, by_cmp lo s, by_cmp s hi) (no_nan lo s hi)
