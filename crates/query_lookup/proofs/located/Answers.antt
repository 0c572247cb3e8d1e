-- Above 0 and below the count the truncation is the whole part (`truncation`), and taking it away leaves the exact rest (`rest_exact`). Assumes nothing.
use Rattle.std.proofs.Common.{T, rules, ◌≡◌, ℕ, ◌≤◌, false, is_nan, le_trans, lit≤, le_of_lt, ◌∙◌, Float}
use lib.Ieee.{binary64, fits, le, of_bits}
use Rattle.rules.specs.Floats.{+0, of_count}
use Rattle.rules.specs.Query.{located, whole_part}
use Rattle.query_lookup.proofs.WholePart.{Inside, inside, whole_below, truncation, above_minus_one, below_power, rest_exact}
use Rattle.query_lookup.proofs.located.Goals as goal

between : {n : ℕ} (x : Float) → n ≤ 256 → is_nan x ≡ false → le x +0 ≡ false → le (of_count n) x ≡ false → Inside n x
between x few number a b = inside _ x (le_trans few (lit≤ tt)) number a b

pub returns-then-x : goal.returns-then-x
unfolding located of_bits
returns-then-x c = rw c.if-x.true

pub returns-then-at_end : goal.returns-then-at_end
unfolding located of_bits
returns-then-at_end c = rw (c.if-x.false, c.if-at_end.true)

pub truncating_f64_to_u64-whole-requires-clause-lower_bound : goal.truncating_f64_to_u64-whole-requires-clause-lower_bound
unfolding of_bits
truncating_f64_to_u64-whole-requires-clause-lower_bound c = above_minus_one (between _ c.requires.0.few c.requires.1 c.if-x.false c.if-at_end.false)

pub truncating_f64_to_u64-whole-requires-clause-upper_bound : goal.truncating_f64_to_u64-whole-requires-clause-upper_bound
unfolding of_bits
truncating_f64_to_u64-whole-requires-clause-upper_bound c =
    below_power 64 (le_trans c.requires.0.few (lit≤ tt)) (between _ c.requires.0.few c.requires.1 c.if-x.false c.if-at_end.false)

pub count_as_float-requires : goal.count_as_float-requires
unfolding of_bits
count_as_float-requires c =
    let i = between c.args.x.0 c.requires.0.few c.requires.1 c.if-x.false c.if-at_end.false in
    rw (c.truncating_f64_to_u64-whole.ensures, truncation 64 (le_trans c.requires.0.few (lit≤ tt)) i) (le_trans (le_of_lt (whole_below i)) c.requires.0.few)

pub returns : goal.returns
unfolding located of_bits
returns c =
    let x = c.args.x.0 in
    let i = between x c.requires.0.few c.requires.1 c.if-x.false c.if-at_end.false in
    let known : T (fits binary64 x) = search rules in
    let whole : c.truncating_f64_to_u64-whole.result ≡ whole_part x =
    c.truncating_f64_to_u64-whole.ensures ∙ truncation 64 (le_trans c.requires.0.few (lit≤ tt)) i in
    rw (c.if-x.false, c.if-at_end.false, c.count_as_float.ensures, whole, rest_exact x known i.above)
