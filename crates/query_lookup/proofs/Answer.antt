-- What the lookup answers, by document 01's numbers: 0 where s is in range and else 305; and the segment is one of the path's. Assumes nothing.
use Rattle.std.proofs.Common.{◌≡◌, ℕ, ◌<◌, Bool, true, false, cond, Ok, Err, sym, refl, ◌∙◌, arith}
use lib.Ieee.{is_nan}
use Rattle.std.specs.Float.{◌≤ᶠ◌}
use Rattle.rules.specs.Floats.{◌⊖◌, ◌⊗◌}
use Rattle.rules.specs.declared.SegmentTau.{SegmentTau}
use Rattle.rules.specs.declared.PathParam.{PathParam}
use Rattle.rules.specs.declared.PathRecord.{PathRecord}
use Rattle.rules.specs.Query.{in_range, clamped, scaled, located, lookup, lookup_says}
use Rattle.query_lookup.specs.Path.{Findable}
use Rattle.query_lookup.proofs.WholePart.{segment_inside}
use Rattle.query_lookup.proofs.Scaled.{scaled_is_a_number, ends_in_order}

abbrev number : Bool → ℕ
number inside = cond inside 0 305

module _ (p : PathRecord) (s : PathParam) where
  abbrev pub range : Bool
  range = in_range p.mode p.s_min p.s_max s

  -- the lookup's number is 0 where s is in range, and else 305
  lookup_number : (lookup_says (lookup p s)).number ≡ number range
  unfolding lookup lookup_says
  lookup_number = go range
    where
      go : (b : Bool) → (lookup_says (cond b (Ok (located p.segments (scaled p (clamped p.mode p.s_min p.s_max s)))) (Err (record { 0 = s })))).number ≡ number b
      go true = refl
      go false = refl

  pub in_range_lem : (lookup_says (lookup p s)).number ≡ 0 → range ≡ true
  in_range_lem e = go range (sym lookup_number ∙ e)
    where
      go : (b : Bool) → number b ≡ 0 → b ≡ true
      go true h = refl
      go false h = absurd (omega arith)

  pub out_of_range : (lookup_says (lookup p s)).number ≡ 305 → range ≡ false
  out_of_range e = go range (sym lookup_number ∙ e)
    where
      go : (b : Bool) → number b ≡ 305 → b ≡ false
      go true h = absurd (omega arith)
      go false h = refl

  -- the segment is one of the path's
  pub segment_known : Findable p → range ≡ true → (lookup_says (lookup p s)).segment < p.segments
  unfolding lookup lookup_says
  segment_known h r = rw r (segment_inside p.segments _ h.some h.few (scaled_is_a_number p s h.range r))

-- the ways out of the lookup, by what its tests and the functions that it calls say
module _ (p : PathRecord) (s : PathParam) {inside : Bool} (is : inside ≡ in_range p.mode p.s_min p.s_max s) where
  pub refused : inside ≡ false → lookup_says (Err (record { 0 = s })) ≡ lookup_says (lookup p s)
  unfolding lookup
  refused e = rw (← is, e)

  module _ (x : PathParam) (e : inside ≡ true) (near : x ≡ clamped p.mode p.s_min p.s_max s) where
    pub scaled_known : Findable p → is_nan ((x.0 ⊖ p.s_min.0) ⊗ p.inv_ds) ≡ false
    unfolding scaled
    scaled_known h = rw near (scaled_is_a_number p s h.range (sym is ∙ e))

    pub found : {at : SegmentTau} → at ≡ located p.segments (record { 0 = (x.0 ⊖ p.s_min.0) ⊗ p.inv_ds }) → lookup_says (Ok at) ≡ lookup_says (lookup p s)
    unfolding lookup scaled
    found at_is = rw (at_is, near, ← is, e)

pub ends_known : (p : PathRecord) → Findable p → p.s_min.0 ≤ᶠ p.s_max.0
ends_known p h = ends_in_order p h.range

pub ruleset by_lookup = (refused, scaled_known, found, ends_known)
