-- Axes are independent. Assumes nothing.
use mathlib.Core.Path.{◌≡◌, refl, sym, ap, ◌∙◌}
use mathlib.Core.Bool.{Bool, cond}
use mathlib.Core.List.{List}
use Rattle.std.specs.Prelude.{Option, Some, None}
use Prim.Native.Nat.{ℕ, ◌+◌, ◌*◌, ◌<◌}
use lib.Ieee.{Float}
use Rattle.rules.specs.declared.BoundaryState.{BoundaryState}
use Rattle.rules.specs.Floats.{◌!◌}
use Rattle.law_lists.specs.Lists.{listed}
use Rattle.rules.specs.Tables.{m_of}
use Rattle.rules.specs.Build.{BuildInput, accepted_record, divided, boundary_number, axis_waypoints, axis_state}
use Rattle.law_lists.proofs.Filling.{listed_ext}
use Rattle.theorem_builds.specs.Independent.{marked, given_number, Alike, AxesAreIndependent}
use Rattle.theorem_builds.proofs.AxisPart.{coefficients_of, part_is}

-- a number of a state as the build uses it, by the state's mark and the number as given
abbrev pub used : Float → Bool → Float → ℕ → Float
used inv mark x r = cond mark (divided (r + 1) x inv) x

pub boundary_is : (axes : ℕ) (inv : Float) (state : Option BoundaryState) (numbers : List Float) (axis r : ℕ)
    → boundary_number axes inv state numbers axis r ≡ used inv (marked state) (given_number axes state numbers axis r) r
unfolding boundary_number marked given_number
boundary_is axes inv None numbers axis r = refl
boundary_is axes inv (Some state) numbers axis r = refl

module _ (b b' : BuildInput) (axis axis' : ℕ) (a : Alike b b' axis axis') where
  same_waypoints : axis_waypoints b axis ≡ axis_waypoints b' axis'
  unfolding axis_waypoints
  same_waypoints = listed_ext b.points _ _ a.waypoint ∙ ap (λ (n : ℕ). listed n (λ p. b'.waypoints ! (p * b'.axes + axis'))) a.points

  same_inverse : (accepted_record b).inv_ds ≡ (accepted_record b').inv_ds
  unfolding accepted_record
  same_inverse = rw (a.points, a.low, a.high)

  -- of the start states or of the end states
  same_state : (state state' : Option BoundaryState) (numbers numbers' : List Float) → marked state ≡ marked state'
      → ((r : ℕ) → r < m_of b.config.order → given_number b.axes state numbers axis r ≡ given_number b'.axes state' numbers' axis' r)
      → axis_state b state numbers axis ≡ axis_state b' state' numbers' axis'
  unfolding axis_state
  same_state state state' numbers numbers' mark given =
      listed_ext (m_of b.config.order) _ _ (λ r l.
      boundary_is b.axes _ state numbers axis r
      ∙ (rw (same_inverse, mark, given r l))
      ∙ sym (boundary_is b'.axes _ state' numbers' axis' r))
      ∙ ap (λ (order : ℕ). listed (m_of order) (boundary_number b'.axes (accepted_record b').inv_ds state' numbers' axis')) a.order

  same_coefficients : coefficients_of b axis ≡ coefficients_of b' axis'
  unfolding coefficients_of
  same_coefficients =
      rw (
        same_waypoints,
        same_state b.config.start_state b'.config.start_state b.start b'.start a.start_mark a.start,
        same_state b.config.end_state b'.config.end_state b.end b'.end a.end_mark a.end,
        a.order,
        a.points,
      )

pub axes_are_independent : AxesAreIndependent
unfolding AxesAreIndependent
axes_are_independent b b' cells cells' axis axis' accepted accepted' l l' a =
    part_is b cells accepted axis l ∙ same_coefficients b b' axis axis' a ∙ sym (part_is b' cells' accepted' axis' l')
