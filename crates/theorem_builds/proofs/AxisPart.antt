-- An axis's part of an accepted build's buffer is what the rules compute for that axis: `part_is`. Assumes nothing.
use mathlib.Core.Path.{◌≡◌, sym, ap, ap₂, ◌∙◌}
use mathlib.Core.List.{List}
use Prim.Native.Nat.{ℕ, ◌+◌, ◌*◌, ◌-◌, ◌<◌, ◌≤◌}
use native.Mathlib.Nat.{add-zero, le_of_eq}
use native.Mathlib.Omega.{arith}
use lib.ListN.{length, take, drop}
use lib.Seq.{take_all}
use lib.Ieee.{Float}
use Rattle.rules.specs.Tables.{m_of}
use Rattle.rules.specs.Build.{BuildInput, build_number}
use Rattle.rules.specs.Build.{axis_coefficients, axis_waypoints, axis_state, table}
use Rattle.law_lists.proofs.Lists.{joined_part}
use Rattle.rules.proofs.Build.{length_axis, length_state, coefficient_count}
use Rattle.rules.proofs.BuildAnswers.{order_known, points_known}
use Rattle.theorem_builds.specs.Independent.{axis_part}

-- what the rules compute for an axis
unfoldable pub coefficients_of : BuildInput → ℕ → List Float
coefficients_of b axis =
    axis_coefficients (m_of b.config.order) (b.points - 2) (axis_waypoints b axis)
    (axis_state b b.config.start_state b.start axis)
    (axis_state b b.config.end_state b.end axis)

module _ (b : BuildInput) (cells : ℕ) (accepted : build_number b cells ≡ 0) where
  pub axis_length : (axis : ℕ) → length (coefficients_of b axis) ≡ (b.points - 1) * (b.config.order + 1)
  unfolding coefficients_of
  axis_length axis =
      let h : (2 ≤ b.points) × (b.points ≤ 257) = points_known b cells accepted in
      length_axis _ _ _ _ _ (length_state b _ _ axis) (length_state b _ _ axis)
      ∙ ap₂ (λ (x y : ℕ). x * y) (omega arith) (coefficient_count _ (order_known b cells accepted))

  pub part_is : (axis : ℕ) → axis < b.axes → axis_part b axis ≡ coefficients_of b axis
  unfolding axis_part table coefficients_of
  part_is axis l =
      let stride = (b.points - 1) * (b.config.order + 1) in
      ap (λ (at : ℕ). take stride (drop at (table b))) (sym (add-zero (axis * stride)))
      ∙ joined_part b.axes stride _ (λ i h. axis_length i) axis 0 stride l (omega arith)
      ∙ take_all stride (coefficients_of b axis) (le_of_eq (axis_length axis))
