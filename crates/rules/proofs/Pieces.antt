-- Every starred piece of document 01 holds of the definitions, and so does each of the second list. antt computes each test.
-- Assumes nothing.
use lib.Dec.{T}
use lib.Ieee.{add, sub, mul, div, neg, lt, eq, le, of_int, is_nan, to_bits}
use Rattle.rules.specs.Floats.{sum_of}
use Rattle.law_lists.specs.Lists.{joined, listed, all, every}
use Rattle.rules.specs.Questions.{first_no}
use Rattle.rules.specs.Fused.{exact_product, fused}
use Rattle.rules.specs.Tables.{m1, m2, m3, for_order}
use Rattle.rules.specs.Solve.{matrix, times, minus, pivot_row, exchange, exchanged, eliminated, factor_steps, factor}
use Rattle.rules.specs.Solve.{forward, backward, solve, column, solve_matrix, node_matrix, node_factors, solved_c_of}
use Rattle.rules.specs.Build.{valid_order, valid_axes, valid_state, inv_ds_of, valid_range, finite_state}
use Rattle.rules.specs.Build.{build_questions, build_number}
use Rattle.rules.specs.Build.{accepted_record, refused_record, build_answer, dy, upper_coefficient, segment_coefficients, right_side, bounded_side, solved_side}
use Rattle.rules.specs.Build.{inner_numbers, node_numbers, axis_coefficients, divided, boundary_number, axis_waypoints, axis_state, table, buffer_after}
use Rattle.rules.specs.Query.{valid_level, in_range, query_questions, path_questions, buffer_questions, range_questions}
use Rattle.rules.specs.Query.{query_number, clamped, scaled, whole_part, exact_rest, located, lookup, lookup_says}
use Rattle.rules.specs.Query.{derivative_factor, term, fused_steps, fused_derivative, general_loop, loop_derivative, eval_poly, per_unit_of_s, segment_of}
use Rattle.rules.specs.Query.{derivative, derivative_after}
use Rattle.rules.specs.Master.{within, master_questions, size_questions, length_questions, number_questions, master_number}
use Rattle.rules.specs.Master.{binomial, sumℤ, at_end, same, meets_left, meets_right, meets_start, meets_end, meets_joints}
use Rattle.rules.specs.Master.{endpoint_equations, joint_equations, check_master}
use Rattle.rules.specs.Pieces.{holds, input, build_of, exactly, alike, all_alike, table_of, query_of}
use Rattle.rules.specs.Pieces.{one_each, curve, at_rest, starting, set_of_d, greatest, starred, further}

both : T (all holds starred) × T (all holds further)
unfolding holds input build_of exactly alike all_alike table_of query_of one_each curve at_rest starting set_of_d greatest starred further
    add sub mul div neg lt eq le of_int is_nan to_bits sum_of joined listed all every first_no exact_product fused m1 m2 m3 for_order
    matrix times minus pivot_row exchange exchanged eliminated factor_steps factor
    forward backward solve column solve_matrix node_matrix node_factors solved_c_of
    valid_order valid_axes valid_state inv_ds_of valid_range finite_state build_questions build_number
    accepted_record refused_record build_answer dy upper_coefficient segment_coefficients right_side bounded_side solved_side
    inner_numbers node_numbers axis_coefficients divided boundary_number axis_waypoints axis_state table buffer_after
    valid_level in_range query_questions path_questions buffer_questions range_questions query_number clamped scaled whole_part exact_rest located lookup lookup_says
    derivative_factor term fused_steps fused_derivative general_loop loop_derivative eval_poly per_unit_of_s segment_of derivative derivative_after
    within master_questions size_questions length_questions number_questions master_number binomial sumℤ at_end same
    meets_left meets_right meets_start meets_end meets_joints endpoint_equations joint_equations check_master
both = (tt, tt)

-- P1: the single claim about the starred pieces
pub starred_hold : T (all holds starred)
starred_hold = both.0

pub further_hold : T (all holds further)
further_hold = both.1
