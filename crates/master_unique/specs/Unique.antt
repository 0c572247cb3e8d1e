-- Demand 3: "For every two coefficient tables of the same order, be it 3, 5 or 7, and whatever their point counts: if the master check says yes
-- to each with its own waypoints, start state and end state, the two tables are equal exactly when their waypoints, their start states and their
-- end states are all equal." And document 01: "Two tables, two waypoint lists or two states are equal when they have the same length and the same
-- number at every place", which is what `≡` of two lists is. Proved by `masters_are_unique`, `two_calls_that_said_yes` and
-- `two_point_masters_are_built` of proofs/Unique.antt. Assumes nothing.
use Rattle.std.specs.Prelude.{◌≡◌, ◌↔◌, Bool, true, List, ℕ, ◌<◌, T, ℤ, Result, Ok}
use Rattle.rules.specs.declared.PathError.{PathError}
use Rattle.law_lists.specs.Lists.{all}
use Rattle.rules.specs.Build.{BuildInput, build_number}
use Rattle.rules.specs.Master.{MasterSet, set_of, within, check_master, master_says}
use Rattle.theorem_exact.specs.Exact.{WholeTwoPoints, axis_set}

-- D3, M11: of any two sets. The check says yes to none whose order is not 3, 5 or 7.
unfoldable pub MastersAreUnique : Type 0
MastersAreUnique =
    (s t : MasterSet) → s.order ≡ t.order → T (check_master s).good → T (check_master t).good
    → (s.table ≡ t.table) ↔ ((s.waypoints ≡ t.waypoints) × (s.start ≡ t.start) × (s.end ≡ t.end))

-- The same of any two calls of the same order that answered yes: what the contract of `check_master` promises of an answer is
-- `master_says answer ≡ check_master set`.
unfoldable pub TwoCallsThatSaidYes : Type 0
TwoCallsThatSaidYes =
    (order : ℕ) (waypoints waypoints' start start' end end' table table' : List ℤ) (answer answer' : Result Bool PathError)
    → master_says answer ≡ check_master (set_of order waypoints start end table)
    → master_says answer' ≡ check_master (set_of order waypoints' start' end' table')
    → answer ≡ Ok true → answer' ≡ Ok true
    → (table ≡ table') ↔ ((waypoints ≡ waypoints') × (start ≡ start') × (end ≡ end'))

-- The link to the build. By `TwoPointsAreExact` (crates/theorem_exact/specs/Exact.antt) the check says yes to what an accepted two-point build of
-- whole numbers wrote for an axis, where that is within ±2^40. So of the masters with that axis's order, points and states this one is all there is.
unfoldable pub TwoPointMastersAreBuilt : Type 0
TwoPointMastersAreBuilt =
    (b : BuildInput) (cells axis : ℕ) → build_number b cells ≡ 0 → WholeTwoPoints b → axis < b.axes → T (all within (axis_set b axis).table)
    → (t : MasterSet) → b.config.order ≡ t.order → T (check_master t).good
    → ((axis_set b axis).table ≡ t.table)
    ↔ (((axis_set b axis).waypoints ≡ t.waypoints) × ((axis_set b axis).start ≡ t.start) × ((axis_set b axis).end ≡ t.end))
