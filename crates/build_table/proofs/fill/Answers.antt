-- Each size has room for as many nodes as its test lets through.
use Rattle.std.proofs.Common.{ℕ, ◌*◌, ◌≤◌, le_trans, arith}
use native.Mathlib.Nat.{mul-le-mul}
use Rattle.theorem_pivots.specs.Repeating.{distinct}
use Rattle.theorem_pivots.proofs.Settled.{distinct_few, distinct_most}
use Rattle.build_table.proofs.fill.Goals as goal

-- n nodes are k at most, of which l at most differ
room : (k l m n : ℕ) → m ≤ 3 → n ≤ k → distinct m n ≤ l → (distinct m n * (m * m) ≤ l * 9) × (distinct m n * m ≤ l * 3) × (n * m ≤ k * 3)
room k l m n small h d = (mul-le-mul d (mul-le-mul small small), mul-le-mul d small, mul-le-mul h small)

pub fill_with-requires : goal.fill_with-requires
fill_with-requires c =
    let p = c.args.plan.now in
    let none : p.n ≤ 0 = omega arith in
    let (entries, rows, numbers) = room 0 0 p.m p.n p.few none (le_trans (distinct_few p.m p.n) none) in
    (c.requires, omega (arith, entries), omega (arith, rows), omega (arith, numbers), omega arith, omega arith, omega arith)

pub fill_with-requires-then-plan-le30 : goal.fill_with-requires-then-plan-le30
fill_with-requires-then-plan-le30 c =
    let p = c.args.plan.now in
    let (entries, rows, numbers) = room 30 30 p.m p.n p.few c.if-plan-le30.true (le_trans (distinct_few p.m p.n) c.if-plan-le30.true) in
    (c.requires, entries, rows, numbers, omega arith, omega arith, omega arith)

pub fill_with-requires-else-plan-le30 : goal.fill_with-requires-else-plan-le30
fill_with-requires-else-plan-le30 c =
    let p = c.args.plan.now in
    let (entries, rows, numbers) = room 255 91 p.m p.n p.few p.few_nodes (distinct_most p.m p.n) in
    (c.requires, entries, rows, numbers, omega arith, omega arith, omega arith)
