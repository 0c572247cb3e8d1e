-- What a build handed over, a query serves: each of the first six questions before a query is answered by one before the build. Assumes nothing.
use mathlib.Core.Path.{◌≡◌, sym, ◌∙◌, subst}
use mathlib.Core.Bool.{Bool, true, false, ◌&&◌, ◌||◌, beq}
use Prim.Native.Nat.{ℕ, ◌*◌, ◌-◌, ◌≤◌}
use native.Mathlib.Omega.{arith}
use borrow.Author.Tests.{le-leb, eq-eqb}
use lib.Dec.{T, eqb, eqb_refl}
use lib.Ieee.{Float, nan, inf, fin, up, down, lt, eq}
use lib.Ieee.Bits.{is_true}
use lib.Ieee.Fits.{and_i, and_l, and_r}
use Rattle.rules.specs.declared.PathParam.{PathParam}
use Rattle.rules.specs.Floats.{+0, finite}
use Rattle.rules.specs.Build.{BuildInput, valid_range, inv_ds_of, build_questions, build_number, accepted_record}
use Rattle.rules.specs.Query.{query_questions, path_questions, buffer_questions, range_questions, query_number}
use Rattle.rules.proofs.Questions.{answer_at, yes_to}
use Rattle.rules.proofs.Build.{length-table}
use Rattle.rules.proofs.BuildAnswers.{answered, points_known}
use Rattle.theorem_builds.specs.Served.{BuiltPathsAreServed}

-- a finite number equals itself
same_sign : (s : Bool) (n : ℕ) → T (beq s s || eqb n 0)
same_sign true n = tt
same_sign false n = tt

equals_itself : (x : Float) → T (finite x) → eq x x ≡ true
unfolding eq
equals_itself nan h = elim h [ ]
equals_itself (inf _) h = elim h [ ]
equals_itself (fin s m e) h = let n = m * up e * down e in is_true _ (and_i (eqb n n) (beq s s || eqb n 0) (eqb_refl n) (same_sign s n))

module _ (b : BuildInput) (cells : ℕ) (e : build_number b cells ≡ 0) where
  abbrev lo : PathParam
  lo = b.config.s_min

  abbrev hi : PathParam
  hi = b.config.s_max

  abbrev inv : Float
  inv = inv_ds_of (b.points - 1) lo hi

  -- the quotient is the record's own, and it is finite
  range : T (valid_range (b.points - 1) lo hi && eq inv inv)
  unfolding build_questions valid_range
  range =
      let ordered = finite lo.0 && finite hi.0 && lt lo.0 hi.0 in
      let bounded = and_r ordered (finite inv) (and_l (ordered && finite inv) (lt +0 inv) (answered b cells e 8)) in
      and_i (valid_range (b.points - 1) lo hi) (eq inv inv) (answered b cells e 8) (subst T (sym (equals_itself inv bounded)) tt)

pub built_paths_are_served : BuiltPathsAreServed
unfolding
    BuiltPathsAreServed query_number query_questions path_questions buffer_questions range_questions accepted_record build_questions
built_paths_are_served b cells s level n e =
    let yes : (k : ℕ) → T (answer_at (build_questions b cells) k) = answered b cells e in
    let few : (2 ≤ b.points) × (b.points ≤ 257) = points_known b cells e in
    yes_to _ _ (is_true _ (yes 0))
    ∙ yes_to _ _ (le-leb 1 (b.points - 1) (omega arith))
    ∙ yes_to _ _ (le-leb (b.points - 1) 256 (omega arith))
    ∙ yes_to _ _ (is_true _ (yes 3))
    ∙ yes_to _ _ (is_true _ (range b cells e))
    ∙ yes_to _ _ (eq-eqb _ _ (length-table b (yes 0) few.0))
