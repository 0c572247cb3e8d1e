-- What a segment's answer says, and what it says of the segment. Assumes nothing.
use mathlib.Core.Path.{◌≡◌, refl, sym, ap, ◌∙◌}
use mathlib.Core.Bool.{Bool, true, false, not, ◌&&◌}
use mathlib.Core.List.{List}
use Prim.Native.Nat.{ℕ}
use lib.IntN.{ℤ}
use borrow.Author.Tests.{not-true, not-false}
use Rattle.std.specs.Prelude.{Ok, Err, ◌+◌, ◌-◌, ◌*◌, take, drop}
use Rattle.rules.specs.declared.PathError.TheVariants.{InvalidArgument}
use Rattle.law_lists.specs.Lists.{all}
use Rattle.rules.specs.Master.{MasterSays, within, master_says}
use Rattle.master_equations.specs.Segment.{segment_meets}
use Rattle.master_segments.specs.Answer.{segment_part, segment_says}
use Rattle.master_segments.proofs.SegmentPart.{fit}

module _ (before : Bool) (m : ℕ) (w end table : List ℤ) (i : ℕ) where
  -- a number out of range
  pub segment_out : all within (segment_part m table i) ≡ false → segment_says before m w end table i ≡ master_says (Err InvalidArgument)
  unfolding segment_says master_says
  segment_out e = rw e

  -- none out of range
  pub segment_answers : {b : Bool} → all within (segment_part m table i) ≡ true → b ≡ (before && segment_meets m w end table i)
      → segment_says before m w end table i ≡ record { refused = false; number = 0; good = b }
  unfolding segment_says
  segment_answers e f = rw (e, ← f)

  module _ {says : MasterSays} (e : says ≡ segment_says before m w end table i) where
    fit_is : says.refused ≡ not (all within (segment_part m table i))
    unfolding segment_says
    fit_is = ap (λ (x : MasterSays). x.refused) e

    -- what the answer says of the segment's range, and of its equations
    pub was_out : says.refused ≡ true → all within (segment_part m table i) ≡ false
    was_out r = not-true (all within (segment_part m table i)) (sym fit_is ∙ r)

    pub was_within : says.refused ≡ false → all within (segment_part m table i) ≡ true
    was_within r = not-false (all within (segment_part m table i)) (sym fit_is ∙ r)

    pub was_good : says.refused ≡ false → says.good ≡ (before && segment_meets m w end table i)
    was_good r = ap (λ (x : MasterSays). x.good) (e ∙ segment_answers (was_within r) refl)

-- the ways out, by what the code's tests say: of the part of the table that it lends, and of all before
module _ (before : Bool) (m : ℕ) (w end table : List ℤ) (i : ℕ) where
  -- the part, as the code lends it
  abbrev lent : List ℤ
  lent = take (i * (2 * m + 2) + (2 * m + 2) - i * (2 * m + 2)) (drop (i * (2 * m + 2)) table)

  pub refuses : false ≡ all within lent → master_says (Err InvalidArgument) ≡ segment_says before m w end table i
  refuses e = sym (segment_out before m w end table i (fit m table i e))

  pub says_no : true ≡ all within lent → before ≡ false → master_says (Ok false) ≡ segment_says before m w end table i
  unfolding master_says
  says_no e f = sym (segment_answers before m w end table i (fit m table i e) (rw f refl))

  pub says : {r : Bool} → true ≡ all within lent → before ≡ true → r ≡ segment_meets m w end table i
      → master_says (Ok r) ≡ segment_says before m w end table i
  unfolding master_says
  says e f is = sym (segment_answers before m w end table i (fit m table i e) (rw f is))

pub ruleset by_parts = (refuses, says_no, says)
