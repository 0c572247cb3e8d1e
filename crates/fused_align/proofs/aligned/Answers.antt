-- Each case is one of proofs/Cases.antt. Assumes nothing.
use Rattle.std.proofs.Common.{◌≡◌, ◌-◌, ◌*◌, ◌^◌, Bool, Float, sym, ap, ◌∙◌, subst, arith, rules}
use lib.Ieee.{binary64}
use lib.Ieee as Ieee
use Rattle.law_rounding.proofs.Sums.{signs_like, signs_unlike}
use Rattle.fused_words.specs.Words.{value}
use Rattle.fused_pack.specs.declared.Term.{Term}
use Rattle.fused_pack.specs.Rounds.{Rounds}
use Rattle.fused_align.proofs.Cases.{like, more, fewer, none, zero_is}
use Rattle.fused_align.proofs.aligned.Goals as goal
use Rattle.fused_align.proofs.aligned.Goals.{then-upper-lower, else-upper-lower+in-Greater, else-upper-lower+in-Less}

-- the sum that is asked for, where the lower term has the sign t
abbrev asked : Term → Term → Bool → Float
asked u l t = Ieee.sum binary64 u.negative (value u.words * 2 ^ u.exponent) t (value l.words * 2 ^ l.exponent) (2 ^ 2272)

pub returns-in-Equal : goal.returns-in-Equal
returns-in-Equal c =
    let u = c.args.upper in
    let l = c.args.lower in
    let p = c.requires in
    zero_is
    ∙ none (value u.words) (value l.words) (value c.shifted.result) (u.exponent - l.exponent) l.exponent u.exponent (omega arith)
    p.0 p.1 c.shifted.ensures u.negative (search rules)
    ∙ ap (asked u l) (sym (signs_unlike u.negative l.negative c.if-upper-lower.false))

pub returns : goal.returns
returns c =
    let u = c.args.upper in
    let l = c.args.lower in
    let p = c.requires in
    let r = c.rounded.result in
    elim c.if-upper-lower.branch [
      | then-upper-lower w ↦
          subst (λ (t : Bool). r ≡ asked u l t) (sym (signs_like u.negative l.negative w.if-upper-lower.true))
          (like (value u.words) (value l.words) (value c.shifted.result) (u.exponent - l.exponent) l.exponent u.exponent (omega arith)
          p.0 p.1 c.shifted.ensures u.negative w.sum.result r (omega arith) w.sum.ensures
          (subst (λ (t : Term). Rounds t r) w.sum-is c.rounded.ensures))
      | else-upper-lower+in-Greater w ↦
          subst (λ (t : Bool). r ≡ asked u l t) (sym (signs_unlike u.negative l.negative w.if-upper-lower.false))
          (more (value u.words) (value l.words) (value c.shifted.result) (u.exponent - l.exponent) l.exponent u.exponent (omega arith)
          p.0 p.1 c.shifted.ensures u.negative w.difference.result r (omega arith) (search rules) w.difference.ensures
          (subst (λ (t : Term). Rounds t r) w.sum-is c.rounded.ensures))
      | else-upper-lower+in-Less w ↦
          let other = signs_unlike u.negative l.negative w.if-upper-lower.false in
          subst (λ (t : Bool). r ≡ asked u l t) (sym other)
          (fewer (value u.words) (value l.words) (value c.shifted.result) (u.exponent - l.exponent) l.exponent u.exponent (omega arith)
          p.0 p.1 c.shifted.ensures u.negative w.difference-in-Less.result r (search rules) w.difference-in-Less.ensures
          (subst (λ (t : Bool). Rounds (record { negative = t; words = w.difference-in-Less.result; exponent = u.exponent }) r) other
          (subst (λ (t : Term). Rounds t r) w.sum-is c.rounded.ensures)))
    ]
