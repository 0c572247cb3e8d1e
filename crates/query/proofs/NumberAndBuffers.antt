-- A query's number, by the questions asked before the lookup and by the lookup's answer; what each of the four buffers then is; and what the evaluation may
-- rely on.
-- Assumes nothing.
use Rattle.std.proofs.Common.{Ok}
use mathlib.Core.Path.{◌≡◌, sym, ap, ◌∙◌}
use mathlib.Core.Bool.{Bool, true, false, cond}
use mathlib.Core.List.{List, [], ◌++◌}
use Prim.Native.Nat.{ℕ, ◌<◌}
use native.Mathlib.Omega.{arith}
use borrow.Author.Tests.{le-leb, ne_eqb}
use lib.Dec.{T, leb, leb→le, eqb→eq}
use lib.ListN.{length}
use lib.Ieee.{Float}
use lib.Ieee.Fits.{and_r}
use Rattle.rules.specs.declared.SegmentTau.{SegmentTau}
use Rattle.rules.specs.declared.PathError.{PathError}
use Rattle.rules.specs.Questions.{Question, first_no, number_of}
use Rattle.rules.specs.Build.{valid_axes}
use Rattle.rules.specs.Query.{QueryInput, Lengths, Buffers, lengths_of, Queried, writes, lookup, LookupSays, lookup_says, eval_poly, per_unit_of_s, segment_of}
use Rattle.rules.specs.Query.{query_questions, path_questions, buffer_questions, range_questions, query_number, derivative, derivative_after}
use Rattle.law_lists.specs.Lists.{listed}
use Rattle.rules.proofs.Query.{long_enough}
use Rattle.rules.proofs.Questions.{answer_at, said_yes, first_no_lem, first_yes, yes_to, no_to, refused_not_zero}
use Rattle.query_axes.specs.Evaluation.{Evaluable, Evaluated, derivative_at}
use Rattle.query_lookup.specs.Path.{Findable}
use Rattle.query_lookup.proofs.Answer.{range}

-- ---- the number, and the buffers

module _ (i : QueryInput) (n : Lengths) where
  -- all questions but the last
  abbrev firsts : List Question
  firsts = path_questions i.path (length i.coefficients) ++ buffer_questions i.path.axes i.level n

  abbrev pub asked : ℕ
  asked = first_no firsts

  pub no_number : (asked ≡ 0 → ⊥) → query_number i n ≡ asked
  unfolding query_number query_questions
  no_number h = first_no_lem firsts _ h

  pub range_number : asked ≡ 0 → range i.path i.s ≡ false → query_number i n ≡ 305
  unfolding query_number query_questions path_questions buffer_questions range_questions
  range_number e r = first_yes firsts (range_questions i.path i.s) tt e ∙ no_to _ r

  pub yes_number : asked ≡ 0 → range i.path i.s ≡ true → query_number i n ≡ 0
  unfolding query_number query_questions path_questions buffer_questions range_questions first_no
  yes_number e r = first_yes firsts (range_questions i.path i.s) tt e ∙ yes_to 305 [] r

  pub refused : (number : ℕ) → (number ≡ 0 → ⊥) → query_number i n ≡ number → (k : ℕ) (before : List Float) → derivative_after i n k before ≡ before
  unfolding derivative_after
  refused number h e k before = rw (e, ne_eqb number 0 h)

  pub served : query_number i n ≡ 0 → (k : ℕ) (before : List Float) → derivative_after i n k before ≡ cond (writes i.level k) (derivative i k) before
  unfolding derivative_after
  served e k before = rw e

  -- ---- what the evaluation may rely on, where all those questions say yes

  module _ (e : asked ≡ 0) where
    answered : (k : ℕ) → T (answer_at (firsts) k)
    unfolding query_questions path_questions buffer_questions range_questions
    answered = said_yes (firsts) tt e

    pub findable : Findable i.path
    unfolding query_questions path_questions buffer_questions range_questions
    findable = record { some = leb→le 1 _ (answered 1); few = leb→le _ 256 (answered 2); range = answered 4 }

    pub evaluable : (segment : ℕ) → segment < i.path.segments → Evaluable i.path i.coefficients segment i.level n
    unfolding query_questions path_questions buffer_questions range_questions valid_axes
    evaluable segment l = record {
      order = answered 0;
      few_axes = leb→le i.path.axes 8 (and_r (leb 1 i.path.axes) _ (answered 3));
      few_segments = findable.few;
      inside = l;
      table = eqb→eq _ _ (answered 5);
      q = long_enough i n (answered 7) 0 (omega arith) (le-leb 0 i.level (omega arith));
      dq = long_enough i n (answered 7) 1 (omega arith);
      ddq = long_enough i n (answered 7) 2 (omega arith);
      dddq = long_enough i n (answered 7) 3 (omega arith);
    }

-- derivative k of each axis, by what the lookup says
pub derivative_at_lem : (i : QueryInput) (at : SegmentTau) → lookup_says (lookup i.path i.s) ≡ lookup_says (Ok at)
    → (k : ℕ) → derivative i k ≡ derivative_at i.path i.coefficients at.segment at.tau.0 k
unfolding derivative derivative_at lookup_says
derivative_at_lem i at e k =
    let p = i.path in
    ap
    (λ (found : LookupSays). listed p.axes
    (λ axis. per_unit_of_s p.inv_ds k (eval_poly p.order (segment_of p i.coefficients axis found.segment) found.value k))) e

-- ---- what a query answers

-- a refusal: its number, and each buffer as it was
pub kept : (i : QueryInput) (b : Buffers) (e : PathError) → query_number i (lengths_of b) ≡ number_of e → Queried i b (number_of e) b
kept i b e is =
    let same : (k : ℕ) (xs : List Float) → xs ≡ derivative_after i (lengths_of b) k xs = λ k xs.
    sym (refused i (lengths_of b) (number_of e) (refused_not_zero e) is k xs) in
    record { number_is = sym is; q_is = same 0 _; dq_is = same 1 _; ddq_is = same 2 _; dddq_is = same 3 _ }

-- a query that is served: the derivatives in the segment that the lookup found
pub written : (i : QueryInput) (b after : Buffers) (at : SegmentTau) → asked i (lengths_of b) ≡ 0 → range i.path i.s ≡ true
    → lookup_says (lookup i.path i.s) ≡ lookup_says (Ok at) → Evaluated i.path i.coefficients at.segment at.tau.0 i.level b after → Queried i b 0 after
written i b after at e inside found h =
    let n = lengths_of b in
    let is : query_number i n ≡ 0 = yes_number i n e inside in
    let derivative : ℕ → List Float = derivative_at i.path i.coefficients at.segment at.tau.0 in
    let same : (k : ℕ) (xs : List Float) → cond (writes i.level k) (derivative k) xs ≡ derivative_after i n k xs = λ k xs.
    ap (λ (ys : List Float). cond (writes i.level k) ys xs) (sym (derivative_at_lem i at found k)) ∙ sym (served i n is k xs) in
    let always : writes i.level 0 ≡ true = le-leb 0 i.level (omega arith) in
    record {
      number_is = sym is;
      q_is = h.is_q ∙ ap (λ (w : Bool). cond w (derivative 0) b.q) (sym always) ∙ same 0 b.q;
      dq_is = h.is_dq ∙ same 1 b.dq;
      ddq_is = h.is_ddq ∙ same 2 b.ddq;
      dddq_is = h.is_dddq ∙ same 3 b.dddq;
    }
