-- The check's byte stands for yes and for nothing else, and no function answers a number that is not listed. Assumes nothing.
use mathlib.Core.Path.{◌≡◌, refl, ap}
use mathlib.Core.Logic.{inl, inr}
use mathlib.Core.Bool.{Bool, true, false, not, cond, ◌&&◌, ◌||◌, or-false}
use mathlib.Core.List.{List, [], ◌∷◌}
use Prim.Native.Nat.{ℕ}
use native.Mathlib.Omega.{arith}
use lib.Dec.{T, eqb}
use lib.Ieee.Bits.{is_true}
use lib.Ieee.Fits.{and_l, and_r}
use borrow.Author.Tests.{le-leb}
use Rattle.rules.specs.Questions.{Question, ask, first_no}
use Rattle.rules.specs.Build.{BuildInput, valid_axes, build_questions, build_number, build_answer}
use Rattle.rules.specs.Query.{query_questions, path_questions, buffer_questions, range_questions, query_number}
use Rattle.rules.specs.Master.{master_questions, size_questions, length_questions, number_questions}
use Rattle.rules.specs.Master.{master_number, endpoint_equations, joint_equations, check_master}
use Rattle.rules.specs.Sheets.{Axes, range, Heading, heading, sheet, Limited}
use Rattle.rules.specs.SheetFaults.{Judged, readable, refused, judge}
use Rattle.rules.specs.SheetAnswers.{sheet_input, answer_for, sheet_answer, sheet_served, sheet_place}
use Rattle.rules.proofs.Questions.{answer_passes}
use Rattle.theorem_sheets.specs.Sheets.{JudgedAreSheets, JudgeNumber, JudgedNumbers}
use Rattle.theorem_sheets.proofs.Claims.{judged_are_sheets}
use Rattle.theorem_sheets.proofs.Facts.{no_ninth_axis}
use Rattle.theorem_sheets.proofs.Numbers.{judged_numbers}
use Rattle.theorem_records.specs.Exports.{GoodIsYes, build_numbers, query_numbers, check_numbers, sheet_numbers, one_of, NumbersAreListed}

-- a byte that is 1 for yes
told : (good : Bool) → ◌≡◌ {A = ℕ} (cond good 1 0) 1 → T good
told true e = tt
told false e = absurd (omega arith)

pub good_is_yes : GoodIsYes
unfolding GoodIsYes check_master
good_is_yes s = (
  (told (check_master s).good, λ t. ap {B = ℕ} (λ (b : Bool). cond b 1 0) (is_true (check_master s).good t)),
  λ e. ap (λ (b : Bool). cond (not b) (master_number s) 0) (is_true (eqb (master_number s) 0) (asked (told (check_master s).good e))),
)
  where
    -- a yes comes after the last question
    asked : T (check_master s).good → T (eqb (master_number s) 0)
    asked t = and_l (eqb (master_number s) 0) (endpoint_equations s) (and_l (eqb (master_number s) 0 && endpoint_equations s) (joint_equations s) t)

-- ---- the numbers of job sheets

-- a test of 0 and of every question's number, where that question is not known to say yes
abbrev excused : (ℕ → Bool) → List Question → Bool
excused p [] = p 0
excused p (ask b n ∷ rest) = (p n || b) && excused p rest

excused_passes : (p : ℕ → Bool) (qs : List Question) → T (excused p qs) → T (p (first_no qs))
unfolding first_no
excused_passes p [] h = h
excused_passes p (ask true n ∷ rest) h = excused_passes p rest (and_r (p n || true) (excused p rest) h)
excused_passes p (ask false n ∷ rest) h = rw or-false at (and_l (p n || false) (excused p rest) h)

built_listed : (b : BuildInput) (cells : ℕ) → valid_axes b.axes ≡ true → T (one_of sheet_numbers (build_number b cells))
unfolding build_number build_questions one_of
built_listed b cells e = excused_passes (one_of sheet_numbers) (build_questions b cells) (rw e tt)

judged_listed : (k : ℕ) → JudgeNumber k → T (one_of sheet_numbers k)
unfolding one_of
judged_listed k (inl e) = rw e tt
judged_listed k (inr (inl e)) = rw e tt
judged_listed k (inr (inr (inl e))) = rw e tt
judged_listed k (inr (inr (inr (inl e)))) = rw e tt
judged_listed k (inr (inr (inr (inr e)))) = rw e tt

-- J1, B4: a sheet within the limits has 1 to 8 axes
axes_valid : (h : Heading) (axes : Axes) → Limited (sheet h axes) → valid_axes (sheet_input (sheet h axes)).axes ≡ true
unfolding valid_axes sheet_input
axes_valid (heading order (range from to)) axes v =
    let n = no_ninth_axis (heading order (range from to)) axes v in
    rw (le-leb 1 _ n.0, le-leb _ 8 n.1)

answer_listed : (t : List ℕ) (j : Judged) → judge t ≡ j → (cells : BuildInput → ℕ) → T (one_of sheet_numbers (answer_for t j cells).number)
unfolding answer_for build_answer JudgedAreSheets JudgedNumbers
answer_listed t (refused k place) e cells = judged_listed k (judged_numbers t k place e)
answer_listed t (readable (sheet h axes)) e cells = built_listed _ _ (axes_valid h axes ((judged_are_sheets t (sheet h axes)).0 e).0)

pub numbers_are_listed : NumbersAreListed
unfolding NumbersAreListed build_number build_questions
    query_number query_questions path_questions buffer_questions range_questions
    master_number master_questions size_questions length_questions number_questions check_master one_of
    sheet_answer sheet_served sheet_place
numbers_are_listed = (
  λ b cells. answer_passes (one_of build_numbers) (build_questions b cells) tt,
  λ i n. answer_passes (one_of query_numbers) (query_questions i n) tt,
  λ s. chosen (master_number s) (check_master s).refused (answer_passes (one_of check_numbers) (master_questions s) tt),
  λ t cells. answer_listed t (judge t) refl _,
  λ t. answer_listed t (judge t) refl _,
)
  where
    -- a refusal's number, or 0
    chosen : (k : ℕ) (refused : Bool) → T (one_of check_numbers k) → T (one_of check_numbers (cond refused k 0))
    chosen k true h = h
    chosen k false h = tt
