-- What is accepted, and that it has one reading. Assumes nothing.
use mathlib.Core.Path.{◌≡◌, refl, sym, ap, subst, ◌∙◌}
use mathlib.Core.Bool.{Bool, true, false}
use mathlib.Core.List.{List, [], ◌∷◌, ◌++◌, append-nil}
use Prim.Native.Nat.{ℕ, suc, ◌-◌, ◌<◌, ◌≤◌}
use native.Mathlib.Omega.{arith}
use lib.ListN.{length, take}
use lib.Dec.{leb}
use borrow.Author.Tests.{leb-true, le-leb}
use Rattle.rules.specs.Sheets.{Sheet, spell_sheet, unlimited, within, below4, Free, Limited}
use Rattle.rules.specs.SheetReading.{Read, got, stop, read_sheet, sheet_of}
use Rattle.rules.specs.SheetFaults.{Refusal, refusal, readable, refused, sizes, sized, longest, judge}
use Rattle.sheet_laws.proofs.Exact.{Out, reads, faults, other, Complete}
use Rattle.sheet_laws.proofs.Limits.{within_small, within_shorter}
use Rattle.theorem_sheets.specs.Sheets.{AcceptedAreSheets, JudgedAreSheets, OneReading}
use Rattle.sheet_laws.proofs.Whole.{Exactly, Last, sheet_exact}

pub free_exact : Exactly spell_sheet Free (read_sheet unlimited unlimited) (read_sheet unlimited unlimited) Last
free_exact = sheet_exact unlimited unlimited (λ d h. refl) (λ n d h. refl)

pub limited_exact : Exactly spell_sheet Limited (read_sheet within below4) (read_sheet unlimited unlimited) Last
limited_exact = sheet_exact within below4 within_small within_shorter

pub read_free : (s : Sheet) → Free s → (m : ℕ) → length (spell_sheet s) < m → read_sheet unlimited unlimited m (spell_sheet s) ≡ got s []
unfolding Complete
read_free s v m l = let e = append-nil (spell_sheet s) in rw e at (free_exact.all s [] m v refl (omega (arith, ap length e)))

pub one_reading : OneReading
unfolding OneReading
one_reading a b va vb e =
    let n = suc (length (spell_sheet a)) in
    let p = read_free a va n (omega arith) in
    let q = read_free b vb n (omega (arith, ap length e)) in
    let r : got a [] ≡ got b [] = sym p ∙ ap (read_sheet unlimited unlimited n) e ∙ q in
    cc

pub accepts : (s : Sheet) → Limited s → sheet_of (spell_sheet s) ≡ got s []
unfolding Complete sheet_of
accepts s v =
    let e = append-nil (spell_sheet s) in
    rw e at (limited_exact.all s [] (suc (length (spell_sheet s))) v refl (omega (arith, ap length e)))

pub accepted : (t rest : List ℕ) (s : Sheet) → sheet_of t ≡ got s rest → Limited s × (spell_sheet s ≡ t) × (rest ≡ [])
unfolding sheet_of
accepted t rest s e = go (limited_exact.out (suc (length t)) t (omega arith))
  where
    go : Out spell_sheet Limited (read_sheet within below4) Last t (read_sheet within below4 (suc (length t)) t) → Limited s × (spell_sheet s ≡ t) × (rest ≡ [])
    go (reads a r p q v f) =
        let i : a ≡ s = cc in
        let j : r ≡ rest = cc in
        (subst Limited i v, sym (q ∙ ap (λ x. spell_sheet a ++ x) f ∙ append-nil (spell_sheet a) ∙ ap spell_sheet i), sym j ∙ f)
    go (other k r p h) = let w : ◌≡◌ {A = ℕ} 0 1 = cc in absurd (omega arith)
    go (faults r p f) = let w : ◌≡◌ {A = ℕ} 0 1 = cc in absurd (omega arith)

pub accepted_are_sheets : AcceptedAreSheets
unfolding AcceptedAreSheets
accepted_are_sheets =
    (λ t s. (λ e. let a = accepted t [] s e in (a.0, a.1), λ p. ap sheet_of (sym p.1) ∙ accepts s p.0), λ t rest s e. (accepted t rest s e).2)

-- ---- the whole judgement

pub judge_short : (t : List ℕ) (s : Sheet) (r : List ℕ) → length t ≤ longest → sheet_of t ≡ got s r → judge t ≡ sized s (sizes s)
unfolding judge
judge_short t s r l e = rw (le-leb (length t) longest l, e, judge)

pub judged_are_sheets : JudgedAreSheets
unfolding JudgedAreSheets judge sized
judged_are_sheets t s = (λ e. go (leb (length t) longest) refl (sheet_of t) refl e, back)
  where
    back : Limited s × (spell_sheet s ≡ t) × (length t ≤ longest) × (sizes s ≡ []) → judge t ≡ readable s
    back p = judge_short t s [] p.2 (ap sheet_of (sym p.1) ∙ accepts s p.0) ∙ rw p.3

    all_well : (a : Sheet) (xs : List Refusal) → sized a xs ≡ readable s → (a ≡ s) × (xs ≡ [])
    all_well a [] e = (cc, refl)
    all_well a (refusal k p ∷ xs) e = let w : ◌≡◌ {A = ℕ} 0 1 = cc in absurd (omega arith)

    go : (x : Bool) → leb (length t) longest ≡ x → (y : Read Sheet) → sheet_of t ≡ y → judge t ≡ readable s
        → Limited s × (spell_sheet s ≡ t) × (length t ≤ longest) × (sizes s ≡ [])
    go true i (got a r) j e =
        let l = leb-true (length t) longest i in
        let w = all_well a (sizes a) (sym (judge_short t a r l j) ∙ e) in
        let p = accepted t r a j in
        subst (λ b. Limited b × (spell_sheet b ≡ t) × (length t ≤ longest) × (sizes b ≡ [])) w.0 (p.0, p.1, l, w.1)
    go true i (stop k r) j e =
        let f : refused k (length t - length r) ≡ readable s = rw (i, j, judge) at e in
        let w : ◌≡◌ {A = ℕ} 0 1 = cc in absurd (omega arith)
    go false i y j e = long (sheet_of (take longest t)) refl
      where
        long : (z : Read Sheet) → sheet_of (take longest t) ≡ z → Limited s × (spell_sheet s ≡ t) × (length t ≤ longest) × (sizes s ≡ [])
        long (got a r) k =
            let f : refused 600 longest ≡ readable s = rw (i, k, judge) at e in
            let w : ◌≡◌ {A = ℕ} 0 1 = cc in absurd (omega arith)
        long (stop n r) k =
            let f : refused n (longest - length r) ≡ readable s = rw (i, k, judge) at e in
            let w : ◌≡◌ {A = ℕ} 0 1 = cc in absurd (omega arith)
