-- Where the judge says 600, and what the reading without limits says then. Assumes nothing.
use mathlib.Core.Path.{◌≡◌, refl, sym, ap, subst, ◌∙◌}
use mathlib.Core.Bool.{Bool, true, false}
use mathlib.Core.List.{List, [], ◌∷◌, ◌++◌, append_assoc, append-nil}
use Prim.Native.Nat.{ℕ, suc, ◌+◌, ◌-◌, ◌<◌, ◌≤◌}
use native.Mathlib.Omega.{arith}
use lib.ListN.{length, take, length-append}
use lib.Seq.{length-take-le, take_all, take-append_seam, take-append-add}
use lib.Dec.{leb}
use borrow.Author.Tests.{leb-true, leb-false}
use Rattle.rules.specs.Sheets.{Sheet, spell_sheet, unlimited, within, below4, Free, Limited, Viable}
use Rattle.rules.specs.SheetReading.{Read, got, stop, read_sheet, sheet_of}
use Rattle.rules.specs.SheetFaults.{Refusal, refusal, Dead, refused, sizes, sized, longest, judge}
use Rattle.sheet_laws.proofs.Exact.{Fault, Out, reads, faults, other}
use Rattle.sheet_laws.proofs.Short.{rest}
use Rattle.theorem_sheets.specs.Sheets.{FaultsPlace}
use Rattle.sheet_laws.proofs.Beside.{Limit, Beside, agree, fail, limits}
use Rattle.sheet_laws.proofs.LimitItems.{clash}
use Rattle.sheet_laws.proofs.Whole.{Last}
use Rattle.theorem_sheets.proofs.Claims.{free_exact, limited_exact, read_free, accepts, accepted, judge_short}
use Rattle.sheet_laws.proofs.Places.{Rising, sizes_rising}

-- the reading without limits
abbrev pub freely : List ℕ → Read Sheet
freely t = read_sheet unlimited unlimited (suc (length t)) t

-- the judge beside it
abbrev pub SheetBeside : List ℕ → Type 0
SheetBeside t = Beside spell_sheet Limited (read_sheet within below4) Last t (read_sheet within below4 (suc (length t)) t) (freely t)

pub sheet_beside : (t : List ℕ) → SheetBeside t
sheet_beside t = limited_exact.beside (suc (length t)) t (omega arith)

pub limit_stops : (t : List ℕ) (l : Limit (read_sheet within below4) t (rest (freely t))) → sheet_of t ≡ stop l.number (l.first ∷ (l.middle ++ l.after))
unfolding sheet_of
limit_stops t l =
    ap (read_sheet within below4 (suc (length t))) l.split ∙ l.stops (suc (length t)) l.after (omega (arith, ap length l.split))

pub spelled_freely : (t : List ℕ) (s : Sheet) (z : List ℕ) → freely t ≡ got s z → Free s × (t ≡ spell_sheet s)
spelled_freely t s z e = go (free_exact.out (suc (length t)) t (omega arith))
  where
    go : Out spell_sheet Free (read_sheet unlimited unlimited) Last t (freely t) → Free s × (t ≡ spell_sheet s)
    go (reads a r p q v f) =
        let i : a ≡ s = cc in
        (subst Free i v, q ∙ ap (λ x. spell_sheet a ++ x) f ∙ append-nil (spell_sheet a) ∙ ap spell_sheet i)
    go (other k r p h) = absurd (clash (sym e ∙ p))
    go (faults r p f) = absurd (clash (sym e ∙ p))

pub limited_free : (s : Sheet) → Limited s → Free s
unfolding sheet_of
limited_free s v = go (sheet_beside (spell_sheet s))
  where
    go : SheetBeside (spell_sheet s) → Free s
    go (agree a z e i q w f) = let g : got a z ≡ got s [] = sym e ∙ accepts s v in let j : a ≡ s = cc in subst Free j (spelled_freely (spell_sheet s) a z i).0
    go (fail z e i) = absurd (clash (sym (accepts s v) ∙ e))
    go (limits l) = absurd (clash (sym (accepts s v) ∙ limit_stops (spell_sheet s) l))

-- ---- 600

pub free_viable : (s : Sheet) → Free s → Viable (spell_sheet s)
free_viable s v = record { «sheet» = s; free = v; begins = record { rest = []; spelled = sym (append-nil (spell_sheet s)) } }

module _ (t z : List ℕ) (f : Fault spell_sheet Free (read_sheet unlimited unlimited) t z) where
  fault_ends : (b : ℕ) (r : List ℕ) → z ≡ b ∷ r → Viable (f.before ++ (b ∷ [])) → ⊥
  fault_ends b r j w =
      let tail = w.begins.rest in
      let c : spell_sheet w.«sheet» ≡ f.before ++ (b ∷ tail) = w.begins.spelled ∙ append_assoc f.before (b ∷ []) tail in
      let n = suc (length (f.before ++ (b ∷ tail))) in
      let x = f.stops b r j n tail (omega arith) in
      let y = read_free w.«sheet» w.free n (omega (arith, ap length c)) in
      clash (sym y ∙ ap (read_sheet unlimited unlimited n) c ∙ x)

  pub fault_place : length t - length z ≡ length f.before
  fault_place = omega (arith, ap length f.split, length-append f.before z)

  fault_take : (n : ℕ) → take (length f.before + n) t ≡ f.before ++ take n z
  fault_take n = ap (take (length f.before + n)) f.split ∙ take-append-add f.before z n

  fault_dead : Dead t (length f.before)
  fault_dead = record {
    inside = omega (arith, ap length f.split, length-append f.before z);
    viable = subst Viable (sym (ap (take (length f.before)) f.split ∙ take-append_seam f.before z))
        (record { «sheet» = f.some; free = f.valid; begins = record { rest = f.tail; spelled = f.begins } });
    ends = λ h w. go z refl h w;
  }
    where
      go : (x : List ℕ) → z ≡ x → length f.before < length t → Viable (take (suc (length f.before)) t) → ⊥
      go [] e h w = omega (arith, ap length f.split, length-append f.before z, ap length e)
      go (b ∷ r) e h w =
          let i : suc (length f.before) ≡ length f.before + 1 = omega arith in
          fault_ends b r e (subst Viable (ap (λ n. take n t) i ∙ fault_take 1 ∙ ap (λ x. f.before ++ take 1 x) e) w)

pub free_dead : (t z : List ℕ) → freely t ≡ stop 600 z → Dead t (length t - length z)
free_dead t z e = go (free_exact.out (suc (length t)) t (omega arith))
  where
    go : Out spell_sheet Free (read_sheet unlimited unlimited) Last t (freely t) → Dead t (length t - length z)
    go (reads a r p s v f) = absurd (clash (sym p ∙ e))
    go (other k r p h) = absurd (h (cc))
    go (faults r p f) = let i : r ≡ z = cc in subst (λ x. Dead t (length t - length x)) i (subst (Dead t) (sym (fault_place t r f)) (fault_dead t r f))

pub free_stops : (t z : List ℕ) → sheet_of t ≡ stop 600 z → freely t ≡ stop 600 z
unfolding sheet_of
free_stops t z e = go (sheet_beside t)
  where
    go : SheetBeside t → freely t ≡ stop 600 z
    go (agree a r p i q w f) = absurd (clash (sym p ∙ e))
    go (fail r p i) = let j : r ≡ z = cc in i ∙ ap (stop 600) j
    go (limits l) = let j = sym (limit_stops t l) ∙ e in absurd (l.limit (cc))

no_sheet : (t z : List ℕ) → freely t ≡ stop 600 z → (s : Sheet) → Free s → spell_sheet s ≡ t → ⊥
no_sheet t z e s v i = clash (sym (read_free s v (suc (length t)) (omega (arith, ap length i))) ∙ ap (read_sheet unlimited unlimited (suc (length t))) i ∙ e)

-- a whole text of a sheet is dead at its end, where there is no byte
pub whole_dead : (s : Sheet) → Free s → Dead (spell_sheet s) (length (spell_sheet s))
whole_dead s v = record {
  inside = omega arith;
  viable = subst Viable (sym (take_all (length (spell_sheet s)) (spell_sheet s) (omega arith))) (free_viable s v);
  ends = λ h w. omega arith;
}

-- ---- the judgement

sized_600 : (s : Sheet) (xs : List Refusal) (low end place : ℕ) → Rising low end xs → sized s xs ≡ refused 600 place → ⊥
unfolding sized Rising
sized_600 s [] low end place r e = let w : ◌≡◌ {A = ℕ} 0 1 = cc in omega arith
sized_600 s (refusal k p ∷ xs) low end place r e = r.0 (cc)

pub faults_place : FaultsPlace
unfolding FaultsPlace judge
faults_place t place e = go (leb (length t) longest) refl (sheet_of t) refl (sheet_of (take longest t)) refl e
  where
    go : (x : Bool) → leb (length t) longest ≡ x → (y : Read Sheet) → sheet_of t ≡ y → (z : Read Sheet) → sheet_of (take longest t) ≡ z
        → judge t ≡ refused 600 place → Dead (take longest t) place × (length t ≤ longest → (s : Sheet) → Free s → spell_sheet s ≡ t → ⊥)
    go true i (got a r) j z k e = absurd (sized_600 a (sizes a) 0 _ place (sizes_rising a) (sym (judge_short t a r (leb-true (length t) longest i) j) ∙ e))
    go true i (stop n r) j z k e =
        let f : refused n (length t - length r) ≡ refused 600 place = rw (i, j, judge) at e in
        let m : n ≡ 600 = cc in
        let p : length t - length r ≡ place = cc in
        let g = free_stops t r (j ∙ ap (λ m. stop m r) m) in (
          subst (λ x. Dead x place) (sym (take_all longest t (leb-true (length t) longest i))) (subst (Dead t) p (free_dead t r g)),
          λ l s v q. no_sheet t r g s v q,
        )
    go false i y j (got a r) k e =
        let f : refused 600 longest ≡ refused 600 place = rw (i, k, judge) at e in
        let p : longest ≡ place = cc in
        let c = accepted (take longest t) r a k in
        let l = leb-false (length t) longest i in
        let d : length (spell_sheet a) ≡ place = ap length c.1 ∙ length-take-le longest t (omega arith) ∙ p in
        (subst (λ x. Dead x place) c.1 (subst (Dead (spell_sheet a)) d (whole_dead a (limited_free a c.0))), λ h s v q. omega arith)
    go false i y j (stop n r) k e =
        let f : refused n (longest - length r) ≡ refused 600 place = rw (i, k, judge) at e in
        let m : n ≡ 600 = cc in
        let l = leb-false (length t) longest i in
        let p : longest - length r ≡ place = cc in
        let d = length-take-le longest t (omega arith) in
        let g = free_dead (take longest t) r (free_stops (take longest t) r (k ∙ ap (λ m. stop m r) m)) in
        (subst (Dead (take longest t)) (ap (λ x. x - length r) d ∙ p) g, λ h s v q. omega arith)
