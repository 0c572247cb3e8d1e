-- The judge finds the earliest of 600, 601 and 4, and the earliest of 2 and 3. Assumes nothing.
use mathlib.Core.Path.{◌≡◌, refl, sym, ap, subst, ◌∙◌}
use mathlib.Core.Logic.{◌⊎◌, inl, inr}
use mathlib.Core.Bool.{Bool, true, false}
use mathlib.Core.List.Memᴰ
use mathlib.Core.List.{List, [], ◌∷◌, ◌++◌, append_assoc, append-nil, Memᴰ}
use Prim.Native.Nat.{ℕ, suc, ◌+◌, ◌-◌, ◌<◌, ◌≤◌}
use native.Mathlib.Omega.{arith}
use lib.ListN.{length, take, drop, length-append}
use lib.Seq.{length-take-le, take_all, take-append_seam, take-append-add, take-add}
use lib.Dec.{leb, ltb}
use borrow.Author.Tests.{leb-true, leb-false, ltb-true, ltb-false}
use Rattle.rules.specs.Sheets.{Sheet, spell_sheet, unlimited, within, below4, Free, Limited, Begins, Viable}
use Rattle.rules.specs.SheetReading.{Read, got, stop, read_sheet, sheet_of}
use Rattle.rules.specs.SheetFaults.{Refusal, refusal, beyond_sheet, Dead, Passed, FirstOfThree, readable, refused, sizes, sized, longest, judge}
use Rattle.sheet_laws.proofs.Exact.{Out, reads, faults, other}
use Rattle.sheet_laws.proofs.Short.{rest}
use Rattle.theorem_sheets.specs.Sheets.{FirstOfThreeIsFound, FirstOfThreeIsOne, SizesAreEarliest, RefusalsAreEarliest}
use Rattle.sheet_laws.proofs.Beside.{Limit, Beside, agree, fail, limits}
use Rattle.sheet_laws.proofs.LimitItems.{clash}
use Rattle.sheet_laws.proofs.Whole.{Last}
use Rattle.theorem_sheets.proofs.Claims.{free_exact, limited_exact, accepts, accepted, judge_short}
use Rattle.sheet_laws.proofs.Places.{Rising, earliest, same_number, sheet_rising, sizes_rising}
use Rattle.sheet_laws.proofs.Found.{Found, none, first, sheet_finds}
use Rattle.theorem_sheets.proofs.Faults.{freely, SheetBeside, sheet_beside, limit_stops, spelled_freely, limited_free, free_dead, free_stops, whole_dead}

-- nothing in a sheet within the limits is beyond them
limited_within : (s : Sheet) → Limited s → beyond_sheet s ≡ []
limited_within s v = go (sheet_finds s (limited_free s v))
  where
    go : Found (beyond_sheet s) 0 (spell_sheet s) s [] (sheet_of (spell_sheet s)) → beyond_sheet s ≡ []
    go (none h i) = h
    go (first k q ys r h i c) = absurd (clash (sym (accepts s v) ∙ i))

-- so bytes with which such a sheet begins pass nothing
nothing_passed : (bs : List ℕ) (s : Sheet) → Limited s → Begins bs s → (k p : ℕ) → Passed bs k p → ⊥
nothing_passed bs s v b k p w = Memᴰ.not-nil (subst (Memᴰ (refusal k p)) (limited_within s v) (w.always s (limited_free s v) b))

-- ---- where the reading without limits ends

free_end : (t : List ℕ) → Dead t (length t - length (rest (freely t)))
free_end t = go (free_exact.beside (suc (length t)) t (omega arith))
  where
    go : Beside spell_sheet Free (read_sheet unlimited unlimited) Last t (freely t) (freely t) → Dead t (length t - length (rest (freely t)))
    go (agree s z e i q v f) =
        let c = spelled_freely t s z e in
        let n : length (rest (freely t)) ≡ 0 = rw e (ap length f) in
        subst (λ x. Dead x (length x - length (rest (freely t)))) (sym c.1)
        (subst (Dead (spell_sheet s)) (omega arith) (whole_dead s c.0))
    go (fail z e i) = rw e (free_dead t z e)
    go (limits l) =
        let k = ap (read_sheet unlimited unlimited (suc (length t))) l.split ∙ l.stops (suc (length t)) l.after (omega (arith, ap length l.split)) in
        let n : length (rest (freely t)) ≡ length (l.first ∷ (l.middle ++ l.after)) = ap (λ x. length (rest x)) k in
        absurd (omega (arith, l.further, length-append l.middle l.after))

-- ---- a limit is passed

module _ (t : List ℕ) (l : Limit (read_sheet within below4) t (rest (freely t))) where
  abbrev judged_at : ℕ
  judged_at = length t - length (rest (freely t))

  abbrev seen : List ℕ
  seen = l.before ++ (l.first ∷ l.middle)

  split_seen : t ≡ seen ++ l.after
  split_seen = l.split ∙ sym (append_assoc l.before (l.first ∷ l.middle) l.after)

  take_judged : take judged_at t ≡ seen ++ take (judged_at - length seen) l.after
  take_judged =
      let n = judged_at - length seen in
      let a : judged_at ≡ length seen + n = omega (arith, l.further, ap length split_seen, length-append seen l.after) in
      ap (λ m. take m t) a ∙ ap (take (length seen + n)) split_seen ∙ take-append-add seen l.after n

  -- the first thing beyond the limits in every sheet that begins so
  first_is : (s : Sheet) → Free s → Begins (take judged_at t) s → (ys : List Refusal) × (beyond_sheet s ≡ refusal l.number (length l.before) ∷ ys)
  unfolding sheet_of
  first_is s v b = go (sheet_finds s v)
    where
      tail : List ℕ
      tail = take (judged_at - length seen) l.after ++ b.rest

      spelled : spell_sheet s ≡ l.before ++ (l.first ∷ (l.middle ++ tail))
      spelled = b.spelled ∙ ap (λ x. x ++ b.rest) take_judged ∙ append_assoc seen _ b.rest ∙ append_assoc l.before (l.first ∷ l.middle) tail

      stops : sheet_of (spell_sheet s) ≡ stop l.number (l.first ∷ (l.middle ++ tail))
      stops =
          ap (read_sheet within below4 (suc (length (spell_sheet s)))) spelled
          ∙ l.stops (suc (length (spell_sheet s))) tail (omega (arith, ap length spelled))

      go : Found (beyond_sheet s) 0 (spell_sheet s) s [] (sheet_of (spell_sheet s))
          → (ys : List Refusal) × (beyond_sheet s ≡ refusal l.number (length l.before) ∷ ys)
      go (none h i) = absurd (clash (sym i ∙ stops))
      go (first k q ys r h i c) =
          let e : stop k r ≡ stop l.number (l.first ∷ (l.middle ++ tail)) = sym i ∙ stops in
          let n : k ≡ l.number = cc in
          let m : r ≡ l.first ∷ (l.middle ++ tail) = cc in
          let p : q ≡ length l.before = omega (arith, ap length m, ap length spelled, length-append l.before (l.first ∷ (l.middle ++ tail))) in
          (ys, h ∙ rw (n, p))

  passed_first : Passed (take judged_at t) l.number (length l.before)
  passed_first = record {
    among =
        let a = length-append seen (take (judged_at - length seen) l.after) in
        omega (arith, ap length take_judged, length-append l.before (l.first ∷ l.middle));
    always = λ s v b. let w = first_is s v b in subst (Memᴰ _) (sym w.1) (Memᴰ.head refl);
  }

  passed_later : (k p : ℕ) → Passed (take judged_at t) k p → length l.before ≤ p
  passed_later k p w =
      let x = (free_end t).viable in
      let f = first_is x.«sheet» x.free x.begins in
      earliest f.0 0 _ l.number (length l.before) k p (subst (Rising 0 _) f.1 (sheet_rising x.«sheet»))
      (subst (Memᴰ (refusal k p)) f.1 (w.always x.«sheet» x.free x.begins))

  limit_first : FirstOfThree t l.number (length t - length (l.first ∷ (l.middle ++ l.after)))
  limit_first =
      let e : length l.before ≡ length t - length (l.first ∷ (l.middle ++ l.after)) =
      omega (arith, ap length l.split, length-append l.before (l.first ∷ (l.middle ++ l.after))) in
      subst (FirstOfThree t l.number) e (record { judged = judged_at; dead = free_end t; is = inr (passed_first, passed_later) })

-- ---- 600

take_before : (t b z : List ℕ) → t ≡ b ++ z → take (length t - length z) t ≡ b
take_before t b z e =
    let n : length t - length z ≡ length b = omega (arith, ap length e, length-append b z) in
    ap (λ m. take m t) n ∙ ap (take (length b)) e ∙ take-append_seam b z

fault_first : (t z : List ℕ) → sheet_of t ≡ stop 600 z → FirstOfThree t 600 (length t - length z)
unfolding sheet_of
fault_first t z e = go (limited_exact.out (suc (length t)) t (omega arith))
  where
    go : Out spell_sheet Limited (read_sheet within below4) Last t (read_sheet within below4 (suc (length t)) t) → FirstOfThree t 600 (length t - length z)
    go (reads a r p s v f) = absurd (clash (sym p ∙ e))
    go (other k r p h) = absurd (h (cc))
    go (faults r p f) =
        let i : r ≡ z = cc in
        let b = take_before t f.before z (f.split ∙ ap (λ x. f.before ++ x) i) in
        record {
          judged = length t - length z;
          dead = free_dead t z (free_stops t z e);
          is = inl (refl, refl, nothing_passed (take (length t - length z) t) f.some f.valid (record { rest = f.tail; spelled = rw b f.begins }));
        }

pub first_of_three : FirstOfThreeIsFound
unfolding FirstOfThreeIsFound sheet_of
first_of_three t z k e = go (sheet_beside t)
  where
    go : SheetBeside t → FirstOfThree t k (length t - length z)
    go (agree s r p i q v f) = absurd (clash (sym p ∙ e))
    go (fail r p i) =
        let m : stop 600 r ≡ stop k z = sym p ∙ e in
        let n : 600 ≡ k = cc in
        subst (λ j. FirstOfThree t j (length t - length z)) n (fault_first t z (e ∙ ap (λ j. stop j z) (sym n)))
    go (limits l) =
        let m : stop l.number (l.first ∷ (l.middle ++ l.after)) ≡ stop k z = sym (limit_stops t l) ∙ e in
        let n : l.number ≡ k = cc in
        let i : l.first ∷ (l.middle ++ l.after) ≡ z = cc in
        subst (λ j. FirstOfThree t j (length t - length z)) n (subst (λ x. FirstOfThree t l.number (length t - length x)) i (limit_first t l))

-- ---- no text has two

shorter_viable : (b c : List ℕ) → Viable (b ++ c) → Viable b
shorter_viable b c w = record {
  «sheet» = w.«sheet»;
  free = w.free;
  begins = record { rest = c ++ w.begins.rest; spelled = w.begins.spelled ∙ append_assoc b c w.begins.rest };
}

not_later : (t : List ℕ) (a b : ℕ) → Dead t a → Dead t b → a < b → ⊥
not_later t a b d e l =
    let n : suc a + (b - suc a) ≡ b = omega arith in
    d.ends (omega (arith, e.inside)) (shorter_viable (take (suc a) t) (take (b - suc a) (drop (suc a) t))
    (subst Viable (ap (λ m. take m t) (sym n) ∙ take-add (suc a) (b - suc a) t) e.viable))

dead_one : (t : List ℕ) (a b : ℕ) → Dead t a → Dead t b → a ≡ b
dead_one t a b d e = go (ltb a b) refl (ltb b a) refl
  where
    go : (x : Bool) → ltb a b ≡ x → (y : Bool) → ltb b a ≡ y → a ≡ b
    go true i y j = absurd (not_later t a b d e (ltb-true a b i))
    go false i true j = absurd (not_later t b a e d (ltb-true b a j))
    go false i false j = let l = ltb-false a b i in let m = ltb-false b a j in omega arith

pub first_is_one : FirstOfThreeIsOne
unfolding FirstOfThreeIsOne
first_is_one t k j p q x y = go x.is (subst (Says j q) (sym same) y.is)
  where
    Says : ℕ → ℕ → ℕ → Type 0
    Says k p n = ((k ≡ 600) × (p ≡ n) × ((i r : ℕ) → Passed (take n t) i r → ⊥)) ⊎ (Passed (take n t) k p × ((i r : ℕ) → Passed (take n t) i r → p ≤ r))

    same : x.judged ≡ y.judged
    same = dead_one t x.judged y.judged x.dead y.dead

    go : Says k p x.judged → Says j q x.judged → (k ≡ j) × (p ≡ q)
    go (inl a) (inl b) = (a.0 ∙ sym b.0, a.1 ∙ sym b.1)
    go (inl a) (inr b) = absurd (a.2 j q b.0)
    go (inr a) (inl b) = absurd (b.2 k p a.0)
    go (inr a) (inr b) =
        let e : p ≡ q = let l = a.1 j q b.0 in let m = b.1 k p a.0 in omega arith in
        let s = x.dead.viable in
        let m = b.0.always s.«sheet» s.free s.begins in (
          same_number (beyond_sheet s.«sheet») 0 _ k j p (sheet_rising s.«sheet») (a.0.always s.«sheet» s.free s.begins)
              (subst (λ n. Memᴰ (refusal j n) (beyond_sheet s.«sheet»)) (sym e) m),
          e,
        )

-- ---- 2 and 3

pub sizes_are_earliest : SizesAreEarliest
unfolding SizesAreEarliest sized
sizes_are_earliest s k place e = go (sizes s) refl (sizes_rising s)
  where
    go : (xs : List Refusal) → sizes s ≡ xs → Rising 0 (length (spell_sheet s)) (sizes s)
        → Memᴰ (refusal k place) (sizes s) × ((j p : ℕ) → Memᴰ (refusal j p) (sizes s) → place ≤ p)
    go [] i r = let f : readable s ≡ refused k place = rw i at e in let w : ◌≡◌ {A = ℕ} 0 1 = cc in absurd (omega arith)
    go (refusal j p ∷ xs) i r =
        let f : refused j p ≡ refused k place = rw i at e in
        let a : j ≡ k = cc in
        let b : p ≡ place = cc in (
          subst (λ ys. Memᴰ (refusal k place) ys) (sym i) (Memᴰ.head (rw (a, b))),
          λ c q m. subst (λ x. x ≤ q) b (earliest xs 0 _ j p c q (rw i at r) (rw i at m)),
        )

-- ---- the judgement

-- a whole sheet within the limits, followed by more than is judged
whole_first : (s : Sheet) → Limited s → FirstOfThree (spell_sheet s) 600 (length (spell_sheet s))
whole_first s v = record {
  judged = length (spell_sheet s);
  dead = whole_dead s (limited_free s v);
  is = inl (
    refl,
    refl,
    λ k p w.
        let e = take_all (length (spell_sheet s)) (spell_sheet s) (omega arith) in
        nothing_passed (take (length (spell_sheet s)) (spell_sheet s)) s v (record { rest = []; spelled = sym (append-nil _ ∙ e) }) k p w,
  );
}

pub refusals_are_earliest : RefusalsAreEarliest
unfolding RefusalsAreEarliest judge FirstOfThreeIsFound
refusals_are_earliest t k place e = go (leb (length t) longest) refl (sheet_of t) refl (sheet_of (take longest t)) refl e
  where
    go : (x : Bool) → leb (length t) longest ≡ x → (y : Read Sheet) → sheet_of t ≡ y → (z : Read Sheet) → sheet_of (take longest t) ≡ z
        → judge t ≡ refused k place → FirstOfThree (take longest t) k place
        ⊎ ((length t ≤ longest) × ((s : Sheet) × Limited s × (spell_sheet s ≡ t) × (sized s (sizes s) ≡ refused k place)))
    go true i (got a r) j z h e =
        let l = leb-true (length t) longest i in
        let c = accepted t r a j in
        inr (l, (a, c.0, c.1, sym (judge_short t a r l j) ∙ e))
    go true i (stop n r) j z h e =
        let f : refused n (length t - length r) ≡ refused k place = rw (i, j, judge) at e in
        let m : n ≡ k = cc in
        let p : length t - length r ≡ place = cc in
        inl (subst (λ x. FirstOfThree x k place) (sym (take_all longest t (leb-true (length t) longest i)))
        (subst (FirstOfThree t k) p (first_of_three t r k (j ∙ ap (λ c. stop c r) m))))
    go false i y j (got a r) h e =
        let f : refused 600 longest ≡ refused k place = rw (i, h, judge) at e in
        let m : 600 ≡ k = cc in
        let p : longest ≡ place = cc in
        let l = leb-false (length t) longest i in
        let c = accepted (take longest t) r a h in
        let d : length (spell_sheet a) ≡ place = ap length c.1 ∙ length-take-le longest t (omega arith) ∙ p in
        let w = subst (FirstOfThree (spell_sheet a) 600) d (whole_first a c.0) in
        inl (subst (λ n. FirstOfThree (take longest t) n place) m (subst (λ x. FirstOfThree x 600 place) c.1 w))
    go false i y j (stop n r) h e =
        let f : refused n (longest - length r) ≡ refused k place = rw (i, h, judge) at e in
        let m : n ≡ k = cc in
        let l = leb-false (length t) longest i in
        let p : longest - length r ≡ place = cc in
        let d = length-take-le longest t (omega arith) in
        inl (subst (FirstOfThree (take longest t) k) (ap (λ x. x - length r) d ∙ p) (first_of_three (take longest t) r k (h ∙ ap (λ c. stop c r) m)))
