-- A reading with limits beside the one without: they read the same, or fail with 600 at the same place, or the first stops at a limit that it has seen
-- passed, whatever follows, and the second ends further on. Assumes nothing.
use Prim.{Unit, tt}
use mathlib.Core.Path.{◌≡◌, refl, sym, ap, subst, ◌∙◌}
use mathlib.Core.Bool.{Bool, true, false}
use mathlib.Core.List.{List, [], ◌∷◌, ◌++◌, append_assoc}
use Prim.Native.Nat.{ℕ, ◌<◌, ◌≤◌}
use native.Mathlib.Omega.{arith}
use lib.ListN.{length, length-append}
use lib.Dec.{eqb}
use Rattle.rules.specs.SheetReading.{Read, got, stop, then, word, lead, pair}
use Rattle.sheet_laws.proofs.Exact.{Out, reads, faults, other, Complete, Any, Joins}
use Rattle.sheet_laws.proofs.Words.{always, word_n, word_complete, word_out}
use Rattle.sheet_laws.proofs.Short.{rest, then_short, word_short}

-- a value, or 600
unfoldable pub Fine : {A : Type 0} → Read A → Type 0
Fine (got a r) = Unit {0}
Fine (stop k r) = k ≡ 600

pub fine_then : {A B : Type 0} (x : Read A) (f : A → List ℕ → Read B) → Fine x → ((a : A) (r : List ℕ) → Fine (f a r)) → Fine (then x f)
unfolding Fine then
fine_then (got a r) f h k = k a r
fine_then (stop n r) f h k = h

pub word_fine : (w t : List ℕ) → Fine (word w t)
unfolding Fine word
word_fine [] t = tt
word_fine (w ∷ ws) [] = refl
word_fine (w ∷ ws) (b ∷ t) = go (eqb b w) refl (word_fine ws t)
  where
    go : (x : Bool) → eqb b w ≡ x → Fine (word ws t) → Fine (word (w ∷ ws) (b ∷ t))
    go true e h = rw (e, word) h
    go false e h = rw (e, word) refl

-- a reading does not end before its start
unfoldable pub Short : {A : Type 0} → (ℕ → List ℕ → Read A) → Type 0
Short P = (m : ℕ) (t : List ℕ) → length (rest (P m t)) ≤ length t

pub lead_short : {A : Type 0} (w : List ℕ) (P : ℕ → List ℕ → Read A) → Short P → Short (lead w P)
unfolding Short lead
lead_short w P h m t = then_short (length t) (word w t) _ (word_short w t) (λ u z. h m z)

pub pair_short : {A B C : Type 0} (mk : A → B → C) (P : ℕ → List ℕ → Read A) (Q : ℕ → List ℕ → Read B) → Short P → Short Q → Short (pair mk P Q)
unfolding Short
pair_short mk P Q h k m t = then_short (length t) (P m t) _ (h m t) (λ a z. then_short (length z) (Q m z) _ (k m z) (λ b y. omega arith))

-- P stops at a limit in t: at `first`, having seen the bytes before and `first ∷ middle`. Where the reading without limits ends, z is left.
pub record Limit {A : Type 0} (P : ℕ → List ℕ → Read A) (t z : List ℕ) : Type 0 where
  pub number : ℕ
  pub limit : number ≡ 600 → ⊥
  pub before : List ℕ
  pub first : ℕ
  pub middle : List ℕ
  pub after : List ℕ
  pub split : t ≡ before ++ (first ∷ (middle ++ after))
  pub further : length z ≤ length after
  pub stops : (m : ℕ) (y : List ℕ) → length (before ++ (first ∷ (middle ++ y))) < m
      → P m (before ++ (first ∷ (middle ++ y))) ≡ stop number (first ∷ (middle ++ y))

-- the text from the limit on, and the whole, with another end
abbrev pub from_limit : {A : Type 0} {P : ℕ → List ℕ → Read A} {t z : List ℕ} → Limit P t z → List ℕ → List ℕ
from_limit l y = l.first ∷ (l.middle ++ y)

abbrev pub ended : {A : Type 0} {P : ℕ → List ℕ → Read A} {t z : List ℕ} → Limit P t z → List ℕ → List ℕ
ended l y = l.before ++ from_limit l y

-- a limit of one reading is one of another that goes the same way after some bytes
pub moved : {A B : Type 0} {P : ℕ → List ℕ → Read A} {Q : ℕ → List ℕ → Read B} {t z t' z' : List ℕ} (l : Limit P t z) (b : List ℕ) → t' ≡ b ++ t
    → length z' ≤ length l.after → ((m : ℕ) (y : List ℕ) → length (b ++ ended l y) < m → Q m (b ++ ended l y) ≡ stop l.number (from_limit l y))
    → Limit Q t' z'
moved l b s h k = record {
  number = l.number;
  limit = l.limit;
  before = b ++ l.before;
  first = l.first;
  middle = l.middle;
  after = l.after;
  split = s ∙ ap (λ x. b ++ x) l.split ∙ sym (append_assoc b l.before (from_limit l l.after));
  further = h;
  stops = λ m y q. let e = append_assoc b l.before (from_limit l y) in rw e (k m y (rw e at q));
}

module _ {A : Type 0} (sp : A → List ℕ) (Ok : A → Type 0) (P : ℕ → List ℕ → Read A) (F : A → List ℕ → Type 0) where
  pub data Beside (t : List ℕ) (x y : Read A) : Type 0 where
    agree : (a : A) (z : List ℕ) → x ≡ got a z → y ≡ got a z → t ≡ sp a ++ z → Ok a → F a z → Beside t x y
    fail : (z : List ℕ) → x ≡ stop 600 z → y ≡ stop 600 z → Beside t x y
    limits : Limit P t (rest y) → Beside t x y

  -- a reading that has no limits
  pub beside_self : (t : List ℕ) (x : Read A) → Out sp Ok P F t x → Fine x → Beside t x x
  unfolding Fine
  beside_self t x (reads a z e s v f) h = agree a z e e s v f
  beside_self t x (faults z e f) h = fail z e e
  beside_self t x (other k z e n) h = absurd (n (subst Fine e h))

-- fixed bytes first
module _ {A : Type 0} (w : List ℕ) (sp : A → List ℕ) (Ok : A → Type 0) (P P' : ℕ → List ℕ → Read A) (F : A → List ℕ → Type 0) where
  pub lead_beside : (n : ℕ) (t : List ℕ) → ((t1 : List ℕ) → length t1 ≤ length t → Beside sp Ok P F t1 (P n t1) (P' n t1))
      → Beside (λ a. w ++ sp a) Ok (lead w P) F t (lead w P n t) (lead w P' n t)
  unfolding lead then Complete Fine
  lead_beside n t q = on (word_out w t) (word_fine w t)
    where
      on : Out (λ u. w) always (word_n w) Any t (word w t) → Fine (word w t) → Beside (λ a. w ++ sp a) Ok (lead w P) F t (lead w P n t) (lead w P' n t)
      on (faults z e i) h = fail z (rw e) (rw e)
      on (other k z e c) h = absurd (c (subst Fine e h))
      on (reads u t1 e s v f) h = go (q t1 (let j = ap length s in omega (arith, length-append w t1)))
        where
          go : Beside sp Ok P F t1 (P n t1) (P' n t1) → Beside (λ a. w ++ sp a) Ok (lead w P) F t (lead w P n t) (lead w P' n t)
          go (agree a z p p' c v f) = agree a z (rw e p) (rw e p') (s ∙ ap (λ l. w ++ l) c ∙ sym (append_assoc w (sp a) z)) v f
          go (fail z p p') = fail z (rw e p) (rw e p')
          go (limits l) =
              limits (moved l w s (rw e l.further) (λ m y k.
              rw (word_complete w tt (ended l y) m tt tt k) (l.stops m y (omega (arith, length-append w (ended l y))))))

-- one after the other
module _ {A B C : Type 0} (mk : A → B → C)
    (spA : A → List ℕ) (VA : A → Type 0) (P P' : ℕ → List ℕ → Read A) (FA : A → List ℕ → Type 0)
    (spB : B → List ℕ) (VB : B → Type 0) (Q Q' : ℕ → List ℕ → Read B) (FB : B → List ℕ → Type 0)
    (spC : C → List ℕ) (VC : C → Type 0) (FC : C → List ℕ → Type 0)
    (j : Joins mk spA VA P FA spB VB Q FB spC VC FC) where
  pub pair_beside : (n : ℕ) (t : List ℕ) → Short Q' → Beside spA VA P FA t (P n t) (P' n t)
      → ((t1 : List ℕ) → length t1 ≤ length t → Beside spB VB Q FB t1 (Q n t1) (Q' n t1))
      → Beside spC VC (pair mk P Q) FC t (pair mk P Q n t) (pair mk P' Q' n t)
  unfolding then Complete Short
  pair_beside n t h (fail z e i) q = fail z (rw e) (rw i)
  pair_beside n t h (limits l) q =
      limits (moved l [] refl
      (then_short (length l.after) (P' n t) _ l.further (λ a z. then_short (length z) (Q' n z) _ (h n z) (λ b y. omega arith)))
      (λ m y k. rw (l.stops m y k)))
  pair_beside n t h (agree a t1 e i s va fa) q = go (q t1 (let j = ap length s in omega (arith, length-append (spA a) t1)))
    where
      second : (l : Limit Q t1 (rest (Q' n t1))) (m : ℕ) (y : List ℕ) → length (spA a ++ ended l y) < m
          → pair mk P Q m (spA a ++ ended l y) ≡ stop l.number (from_limit l y)
      second l m y k =
          let f = j.keeps a l.before l.first (l.middle ++ l.after) (l.middle ++ y) (subst (FA a) l.split fa) in
          rw (j.complete a (ended l y) m va f k, l.stops m y (omega (arith, length-append (spA a) (ended l y))))

      go : Beside spB VB Q FB t1 (Q n t1) (Q' n t1) → Beside spC VC (pair mk P Q) FC t (pair mk P Q n t) (pair mk P' Q' n t)
      go (agree b z p p' c vb fb) =
          agree (mk a b) z (rw (e, p)) (rw (i, p')) (s ∙ ap (λ l. spA a ++ l) c ∙ sym (append_assoc (spA a) (spB b) z) ∙ ap (λ l. l ++ z) (sym (j.spell a b)))
          (j.valid a b va vb) (j.after a b z fb)
      go (fail z p p') = fail z (rw (e, p)) (rw (i, p'))
      go (limits l) =
          limits (moved l (spA a) s (rw i (then_short (length l.after) (Q' n t1) _ l.further (λ b y. omega arith))) (λ m y k. second l m y k))
