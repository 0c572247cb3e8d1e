-- A reading is exact: it reads every spelling, what it reads is a spelling, and where it stops with 600 the bytes before can still become a spelling, and
-- with the
-- byte that it stops at they cannot. Two exact readings one after the other are exact. Assumes nothing.
use Prim.{Unit}
use mathlib.Core.Path.{◌≡◌, refl, sym, ap, subst, ◌∙◌}
use mathlib.Core.List.{List, ◌∷◌, ◌++◌, append_assoc}
use Prim.Native.Nat.{ℕ, ◌<◌, ◌≤◌}
use native.Mathlib.Omega.{arith}
use lib.ListN.{length, length-append}
use Rattle.rules.specs.SheetReading.{Read, got, stop, then}

module _ {A : Type 0} where
  -- sp: the spelling; Ok: the values that count; F: what may follow; P: the reading, with fuel
  module _ (sp : A → List ℕ) (Ok : A → Type 0) (P : ℕ → List ℕ → Read A) where
    pub record Fault (t rest : List ℕ) : Type 0 where
      pub before : List ℕ
      pub split : t ≡ before ++ rest
      pub some : A
      pub valid : Ok some
      pub tail : List ℕ
      pub begins : sp some ≡ before ++ tail
      pub stops : (b : ℕ) (r : List ℕ) → rest ≡ b ∷ r → (m : ℕ) (y : List ℕ) → length (before ++ (b ∷ y)) < m → P m (before ++ (b ∷ y)) ≡ stop 600 (b ∷ y)

    module _ (F : A → List ℕ → Type 0) where
      pub data Out (t : List ℕ) (x : Read A) : Type 0 where
        reads : (a : A) (z : List ℕ) → x ≡ got a z → t ≡ sp a ++ z → Ok a → F a z → Out t x
        faults : (rest : List ℕ) → x ≡ stop 600 rest → Fault t rest → Out t x
        other : (k : ℕ) (rest : List ℕ) → x ≡ stop k rest → (k ≡ 600 → ⊥) → Out t x

      unfoldable pub Complete : Type 0
      Complete = (a : A) (z : List ℕ) (m : ℕ) → Ok a → F a z → length (sp a ++ z) < m → P m (sp a ++ z) ≡ got a z

-- nothing more is asked of what follows
abbrev pub Any : {A : Type 0} → A → List ℕ → Type 0
Any a z = Unit {0}

module _ {A B C : Type 0} (mk : A → B → C)
    (spA : A → List ℕ) (VA : A → Type 0) (P : ℕ → List ℕ → Read A) (FA : A → List ℕ → Type 0)
    (spB : B → List ℕ) (VB : B → Type 0) (Q : ℕ → List ℕ → Read B) (FB : B → List ℕ → Type 0)
    (spC : C → List ℕ) (VC : C → Type 0) (FC : C → List ℕ → Type 0) where
  -- one after the other
  abbrev pub both : ℕ → List ℕ → Read C
  both m t = then (P m t) (λ a t1. then (Q m t1) (λ b t2. got (mk a b) t2))

  pub record Joins : Type 0 where
    pub spell : (a : A) (b : B) → spC (mk a b) ≡ spA a ++ spB b
    pub valid : (a : A) (b : B) → VA a → VB b → VC (mk a b)
    pub after : (a : A) (b : B) (z : List ℕ) → FB b z → FC (mk a b) z
    pub next : (a : A) (b : B) (z : List ℕ) → VB b → FA a (spB b ++ z)
    pub keeps : (a : A) (p : List ℕ) (b : ℕ) (r y : List ℕ) → FA a (p ++ (b ∷ r)) → FA a (p ++ (b ∷ y))
    pub some : B
    pub good : VB some
    pub complete : Complete spA VA P FA

  module _ (j : Joins) where
    pub both_complete : Complete spB VB Q FB → (a : A) (b : B) (z : List ℕ) (m : ℕ) → VA a → VB b → FB b z → length (spC (mk a b) ++ z) < m
        → both m (spC (mk a b) ++ z) ≡ got (mk a b) z
    unfolding Complete then
    both_complete q a b z m va vb fb l =
        let e : spC (mk a b) ++ z ≡ spA a ++ (spB b ++ z) = ap (λ s. s ++ z) (j.spell a b) ∙ append_assoc (spA a) (spB b) z in
        let l' : length (spA a ++ (spB b ++ z)) < m = rw e at l in
        rw (e, j.complete a (spB b ++ z) m va (j.next a b z vb) l', q b z m vb fb (omega (arith, length-append (spA a) (spB b ++ z))))

    pub both_out : (n : ℕ) (t : List ℕ) → Out spA VA P FA t (P n t) → ((t1 : List ℕ) → length t1 ≤ length t → Out spB VB Q FB t1 (Q n t1))
        → Out spC VC both FC t (both n t)
    unfolding Complete then
    both_out n t (other k rest e h) q = other k rest (rw e) h
    both_out n t (faults rest e f) q = faults rest (rw e) (record {
      before = f.before;
      split = f.split;
      some = mk f.some j.some;
      valid = j.valid _ _ f.valid j.good;
      tail = f.tail ++ spB j.some;
      begins = j.spell _ _ ∙ ap (λ s. s ++ spB j.some) f.begins ∙ append_assoc f.before f.tail (spB j.some);
      stops = λ b r i m y l. rw (f.stops b r i m y l);
    })
    both_out n t (reads a t1 e s va fa) q = go (Q n t1) refl (q t1 (let i = ap length s in omega (arith, length-append (spA a) t1)))
      where
        second : {rest : List ℕ} (f : Fault spB VB Q t1 rest) (b : ℕ) (r : List ℕ) → rest ≡ b ∷ r → (m : ℕ) (y : List ℕ)
            → length ((spA a ++ f.before) ++ (b ∷ y)) < m
            → both m ((spA a ++ f.before) ++ (b ∷ y)) ≡ stop 600 (b ∷ y)
        second f b r h m y l =
            let c = append_assoc (spA a) f.before (b ∷ y) in
            let l' : length (spA a ++ (f.before ++ (b ∷ y))) < m = rw c at l in
            let fa' : FA a (f.before ++ (b ∷ r)) = subst (FA a) (f.split ∙ ap (λ x. f.before ++ x) h) fa in
            rw (
              c,
              j.complete a (f.before ++ (b ∷ y)) m va (j.keeps a f.before b r y fa') l',
              f.stops b r h m y
                  (omega (arith, length-append (spA a) (f.before ++ (b ∷ y)))),
            )

        go : (x : Read B) → Q n t1 ≡ x → Out spB VB Q FB t1 (Q n t1) → Out spC VC both FC t (both n t)
        go x i (reads b z g u vb fb) = reads (mk a b) z (rw (e, g))
            (s ∙ ap (λ l. spA a ++ l) u ∙ sym (append_assoc (spA a) (spB b) z) ∙ ap (λ l. l ++ z) (sym (j.spell a b))) (j.valid a b va vb) (j.after a b z fb)
        go x i (other k rest g h) = other k rest (rw (e, g)) h
        go x i (faults rest g f) = faults rest (rw (e, g)) (record {
          before = spA a ++ f.before;
          split = s ∙ ap (λ l. spA a ++ l) f.split ∙ sym (append_assoc (spA a) f.before rest);
          some = mk a f.some;
          valid = j.valid a f.some va f.valid;
          tail = f.tail;
          begins = j.spell a f.some ∙ ap (λ l. spA a ++ l) f.begins ∙ sym (append_assoc (spA a) f.before f.tail);
          stops = λ b r h m y l. second f b r h m y l;
        })

-- two readings that are the same are exact together
module _ {A : Type 0} (sp : A → List ℕ) (Ok : A → Type 0) (P P' : ℕ → List ℕ → Read A) (F : A → List ℕ → Type 0)
    (e : (m : ℕ) (t : List ℕ) → P m t ≡ P' m t) where
  pub same_complete : Complete sp Ok P F → Complete sp Ok P' F
  unfolding Complete
  same_complete c a z m v f l = sym (e m (sp a ++ z)) ∙ c a z m v f l

  pub same_out : (t : List ℕ) (x : Read A) → Out sp Ok P F t x → Out sp Ok P' F t x
  same_out t x (reads a z p s v f) = reads a z p s v f
  same_out t x (other k rest p h) = other k rest p h
  same_out t x (faults rest p f) = faults rest p (record {
    before = f.before;
    split = f.split;
    some = f.some;
    valid = f.valid;
    tail = f.tail;
    begins = f.begins;
    stops = λ b r h m y l. sym (e m (f.before ++ (b ∷ y))) ∙ f.stops b r h m y l;
  })

pub then_got : {A : Type 0} (x : Read A) → then x (λ a r. got a r) ≡ x
unfolding then
then_got (got a r) = refl
then_got (stop k r) = refl
