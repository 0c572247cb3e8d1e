-- Lists of items are read exactly. Assumes nothing.
use Prim.{tt}
use mathlib.Core.Path.{◌≡◌, refl, sym, ap, subst, ◌∙◌}
use mathlib.Core.Bool.{Bool, true, false}
use mathlib.Core.List.{List, [], ◌∷◌, ◌++◌, append_assoc}
use Prim.Native.Nat.{ℕ, zero, suc, ◌+◌, ◌*◌, ◌<◌, ◌≤◌}
use native.Mathlib.Omega.{arith}
use lib.IntN.{ℤ, pos}
use lib.ListN.{length, length-append}
use lib.Dec.{eqb}
use borrow.Author.Tests.{eqb-true, eqb-false}
use Rattle.rules.specs.Sheets.{Item, Items, whole, again, one, more, natural, decimal, signed, spell_item, spell_items, ValidItem, ValidItems}
use Rattle.rules.specs.SheetReading.{Read, got, stop, then, positive, number, form, item, items}
use Rattle.sheet_laws.proofs.Decimal.{Stops}
use Rattle.sheet_laws.proofs.Exact.{Fault, Out, reads, faults, other, Complete, Any, both, Joins, both_out}
use Rattle.sheet_laws.proofs.Words.{
  no_cons,
  Count,
  Ends,
  ends_keeps,
  Number,
  number_n,
  number_complete,
  number_out,
  spell_head,
  head_n,
  head_complete,
  head_out,
}
use Rattle.sheet_laws.proofs.Steps.{
  ItemEnds,
  stops_item,
  items_n,
  item_n,
  item_bytes,
  item_same,
  item_deep,
  item_opens,
  item_form,
  items_stop,
  items_one,
  items_more,
  items_end,
  items_other,
}

item_keeps : (it : Item) (p : List ℕ) (b : ℕ) (r y : List ℕ) → ItemEnds it (p ++ (b ∷ r)) → ItemEnds it (p ++ (b ∷ y))
unfolding ItemEnds
item_keeps (whole z) p b r y h = ends_keeps z p b r y h
item_keeps (again n items) p b r y h = tt

module _ (fits : ℕ → Bool) (opens : ℕ → Bool) (small : (d : ℕ) → d < 10 → fits d ≡ true) (shorter : (n d : ℕ) → fits (n * 10 + d) ≡ true → fits n ≡ true) where
  -- a bracket begins no number
  no_number : (t : List ℕ) (z : ℤ) (rest : List ℕ) → number fits (40 ∷ t) ≡ got z rest → ⊥
  unfolding number positive then
  no_number t z rest e = let w : ◌≡◌ {A = ℕ} 0 1 = cc in omega arith

  item_plain : (inner : List ℕ → Read Items) (d : ℕ) (t : List ℕ) (z : ℤ) (rest : List ℕ) → number fits t ≡ got z rest
      → item fits opens inner d t ≡ got (whole z) rest
  unfolding number item then
  item_plain inner d [] z rest e = let w : ◌≡◌ {A = ℕ} 0 1 = cc in absurd (omega arith)
  item_plain inner d (b ∷ t) z rest e = go (eqb b 40) refl
    where
      go : (x : Bool) → eqb b 40 ≡ x → item fits opens inner d (b ∷ t) ≡ got (whole z) rest
      go true i = absurd (no_number t z rest (subst (λ c. number fits (c ∷ t) ≡ got z rest) (eqb-true b 40 i) e))
      go false i = item_bytes fits opens inner d b t (eqb-false b 40 i) ∙ rw e

  -- ---- every spelling is read

  mutual
    unfolding ValidItem spell_item ItemEnds Stops then Complete Number

    pub item_complete : (it : Item) (d : ℕ) (z : List ℕ) (m : ℕ) → ValidItem fits opens it d → ItemEnds it z → length (spell_item it ++ z) < m
        → item_n fits opens d m (spell_item it ++ z) ≡ got it z
    item_complete (whole a) d z m v f l = item_plain _ d (signed a ++ z) a z (number_complete fits small shorter a z m v f l)
    item_complete (again n its) d z zero v f l = absurd (omega arith)
    item_complete (again n its) d z (suc m) v f l =
        let e : (natural n ++ (32 ∷ spell_items its)) ++ z ≡ (natural n ++ (32 ∷ [])) ++ (spell_items its ++ z) = simp append_assoc in
        let i : length ((natural n ++ (32 ∷ spell_items its)) ++ z) ≡ length (natural n ++ (32 ∷ [])) + length (spell_items its ++ z) =
        ap length e ∙ length-append (natural n ++ (32 ∷ [])) (spell_items its ++ z) in
        rw e (item_form fits opens _ d n (spell_head n ++ (spell_items its ++ z)) (spell_items its ++ z) v.0
        (head_complete n (spell_items its ++ z) (suc (length (spell_head n ++ (spell_items its ++ z)))) v.1 tt (omega arith))
        ∙ rw (items_complete its (suc d) z m v.2 (omega arith)))

    pub items_complete : (its : Items) (d : ℕ) (z : List ℕ) (m : ℕ) → ValidItems fits opens its d → length (spell_items its ++ z) < m
        → items_n fits opens d m (spell_items its ++ z) ≡ got its z
    items_complete (one it) d z zero v l = absurd (omega arith)
    items_complete (one it) d z (suc m) v l =
        let e : (spell_item it ++ (41 ∷ [])) ++ z ≡ spell_item it ++ (41 ∷ z) = append_assoc (spell_item it) (41 ∷ []) z in
        let l' : length (spell_item it ++ (41 ∷ z)) < suc m = rw e at l in
        rw e (items_one fits opens m d (spell_item it ++ (41 ∷ z)) it z (item_complete it d (41 ∷ z) (suc m) v (stops_item it (41 ∷ z) refl) l'))
    items_complete (more it its) d z zero v l = absurd (omega arith)
    items_complete (more it its) d z (suc m) v l =
        let e : (spell_item it ++ (32 ∷ spell_items its)) ++ z ≡ spell_item it ++ (32 ∷ (spell_items its ++ z)) =
        append_assoc (spell_item it) (32 ∷ spell_items its) z in
        let l' : length (spell_item it ++ (32 ∷ (spell_items its ++ z))) < suc m = rw e at l in
        let i = length-append (spell_item it) (32 ∷ (spell_items its ++ z)) in
        rw e (items_more fits opens m d (spell_item it ++ (32 ∷ (spell_items its ++ z))) it (spell_items its ++ z)
        (item_complete it d (32 ∷ (spell_items its ++ z)) (suc m) v.0 (stops_item it (32 ∷ (spell_items its ++ z)) refl) l')
        ∙ rw (items_complete its d z m v.1 (omega arith)))

  -- ---- what is read is a spelling, and a fault is where no spelling goes on

  abbrev pub ItemOut : ℕ → List ℕ → Read Item → Type 0
  ItemOut d t x = Out spell_item (λ it. ValidItem fits opens it d) (item_n fits opens d) ItemEnds t x

  abbrev pub ItemsOut : ℕ → List ℕ → Read Items → Type 0
  ItemsOut d t x = Out spell_items (λ its. ValidItems fits opens its d) (items_n fits opens d) Any t x

  -- a form after its bracket
  abbrev form_spelled : Item → List ℕ
  form_spelled (whole z) = []
  form_spelled (again n its) = spell_head n ++ spell_items its

  unfoldable FormOk : ℕ → Item → Type 0
  FormOk d (whole z) = ⊥
  FormOk d (again n its) = ((1 ≤ n) × (n ≤ 64)) × ValidItems fits opens its (suc d)

  form_joins : (d : ℕ)
      → Joins again spell_head Count head_n Any spell_items (λ its. ValidItems fits opens its (suc d)) (items_n fits opens (suc d)) Any
      form_spelled (FormOk d) Any
  unfolding FormOk ValidItem
  form_joins d = record {
    spell = λ n its. refl;
    valid = λ n its v w. (v, w);
    after = λ n its z f. tt;
    next = λ n its z v. tt;
    keeps = λ n p b r y h. tt;
    some = one (whole (pos 0));
    good = small 0 (omega arith);
    complete = head_complete;
  }

  abbrev form_n : ℕ → ℕ → List ℕ → Read Item
  form_n d =
      both again spell_head Count head_n Any spell_items (λ its. ValidItems fits opens its (suc d)) (items_n fits opens (suc d)) Any form_spelled (FormOk d) Any

  form_spelled_lem : (d : ℕ) (it : Item) → FormOk d it → opens d ≡ true
      → (spell_item it ≡ 40 ∷ form_spelled it) × ValidItem fits opens it d × ((z : List ℕ) → ItemEnds it z)
  unfolding FormOk ValidItem spell_item ItemEnds
  form_spelled_lem d (whole z) v o = absurd v
  form_spelled_lem d (again n its) v o = (ap (λ l. 40 ∷ l) (simp append_assoc), (o, v.0, v.1), λ z. tt)

  module _ (n d : ℕ) (t : List ℕ) where
    -- a number
    item_number : (b : ℕ) → (b ≡ 40 → ⊥) → Out signed (Number fits small shorter) (number_n fits small shorter) Ends (b ∷ t) (number fits (b ∷ t))
        → ItemOut d (b ∷ t) (item_n fits opens d (suc n) (b ∷ t))
    unfolding ValidItem spell_item ItemEnds Number then
    item_number b h (reads z rest e s v f) = reads (whole z) rest (item_bytes fits opens _ d b t h ∙ rw e) s v f
    item_number b h (other k rest e j) = other k rest (item_bytes fits opens _ d b t h ∙ rw e) j
    item_number b h (faults rest e f) = faults rest (item_bytes fits opens _ d b t h ∙ rw e) (record {
      before = f.before;
      split = f.split;
      some = whole f.some;
      valid = f.valid;
      tail = f.tail;
      begins = f.begins;
      stops = λ c r i m y l. item_same fits opens _ d b c t f.before r y h (f.split ∙ ap (λ x. f.before ++ x) i) ∙ rw (f.stops c r i m y l);
    })

    -- a form
    item_again : opens d ≡ true → Out form_spelled (FormOk d) (form_n d) Any t (form_n d n t) → ItemOut d (40 ∷ t) (item_n fits opens d (suc n) (40 ∷ t))
    unfolding form
    item_again o (reads it rest e s v f) =
        let w = form_spelled_lem d it v o in
        reads it rest (item_opens fits opens _ d t o ∙ e) (ap (λ x. 40 ∷ x) s ∙ ap (λ x. x ++ rest) (sym w.0)) w.1 (w.2 rest)
    item_again o (other k rest e h) = other k rest (item_opens fits opens _ d t o ∙ e) h
    item_again o (faults rest e f) =
        let w = form_spelled_lem d f.some f.valid o in
        faults rest (item_opens fits opens _ d t o ∙ e) (record {
          before = 40 ∷ f.before;
          split = ap (λ x. 40 ∷ x) f.split;
          some = f.some;
          valid = w.1;
          tail = f.tail;
          begins = w.0 ∙ ap (λ x. 40 ∷ x) f.begins;
          stops = λ c r i m y l. again_stops f.before c y (λ m l. f.stops c r i m y l) m l;
        })
      where
        again_stops : (p : List ℕ) (c : ℕ) (y : List ℕ) → ((m : ℕ) → length (p ++ (c ∷ y)) < m → form_n d m (p ++ (c ∷ y)) ≡ stop 600 (c ∷ y))
            → (m : ℕ) → length (40 ∷ (p ++ (c ∷ y))) < m → item_n fits opens d m (40 ∷ (p ++ (c ∷ y))) ≡ stop 600 (c ∷ y)
        again_stops p c y h zero l = absurd (omega arith)
        again_stops p c y h (suc m) l = item_opens fits opens _ d (p ++ (c ∷ y)) o ∙ h m (omega arith)

  pub item_out : (n d : ℕ) (t : List ℕ) → length t < suc n → ((e : ℕ) (r : List ℕ) → length r < n → ItemsOut e r (items_n fits opens e n r))
      → ItemOut d t (item_n fits opens d (suc n) t)
  unfolding item ValidItem spell_item signed natural decimal
  item_out n d [] l ih = faults [] refl (record {
    before = [];
    split = refl;
    some = whole (pos 0);
    valid = small 0 (omega arith);
    tail = natural 0;
    begins = refl;
    stops = λ b r e m y l. absurd (no_cons e);
  })
  item_out n d (b ∷ t) l ih = go (eqb b 40) refl (opens d) refl
    where
      go : (x : Bool) → eqb b 40 ≡ x → (y : Bool) → opens d ≡ y → ItemOut d (b ∷ t) (item_n fits opens d (suc n) (b ∷ t))
      go false i y o = item_number n d t b (eqb-false b 40 i) (number_out fits small shorter (b ∷ t))
      go true i false o = rw (eqb-true b 40 i) (other 601 (40 ∷ t) (item_deep fits opens _ d t o) (λ j. omega arith))
      go true i true o =
          rw (eqb-true b 40 i) (item_again n d t o
          (both_out again spell_head Count head_n Any spell_items (λ its. ValidItems fits opens its (suc d)) (items_n fits opens (suc d)) Any form_spelled
          (FormOk d) Any (form_joins d) n t (head_out t)
          (λ t1 k. ih (suc d) t1 (omega arith))))

  -- what follows an item
  module _ (n d : ℕ) (t : List ℕ) (it : Item) (v : ValidItem fits opens it d) where
    after_fault : (rest : List ℕ) → t ≡ spell_item it ++ rest
        → ((b : ℕ) (r : List ℕ) → rest ≡ b ∷ r → (m : ℕ) (y : List ℕ) → length (spell_item it ++ (b ∷ y)) < m
        → items_n fits opens d m (spell_item it ++ (b ∷ y)) ≡ stop 600 (b ∷ y))
        → Fault spell_items (λ its. ValidItems fits opens its d) (items_n fits opens d) t rest
    unfolding ValidItem spell_item
    after_fault rest s h = record { before = spell_item it; split = s; some = one it; valid = v; tail = 41 ∷ []; begins = refl; stops = h }

    other_stops : (c : ℕ) (z : List ℕ) → eqb c 41 ≡ false → eqb c 32 ≡ false → ItemEnds it (c ∷ z) → (b : ℕ) → c ≡ b
        → (m : ℕ) (y : List ℕ) → length (spell_item it ++ (b ∷ y)) < m → items_n fits opens d m (spell_item it ++ (b ∷ y)) ≡ stop 600 (b ∷ y)
    other_stops c z h k f b i zero y l = absurd (omega arith)
    other_stops c z h k f b i (suc m) y l =
        items_other fits opens m d (spell_item it ++ (b ∷ y)) it b y (ap (λ x. eqb x 41) (sym i) ∙ h) (ap (λ x. eqb x 32) (sym i) ∙ k)
        (item_complete it d (b ∷ y) (suc m) v (item_keeps it [] b z y (subst (λ x. ItemEnds it (x ∷ z)) i f)) l)

    more_stops : (p : List ℕ) (b : ℕ) (y : List ℕ) → ((m : ℕ) → length (p ++ (b ∷ y)) < m → items_n fits opens d m (p ++ (b ∷ y)) ≡ stop 600 (b ∷ y))
        → (m : ℕ) → length ((spell_item it ++ (32 ∷ p)) ++ (b ∷ y)) < m → items_n fits opens d m ((spell_item it ++ (32 ∷ p)) ++ (b ∷ y)) ≡ stop 600 (b ∷ y)
    unfolding Stops then
    more_stops p b y h zero l = absurd (omega arith)
    more_stops p b y h (suc m) l =
        let e = append_assoc (spell_item it) (32 ∷ p) (b ∷ y) in
        let l' : length (spell_item it ++ (32 ∷ (p ++ (b ∷ y)))) < suc m = rw e at l in
        let i = length-append (spell_item it) (32 ∷ (p ++ (b ∷ y))) in
        rw e (items_more fits opens m d (spell_item it ++ (32 ∷ (p ++ (b ∷ y)))) it (p ++ (b ∷ y))
        (item_complete it d (32 ∷ (p ++ (b ∷ y))) (suc m) v (stops_item it (32 ∷ (p ++ (b ∷ y))) refl) l')
        ∙ rw (h m (omega arith)))

    after_more : (z : List ℕ) → item_n fits opens d (suc n) t ≡ got it (32 ∷ z) → t ≡ spell_item it ++ (32 ∷ z) → ItemsOut d z (items_n fits opens d n z)
        → ItemsOut d t (items_n fits opens d (suc n) t)
    unfolding ValidItem spell_item then
    after_more z e s (reads its rest p q w f) =
        reads (more it its) rest (items_more fits opens n d t it z e ∙ rw p)
        (s ∙ ap (λ x. spell_item it ++ (32 ∷ x)) q ∙ sym (append_assoc (spell_item it) (32 ∷ spell_items its) rest)) (v, w) tt
    after_more z e s (other k rest p h) = other k rest (items_more fits opens n d t it z e ∙ rw p) h
    after_more z e s (faults rest p f) = faults rest (items_more fits opens n d t it z e ∙ rw p) (record {
      before = spell_item it ++ (32 ∷ f.before);
      split = s ∙ ap (λ x. spell_item it ++ (32 ∷ x)) f.split ∙ sym (append_assoc (spell_item it) (32 ∷ f.before) rest);
      some = more it f.some;
      valid = (v, f.valid);
      tail = f.tail;
      begins = ap (λ x. spell_item it ++ (32 ∷ x)) f.begins ∙ sym (append_assoc (spell_item it) (32 ∷ f.before) f.tail);
      stops = λ b r i m y l. more_stops f.before b y (λ m l. f.stops b r i m y l) m l;
    })

    after_out : (rest : List ℕ) → item_n fits opens d (suc n) t ≡ got it rest → t ≡ spell_item it ++ rest → ItemEnds it rest
        → ((z : List ℕ) → length z < length rest → ItemsOut d z (items_n fits opens d n z))
        → ItemsOut d t (items_n fits opens d (suc n) t)
    unfolding ValidItem spell_item
    after_out [] e s f ih = faults [] (items_end fits opens n d t it e) (after_fault [] s (λ b r i m y l. absurd (no_cons i)))
    after_out (c ∷ z) e s f ih = go (eqb c 41) refl (eqb c 32) refl
      where
        go : (x : Bool) → eqb c 41 ≡ x → (y : Bool) → eqb c 32 ≡ y → ItemsOut d t (items_n fits opens d (suc n) t)
        go true i y j =
            let k = eqb-true c 41 i in
            reads (one it) z (items_one fits opens n d t it z (e ∙ ap (λ x. got it (x ∷ z)) k))
            (s ∙ ap (λ x. spell_item it ++ (x ∷ z)) k ∙ sym (append_assoc (spell_item it) (41 ∷ []) z)) v tt
        go false i true j =
            let k = eqb-true c 32 j in
            after_more z (e ∙ ap (λ x. got it (x ∷ z)) k) (s ∙ ap (λ x. spell_item it ++ (x ∷ z)) k) (ih z (omega arith))
        go false i false j =
            faults (c ∷ z) (items_other fits opens n d t it c z i j e)
            (after_fault (c ∷ z) s (λ b r k m y l. let w : c ≡ b = cc in other_stops c z i j f b w m y l))

  first_fault : (d : ℕ) (t rest : List ℕ) → Fault spell_item (λ it. ValidItem fits opens it d) (item_n fits opens d) t rest
      → Fault spell_items (λ its. ValidItems fits opens its d) (items_n fits opens d) t rest
  unfolding ValidItem spell_item
  first_fault d t rest f = record {
    before = f.before;
    split = f.split;
    some = one f.some;
    valid = f.valid;
    tail = f.tail ++ (41 ∷ []);
    begins = ap (λ x. x ++ (41 ∷ [])) f.begins ∙ append_assoc f.before f.tail (41 ∷ []);
    stops = λ b r i m y l. step b y (λ m l. f.stops b r i m y l) m l;
  }
    where
      step : (b : ℕ) (y : List ℕ) → ((m : ℕ) → length (f.before ++ (b ∷ y)) < m → item_n fits opens d m (f.before ++ (b ∷ y)) ≡ stop 600 (b ∷ y))
          → (m : ℕ) → length (f.before ++ (b ∷ y)) < m → items_n fits opens d m (f.before ++ (b ∷ y)) ≡ stop 600 (b ∷ y)
      step b y h zero l = absurd (omega arith)
      step b y h (suc m) l = items_stop fits opens m d (f.before ++ (b ∷ y)) 600 (b ∷ y) (h (suc m) l)

  pub items_out : (n d : ℕ) (t : List ℕ) → length t < n → ItemsOut d t (items_n fits opens d n t)
  items_out zero d t l = absurd (omega arith)
  items_out (suc n) d t l = go (item_out n d t l (λ e r k. items_out n e r k)) (λ z k. items_out n d z k)
    where
      go : ItemOut d t (item_n fits opens d (suc n) t) → ((z : List ℕ) → length z < n → ItemsOut d z (items_n fits opens d n z))
          → ItemsOut d t (items_n fits opens d (suc n) t)
      go (reads it rest e s v f) ih = after_out n d t it v rest e s f (λ z k. ih z (let i = ap length s ∙ length-append (spell_item it) rest in omega arith))
      go (other k rest e h) ih = other k rest (items_stop fits opens n d t k rest e) h
      go (faults rest e f) ih = faults rest (items_stop fits opens n d t 600 rest e) (first_fault d t rest f)
