-- Numbers and lists of items, read with limits and without. Assumes nothing.
use Prim.{tt}
use mathlib.Core.Path.{◌≡◌, refl, sym, ap, subst, ◌∙◌}
use mathlib.Core.Bool.{Bool, true, false}
use mathlib.Core.List.{List, [], ◌∷◌, ◌++◌, append_assoc}
use Prim.Native.Nat.{ℕ, zero, suc, ◌+◌, ◌-◌, ◌*◌, ◌<◌, ◌≤◌}
use native.Mathlib.Omega.{arith}
use lib.IntN.{pos}
use lib.ListN.{length, length-append}
use lib.Dec.{eqb}
use borrow.Author.Tests.{le-leb, eqb-true, eqb-false, ne_eqb}
use Rattle.rules.specs.Sheets.{bytes, Item, whole, again, one, more, natural, signed, spell_item, spell_items, ValidItem, ValidItems, unlimited}
use Rattle.rules.specs.SheetReading.{
  Read,
  got,
  stop,
  then,
  word,
  is_digit,
  is_first,
  up_to64,
  digits,
  positive,
  number,
  count,
  head,
  form,
  item,
  items,
}
use Rattle.sheet_laws.proofs.Decimal.{Stops, first_bounds, digits_byte, digits_over, positive_reads, ended as finished, passed}
use Rattle.sheet_laws.proofs.Exact.{Out, reads, faults, other, Complete, Any}
use Rattle.sheet_laws.proofs.Words.{
  PositiveOut,
  none,
  some,
  positive_none,
  positive_out,
  Ends,
  Number,
  number_n,
  number_complete,
  number_out,
  Count,
  spell_head,
  head_n,
  head_complete,
  head_out,
}
use Rattle.sheet_laws.proofs.Steps.{
  ItemEnds,
  stops_item,
  items_n,
  item_n,
  item_bytes,
  item_same,
  item_deep,
  item_opens,
  item_form,
  items_stop,
  items_one,
  items_more,
  items_end,
  items_other,
}
use Rattle.sheet_laws.proofs.Items.{item_complete}
use Rattle.sheet_laws.proofs.Short.{rest, then_short, head_short, after_short, items_short}
use Rattle.sheet_laws.proofs.Beside.{Fine, fine_then, word_fine, Limit, from_limit, ended, moved, Beside, agree, fail, limits}

-- nothing is both
pub clash : {A : Type 0} {a : A} {k : ℕ} {r z : List ℕ} → ◌≡◌ {A = Read A} (got a r) (stop k z) → ⊥
clash e = let w : ◌≡◌ {A = ℕ} 0 1 = cc in omega arith

-- ---- digits

digits_short : (over : List ℕ → Read ℕ) (n : ℕ) (t : List ℕ) → length (rest (digits unlimited over n t)) ≤ length t
unfolding digits
digits_short over n [] = omega arith
digits_short over n (b ∷ t) = go (is_digit b) refl (digits_short over (n * 10 + (b - 48)) t)
  where
    go : (x : Bool) → is_digit b ≡ x → length (rest (digits unlimited over (n * 10 + (b - 48)) t)) ≤ length t
        → length (rest (digits unlimited over n (b ∷ t))) ≤ length (b ∷ t)
    go true e h = rw (e, digits) (omega arith)
    go false e h = rw (e, digits) (omega arith)

-- a number's first digit
pub natural_first : (v : ℕ) → 1 ≤ v → (c : ℕ) × (r : List ℕ) × (natural v ≡ c ∷ r) × (is_first c ≡ true)
unfolding positive digits
natural_first v h = go (natural v) refl
  where
    all : positive unlimited (λ r. stop 4 r) (natural v ++ []) ≡ got v []
    all = positive_reads unlimited (λ r. stop 4 r) (λ n d h. refl) v h refl []

    go : (x : List ℕ) → natural v ≡ x → (c : ℕ) × (r : List ℕ) × (natural v ≡ c ∷ r) × (is_first c ≡ true)
    go [] e = absurd (clash (sym all ∙ ap (λ x. positive unlimited (λ r. stop 4 r) (x ++ [])) e))
    go (c ∷ r) e = on (is_first c) refl
      where
        on : (b : Bool) → is_first c ≡ b → (c : ℕ) × (r : List ℕ) × (natural v ≡ c ∷ r) × (is_first c ≡ true)
        on true i = (c, r, e, i)
        on false i =
            absurd (clash (sym all ∙ ap (λ x. positive unlimited (λ r. stop 4 r) (x ++ [])) e ∙ positive_none unlimited (λ r. stop 4 r) c (r ++ []) i))

-- no positive number begins here
positive_no : (over : List ℕ → Read ℕ) (t : List ℕ) → ((c : ℕ) (r : List ℕ) → t ≡ c ∷ r → is_first c ≡ false) → positive unlimited over t ≡ stop 600 t
unfolding positive
positive_no over [] f = refl
positive_no over (c ∷ r) f = positive_none unlimited over c r (f c r refl)

-- ---- numbers

pub plain_first : (fits : ℕ → Bool) (b : ℕ) (t : List ℕ) → is_first b ≡ true
    → number fits (b ∷ t) ≡ then (positive fits (λ r. stop 4 (b ∷ t)) (b ∷ t)) (λ n rest. got (pos n) rest)
unfolding number
plain_first fits b t f = let i = first_bounds b f in rw (ne_eqb b 45 (λ j. omega arith), ne_eqb b 48 (λ j. omega arith), number)

module _ (fits : ℕ → Bool) (small : (d : ℕ) → d < 10 → fits d ≡ true) (shorter : (n d : ℕ) → fits (n * 10 + d) ≡ true → fits n ≡ true) where
  -- v, and a digit that takes it past the limit
  module _ (v c : ℕ) (h : 1 ≤ v) (k : fits v ≡ true) (d : is_digit c ≡ true) (big : fits (v * 10 + (c - 48)) ≡ false) where
    positive_passed : (s y : List ℕ) → positive fits (λ r. stop 4 s) ((natural v ++ (c ∷ [])) ++ y) ≡ stop 4 s
    positive_passed s y =
        ap (positive fits (λ r. stop 4 s)) (append_assoc (natural v) (c ∷ []) y)
        ∙ positive_reads fits (λ r. stop 4 s) shorter v h k (c ∷ y) ∙ digits_over fits (λ r. stop 4 s) v c y d big

    positive_further : (s z : List ℕ) → length (rest (positive unlimited (λ r. stop 4 s) (natural v ++ (c ∷ z)))) ≤ length z
    positive_further s z =
        rw (positive_reads unlimited (λ r. stop 4 s) (λ n d h. refl) v h refl (c ∷ z), digits_byte unlimited (λ r. stop 4 s) v c z d refl)
        (digits_short (λ r. stop 4 s) (v * 10 + (c - 48)) z)

    minus_limit : (z t : List ℕ) → t ≡ natural v ++ (c ∷ z) → Limit (number_n fits small shorter) (45 ∷ t) (rest (number unlimited (45 ∷ t)))
    unfolding number then
    minus_limit z t s = record {
      number = 4;
      limit = λ i. omega arith;
      before = [];
      first = 45;
      middle = natural v ++ (c ∷ []);
      after = z;
      split = ap (λ l. 45 ∷ l) (s ∙ sym (append_assoc (natural v) (c ∷ []) z));
      further = rw s (then_short (length z) (positive unlimited _ (natural v ++ (c ∷ z))) _ (positive_further _ z) (λ a y. omega arith));
      stops = λ m y l. rw (positive_passed (45 ∷ ((natural v ++ (c ∷ [])) ++ y)) y);
    }

    -- the number's first digit stands first
    plain_limit : (z t : List ℕ) → t ≡ natural v ++ (c ∷ z) → (b : ℕ) (r : List ℕ) → natural v ≡ b ∷ r → is_first b ≡ true
        → Limit (number_n fits small shorter) t (rest (number unlimited t))
    unfolding then
    plain_limit z t s b r e f = record {
      number = 4;
      limit = λ i. omega arith;
      before = [];
      first = b;
      middle = r ++ (c ∷ []);
      after = z;
      split = s ∙ sym (append_assoc (natural v) (c ∷ []) z) ∙ ap (λ l. (l ++ (c ∷ [])) ++ z) e;
      further = rw (s ∙ ap (λ l. l ++ (c ∷ z)) e, plain_first unlimited b (r ++ (c ∷ z)) f)
          (then_short (length z) (positive unlimited (λ q. stop 4 (b ∷ (r ++ (c ∷ z)))) (b ∷ (r ++ (c ∷ z)))) _
          (subst (λ l. length (rest (positive unlimited (λ q. stop 4 (b ∷ (r ++ (c ∷ z)))) l)) ≤ length z) (ap (λ l. l ++ (c ∷ z)) e) (positive_further _ z))
          (λ a y. omega arith));
      stops = λ m y l.
          let x = b ∷ ((r ++ (c ∷ [])) ++ y) in
          plain_first fits b ((r ++ (c ∷ [])) ++ y) f
          ∙ rw (subst (λ l. positive fits (λ q. stop 4 x) l ≡ stop 4 x) (ap (λ l. (l ++ (c ∷ [])) ++ y) e) (positive_passed x y));
    }

  abbrev NumberBeside : List ℕ → Type 0
  NumberBeside t = Beside signed (Number fits small shorter) (number_n fits small shorter) Ends t (number fits t) (number unlimited t)

  -- where the reading with limits stops
  number_stops : (t : List ℕ) (k : ℕ) (r : List ℕ) → number fits t ≡ stop k r → NumberBeside t
  unfolding number then
  number_stops [] k r e = fail [] refl refl
  number_stops (b ∷ t) k r e = go (eqb b 45) refl (eqb b 48) refl
    where
      minus : PositiveOut fits t (λ r. stop 4 (45 ∷ t)) (positive fits (λ r. stop 4 (45 ∷ t)) t) → number fits (45 ∷ t) ≡ stop k r → NumberBeside (45 ∷ t)
      minus (none p f) e = fail t (rw p) (rw (positive_no (λ r. stop 4 (45 ∷ t)) t f))
      minus (some (finished v z p s h f w)) e = absurd (clash (rw p at e))
      minus (some (passed v c z p s h f d big)) e = limits (minus_limit v c h f d big z t s)

      plain : eqb b 45 ≡ false → eqb b 48 ≡ false → PositiveOut fits (b ∷ t) (λ r. stop 4 (b ∷ t)) (positive fits (λ r. stop 4 (b ∷ t)) (b ∷ t))
          → then (positive fits (λ r. stop 4 (b ∷ t)) (b ∷ t)) (λ n rest. got (pos n) rest) ≡ stop k r → NumberBeside (b ∷ t)
      plain i j (none p f) e = fail (b ∷ t) (rw (i, j, number) (rw p)) (rw (i, j, number) (rw (positive_no (λ r. stop 4 (b ∷ t)) (b ∷ t) f)))
      plain i j (some (finished v z p s h f w)) e = absurd (clash (rw p at e))
      plain i j (some (passed v c z p s h f d big)) e =
          let x = natural_first v h in limits (plain_limit v c h f d big z (b ∷ t) s x.0 x.1 x.2 x.3)

      go : (x : Bool) → eqb b 45 ≡ x → (y : Bool) → eqb b 48 ≡ y → NumberBeside (b ∷ t)
      go true i y j =
          let w = sym (eqb-true b 45 i) in
          subst (λ a. NumberBeside (a ∷ t)) w
          (minus (positive_out fits (λ r. stop 4 (45 ∷ t)) small t) (subst (λ a. number fits (a ∷ t) ≡ stop k r) (sym w) e))
      go false i true j = absurd (clash (rw (i, j, number) at e))
      go false i false j = plain i j (positive_out fits (λ r. stop 4 (b ∷ t)) small (b ∷ t)) (rw (i, j, number) at e)

  pub number_beside : (t : List ℕ) → NumberBeside t
  unfolding Number Complete
  number_beside t = go (number_out fits small shorter t)
    where
      go : Out signed (Number fits small shorter) (number_n fits small shorter) Ends t (number fits t) → NumberBeside t
      go (reads a z e s v f) =
          agree a z e
          (ap (number unlimited) s ∙ number_complete unlimited (λ d h. refl) (λ n d h. refl) a z (suc (length (signed a ++ z))) refl f (omega arith)) s v f
      go (faults z e f) = number_stops t 600 z e
      go (other k z e n) = number_stops t k z e

-- ---- the head of a form has no limits

count_fine : (t : List ℕ) → Fine (count t)
unfolding Fine
count_fine t = go (positive_out up_to64 (λ r. stop 600 r) (λ d h. le-leb d 64 (omega arith)) t)
  where
    go : PositiveOut up_to64 t (λ r. stop 600 r) (count t) → Fine (count t)
    go (none e f) = rw e refl
    go (some (finished v z e s h k w)) = rw e tt
    go (some (passed v c z e s h k d big)) = rw e refl

head_fine : (t : List ℕ) → Fine (head t)
unfolding head Fine
head_fine t =
    fine_then (word (bytes "again ") t) _ (word_fine (bytes "again ") t) (λ u t1.
    fine_then (count t1) _ (count_fine t1) (λ n t2. fine_then (word (bytes " ") t2) _ (word_fine (bytes " ") t2) (λ u t3. tt)))

-- ---- items and lists

module _ (fits : ℕ → Bool) (opens : ℕ → Bool) (small : (d : ℕ) → d < 10 → fits d ≡ true) (shorter : (n d : ℕ) → fits (n * 10 + d) ≡ true → fits n ≡ true) where
  abbrev ItemBeside : ℕ → ℕ → List ℕ → Type 0
  ItemBeside n d t =
      Beside spell_item (λ it. ValidItem fits opens it d) (item_n fits opens d) ItemEnds t (item_n fits opens d n t) (item_n unlimited unlimited d n t)

  abbrev pub ItemsBeside : ℕ → ℕ → List ℕ → Type 0
  ItemsBeside n d t =
      Beside spell_items (λ its. ValidItems fits opens its d) (items_n fits opens d) Any t (items_n fits opens d n t) (items_n unlimited unlimited d n t)

  module _ (n d : ℕ) (t : List ℕ) where
    -- a number
    item_number : (b : ℕ) → (b ≡ 40 → ⊥)
        → Beside signed (Number fits small shorter) (number_n fits small shorter) Ends (b ∷ t) (number fits (b ∷ t)) (number unlimited (b ∷ t))
        → ItemBeside (suc n) d (b ∷ t)
    unfolding ValidItem spell_item ItemEnds Number then
    item_number b h (agree z r e i s v f) = agree (whole z) r (item_bytes fits opens _ d b t h ∙ rw e) (item_bytes unlimited unlimited _ d b t h ∙ rw i) s v f
    item_number b h (fail r e i) = fail r (item_bytes fits opens _ d b t h ∙ rw e) (item_bytes unlimited unlimited _ d b t h ∙ rw i)
    item_number b h (limits l) =
        limits (moved l [] refl
        (rw (item_bytes unlimited unlimited (λ r. items_n unlimited unlimited (suc d) n r) d b t h)
        (then_short (length l.after) (number unlimited (b ∷ t)) _ l.further (λ a y. omega arith)))
        (λ m y k. item_same fits opens _ d b l.first t l.before (l.middle ++ l.after) (l.middle ++ y) h l.split ∙ rw (l.stops m y k)))

    -- a bracket that may not open
    item_closed : opens d ≡ false → ItemBeside (suc n) d (40 ∷ t)
    unfolding form
    item_closed o = limits (record {
      number = 601;
      limit = λ i. omega arith;
      before = [];
      first = 40;
      middle = [];
      after = t;
      split = refl;
      further = rw (item_opens unlimited unlimited (λ r. items_n unlimited unlimited (suc d) n r) d t refl)
          (then_short (length t) (head t) _ (head_short t)
          (λ k z. then_short (length z) _ _ (items_short unlimited unlimited n (suc d) z) (λ a y. omega arith)));
      stops = λ m y k. item_deep fits opens _ d y o;
    })

    -- a form
    item_again : opens d ≡ true → Out spell_head Count head_n Any t (head t) → Fine (head t)
        → ((r : List ℕ) → length r ≤ length t → ItemsBeside n (suc d) r) → ItemBeside (suc n) d (40 ∷ t)
    unfolding form then Fine ValidItem spell_item ItemEnds Complete
    item_again o (other k r e c) h ih = absurd (c (subst Fine e h))
    item_again o (faults r e f) h ih = fail r (item_opens fits opens _ d t o ∙ rw e) (item_opens unlimited unlimited _ d t refl ∙ rw e)
    item_again o (reads k t1 e s v f) h ih = go (ih t1 (let j = ap length s in omega (arith, length-append (spell_head k) t1)))
      where
        inside : (l : Limit (items_n fits opens (suc d)) t1 (rest (items_n unlimited unlimited (suc d) n t1))) (m : ℕ) (y : List ℕ)
            → length ((40 ∷ spell_head k) ++ ended l y) < m → item_n fits opens d m ((40 ∷ spell_head k) ++ ended l y) ≡ stop l.number (from_limit l y)
        inside l zero y q = absurd (omega arith)
        inside l (suc m) y q =
            item_form fits opens _ d k (spell_head k ++ ended l y) (ended l y) o
            (head_complete k (ended l y) (suc (length (spell_head k ++ ended l y))) v tt (omega arith))
            ∙ rw (l.stops m y (omega (arith, length-append (spell_head k) (ended l y))))

        go : ItemsBeside n (suc d) t1 → ItemBeside (suc n) d (40 ∷ t)
        go (agree its z p p' c w g) =
            agree (again k its) z (item_form fits opens _ d k t t1 o e ∙ rw p) (item_form unlimited unlimited _ d k t t1 refl e ∙ rw p')
            (ap (λ l. 40 ∷ l) (s ∙ ap (λ l. spell_head k ++ l) c ∙ simp append_assoc)) (o, v, w) tt
        go (fail z p p') = fail z (item_form fits opens _ d k t t1 o e ∙ rw p) (item_form unlimited unlimited _ d k t t1 refl e ∙ rw p')
        go (limits l) =
            limits (moved l (40 ∷ spell_head k) (ap (λ x. 40 ∷ x) s)
            (rw (item_form unlimited unlimited (λ r. items_n unlimited unlimited (suc d) n r) d k t t1 refl e)
            (then_short (length l.after) (items_n unlimited unlimited (suc d) n t1) _ l.further (λ a y. omega arith)))
            (λ m y q. inside l m y q))

  item_beside : (n d : ℕ) (t : List ℕ) → length t < suc n → ((e : ℕ) (r : List ℕ) → length r < n → ItemsBeside n e r) → ItemBeside (suc n) d t
  unfolding item
  item_beside n d [] l ih = fail [] refl refl
  item_beside n d (b ∷ t) l ih = go (eqb b 40) refl (opens d) refl
    where
      go : (x : Bool) → eqb b 40 ≡ x → (y : Bool) → opens d ≡ y → ItemBeside (suc n) d (b ∷ t)
      go false i y o = item_number n d t b (eqb-false b 40 i) (number_beside fits small shorter (b ∷ t))
      go true i false o = rw (eqb-true b 40 i) (item_closed n d t o)
      go true i true o = rw (eqb-true b 40 i) (item_again n d t o (head_out t) (head_fine t) (λ r k. ih (suc d) r (omega arith)))

  -- what follows an item
  module _ (n d : ℕ) (t : List ℕ) (it : Item) (v : ValidItem fits opens it d) where
    more_beside : (z : List ℕ) → item_n fits opens d (suc n) t ≡ got it (32 ∷ z) → item_n unlimited unlimited d (suc n) t ≡ got it (32 ∷ z)
        → t ≡ spell_item it ++ (32 ∷ z) → ItemsBeside n d z → ItemsBeside (suc n) d t
    unfolding ValidItem spell_item then Stops
    more_beside z e i s (agree its r p p' q w g) =
        agree (more it its) r (items_more fits opens n d t it z e ∙ rw p) (items_more unlimited unlimited n d t it z i ∙ rw p')
        (s ∙ ap (λ x. spell_item it ++ (32 ∷ x)) q ∙ sym (append_assoc (spell_item it) (32 ∷ spell_items its) r)) (v, w) tt
    more_beside z e i s (fail r p p') = fail r (items_more fits opens n d t it z e ∙ rw p) (items_more unlimited unlimited n d t it z i ∙ rw p')
    more_beside z e i s (limits l) =
        limits (moved l (spell_item it ++ (32 ∷ [])) (s ∙ sym (append_assoc (spell_item it) (32 ∷ []) z))
        (rw (items_more unlimited unlimited n d t it z i)
        (then_short (length l.after) (items_n unlimited unlimited d n z) _ l.further (λ a y. omega arith)))
        (λ m y q. on m y q))
      where
        on : (m : ℕ) (y : List ℕ) → length ((spell_item it ++ (32 ∷ [])) ++ ended l y) < m
            → items_n fits opens d m ((spell_item it ++ (32 ∷ [])) ++ ended l y) ≡ stop l.number (from_limit l y)
        on zero y q = absurd (omega arith)
        on (suc m) y q =
            let x : List ℕ = 32 ∷ ended l y in
            let c = append_assoc (spell_item it) (32 ∷ []) (ended l y) in
            let q' : length (spell_item it ++ x) < suc m = rw c at q in
            let k = length-append (spell_item it) x in
            rw c (items_more fits opens m d (spell_item it ++ x) it (ended l y)
            (item_complete fits opens small shorter it d x (suc m) v (stops_item it x refl) q') ∙ rw (l.stops m y (omega arith)))

    after_beside : (r : List ℕ) → item_n fits opens d (suc n) t ≡ got it r → item_n unlimited unlimited d (suc n) t ≡ got it r → t ≡ spell_item it ++ r
        → ((z : List ℕ) → length z < length r → ItemsBeside n d z) → ItemsBeside (suc n) d t
    unfolding ValidItem spell_item
    after_beside [] e i s ih = fail [] (items_end fits opens n d t it e) (items_end unlimited unlimited n d t it i)
    after_beside (c ∷ z) e i s ih = go (eqb c 41) refl (eqb c 32) refl
      where
        go : (x : Bool) → eqb c 41 ≡ x → (y : Bool) → eqb c 32 ≡ y → ItemsBeside (suc n) d t
        go true p y q =
            let k = eqb-true c 41 p in
            let f = ap (λ x. got it (x ∷ z)) k in
            agree (one it) z (items_one fits opens n d t it z (e ∙ f)) (items_one unlimited unlimited n d t it z (i ∙ f))
            (s ∙ ap (λ x. spell_item it ++ (x ∷ z)) k ∙ sym (append_assoc (spell_item it) (41 ∷ []) z)) v tt
        go false p true q =
            let k = eqb-true c 32 q in
            let f = ap (λ x. got it (x ∷ z)) k in
            more_beside z (e ∙ f) (i ∙ f) (s ∙ ap (λ x. spell_item it ++ (x ∷ z)) k) (ih z (omega arith))
        go false p false q = fail (c ∷ z) (items_other fits opens n d t it c z p q e) (items_other unlimited unlimited n d t it c z p q i)

  pub items_beside : (n d : ℕ) (t : List ℕ) → length t < n → ItemsBeside n d t
  unfolding items
  items_beside zero d t l = absurd (omega arith)
  items_beside (suc n) d t l = go (item_beside n d t l (λ e r k. items_beside n e r k)) (λ z k. items_beside n d z k)
    where
      step : (l : Limit (item_n fits opens d) t (rest (item_n unlimited unlimited d (suc n) t))) (m : ℕ) (y : List ℕ) → length (ended l y) < m
          → items_n fits opens d m (ended l y) ≡ stop l.number (from_limit l y)
      step l zero y k = absurd (omega arith)
      step l (suc m) y k = items_stop fits opens m d _ l.number _ (l.stops (suc m) y k)

      go : ItemBeside (suc n) d t → ((z : List ℕ) → length z < n → ItemsBeside n d z) → ItemsBeside (suc n) d t
      go (agree it r e i s v f) ih = after_beside n d t it v r e i s (λ z k. ih z (let i = ap length s ∙ length-append (spell_item it) r in omega arith))
      go (fail r e i) ih = fail r (items_stop fits opens n d t 600 r e) (items_stop unlimited unlimited n d t 600 r i)
      go (limits x) ih =
          limits (moved x [] refl
          (then_short (length x.after) (item_n unlimited unlimited d (suc n) t) _ x.further
          (λ a z. after_short unlimited unlimited (λ r. items_n unlimited unlimited d n r) (λ r. items_short unlimited unlimited n d r) a z))
          (λ m y k. step x m y k))
