-- A whole sheet is read exactly, and read with limits beside the reading without. Assumes nothing.
use Prim.{Unit, tt}
use mathlib.Core.Path.{◌≡◌, refl, sym, ap, subst, ◌∙◌}
use mathlib.Core.Bool.{Bool, true}
use mathlib.Core.List.{List, [], ◌∷◌, ◌++◌, append_assoc, append-nil}
use Prim.Native.Nat.{ℕ, zero, suc, ◌+◌, ◌*◌, ◌<◌, ◌≤◌}
use native.Mathlib.Omega.{arith}
use lib.IntN.{ℤ, pos, nat_abs}
use lib.ListN.{length, drop, length-append}
use Rattle.rules.specs.Sheets.{
  bytes,
  Items,
  whole,
  one,
  States,
  states,
  Axis,
  axis,
  Axes,
  only,
  next,
  Range,
  range,
  Heading,
  heading,
  Sheet,
  sheet,
  signed,
  spell_items,
  spell_states,
  spell_axis,
  spell_axes,
  spell_range,
  spell_heading,
  spell_sheet,
  ValidItem,
  ValidItems,
  ValidStates,
  ValidAxis,
  ValidAxes,
  ValidHeading,
  ValidSheet,
  unlimited,
}
use Rattle.rules.specs.SheetReading.{
  Read,
  got,
  stop,
  then,
  word,
  lead,
  pair,
  read_list,
  read_number,
  read_end,
  read_states,
  read_axis,
  read_axes,
  read_upper,
  read_range,
  read_heading,
  read_sheet,
}
use Rattle.sheet_laws.proofs.Decimal.{Stops}
use Rattle.sheet_laws.proofs.Exact.{Fault, Out, reads, faults, other, Complete, Any, Joins, both_complete, both_out}
use Rattle.sheet_laws.proofs.Words.{always, word_n, word_complete, word_out, Ends, stops_ends, ends_keeps, Number, number_complete, number_out}
use Rattle.sheet_laws.proofs.Items.{items_complete, items_out}
use Rattle.sheet_laws.proofs.Short.{rest, then_short, word_short, number_short, items_short}
use Rattle.sheet_laws.proofs.Beside.{
  Short,
  ended,
  moved,
  Beside,
  agree,
  fail,
  limits,
  beside_self,
  word_fine,
  lead_beside,
  pair_beside,
  lead_short,
  pair_short,
}
use Rattle.sheet_laws.proofs.LimitItems.{number_beside, items_beside}

-- nothing follows
abbrev pub Last : {A : Type 0} → A → List ℕ → Type 0
Last a z = z ≡ []

-- a reading that is exact, at every text that its fuel covers, and the one without limits
module _ {A : Type 0} (sp : A → List ℕ) (Ok : A → Type 0) (P P' : ℕ → List ℕ → Read A) (F : A → List ℕ → Type 0) where
  pub record Exactly : Type 0 where
    pub all : Complete sp Ok P F
    pub out : (n : ℕ) (t : List ℕ) → length t < n → Out sp Ok P F t (P n t)
    pub short : Short P'
    pub beside : (n : ℕ) (t : List ℕ) → length t < n → Beside sp Ok P F t (P n t) (P' n t)

-- fixed bytes first
module _ {A : Type 0} (w : List ℕ) (sp : A → List ℕ) (Ok : A → Type 0) (P P' : ℕ → List ℕ → Read A) (F : A → List ℕ → Type 0) (some : A) (good : Ok some) where
  lead_stops : (m : ℕ) (t p : List ℕ) (b : ℕ) (y : List ℕ) → length ((w ++ p) ++ (b ∷ y)) < m
      → ((l : length (p ++ (b ∷ y)) < m) → P m (p ++ (b ∷ y)) ≡ stop 600 (b ∷ y))
      → lead w P m ((w ++ p) ++ (b ∷ y)) ≡ stop 600 (b ∷ y)
  unfolding lead then Complete
  lead_stops m t p b y l h =
      let e = append_assoc w p (b ∷ y) in
      let l' : length (w ++ (p ++ (b ∷ y))) < m = rw e at l in
      rw (e, word_complete w tt (p ++ (b ∷ y)) m tt tt l') (h (omega (arith, length-append w (p ++ (b ∷ y)))))

  pub lead_exact : Exactly sp Ok P P' F → Exactly (λ a. w ++ sp a) Ok (lead w P) (lead w P') F
  unfolding lead then Complete
  lead_exact x = record {
    all = λ a z m v f l.
        let e = append_assoc w (sp a) z in
        let l' : length (w ++ (sp a ++ z)) < m = rw e at l in
        rw (e, word_complete w tt (sp a ++ z) m tt tt l') (x.all a z m v f (omega (arith, length-append w (sp a ++ z))));
    out = λ n t l. go n t l (word_out w t);
    short = lead_short w P' x.short;
    beside = λ n t l. lead_beside w sp Ok P P' F n t (λ t1 k. x.beside n t1 (omega arith));
  }
    where
      go : (n : ℕ) (t : List ℕ) → length t < n → Out (λ u. w) always (word_n w) Any t (word w t) → Out (λ a. w ++ sp a) Ok (lead w P) F t (lead w P n t)
      go n t l (other k r e h) = other k r (rw e) h
      go n t l (faults r e f) = faults r (rw e) (record {
        before = f.before;
        split = f.split;
        some = some;
        valid = good;
        tail = f.tail ++ sp some;
        begins = ap (λ x. x ++ sp some) f.begins ∙ append_assoc f.before f.tail (sp some);
        stops = λ b s i m y k. rw (f.stops b s i m y k);
      })
      go n t l (reads u t1 e s v f) = on n t e s (x.out n t1 (let i = ap length s in omega (arith, length-append w t1)))
        where
          on : (n : ℕ) (t : List ℕ) → word w t ≡ got u t1 → t ≡ w ++ t1 → Out sp Ok P F t1 (P n t1) → Out (λ a. w ++ sp a) Ok (lead w P) F t (lead w P n t)
          on n t e s (reads a z p q v f) = reads a z (rw e p) (s ∙ ap (λ l. w ++ l) q ∙ sym (append_assoc w (sp a) z)) v f
          on n t e s (other k r p h) = other k r (rw e p) h
          on n t e s (faults r p f) = faults r (rw e p) (record {
            before = w ++ f.before;
            split = s ∙ ap (λ l. w ++ l) f.split ∙ sym (append_assoc w f.before r);
            some = f.some;
            valid = f.valid;
            tail = f.tail;
            begins = ap (λ l. w ++ l) f.begins ∙ sym (append_assoc w f.before f.tail);
            stops = λ b c i m y k. lead_stops m t f.before b y k (λ l. f.stops b c i m y l);
          })

-- one after the other
module _ {A B C : Type 0} {mk : A → B → C}
    {spA : A → List ℕ} {VA : A → Type 0} {P P' : ℕ → List ℕ → Read A} {FA : A → List ℕ → Type 0}
    {spB : B → List ℕ} {VB : B → Type 0} {Q Q' : ℕ → List ℕ → Read B} {FB : B → List ℕ → Type 0}
    {spC : C → List ℕ} {VC : C → Type 0} {FC : C → List ℕ → Type 0} where
  pub pair_exact : Joins mk spA VA P FA spB VB Q FB spC VC FC → Exactly spA VA P P' FA → Exactly spB VB Q Q' FB
      → ((c : C) → VC c → (a : A) × (b : B) × (mk a b ≡ c) × VA a × VB b) → ((a : A) (b : B) (z : List ℕ) → FC (mk a b) z → FB b z)
      → Exactly spC VC (pair mk P Q) (pair mk P' Q') FC
  unfolding Complete
  pair_exact j x y parts back = record {
    all = λ c z m v f l. whole_all c z m (parts c v) f l;
    out = λ n t l. both_out mk spA VA P FA spB VB Q FB spC VC FC j n t (x.out n t l) (λ t1 k. y.out n t1 (omega arith));
    short = pair_short mk P' Q' x.short y.short;
    beside = λ n t l. pair_beside mk spA VA P P' FA spB VB Q Q' FB spC VC FC j n t y.short (x.beside n t l) (λ t1 k. y.beside n t1 (omega arith));
  }
    where
      whole_all : (c : C) (z : List ℕ) (m : ℕ) → ((a : A) × (b : B) × (mk a b ≡ c) × VA a × VB b) → FC c z → length (spC c ++ z) < m
          → pair mk P Q m (spC c ++ z) ≡ got c z
      whole_all c z m p f l =
          subst (λ d. pair mk P Q m (spC d ++ z) ≡ got d z) p.2
          (both_complete mk spA VA P FA spB VB Q FB spC VC FC j y.all p.0 p.1 z m p.3 p.4
          (back p.0 p.1 z (subst (λ d. FC d z) (sym p.2) f)) (subst (λ d. length (spC d ++ z) < m) (sym p.2) l))

-- what joins two readings, where anything may follow the first; and where it is a number, which no digit may follow
module _ {A B C : Type 0} {mk : A → B → C} {spA : A → List ℕ} {VA : A → Type 0} {P : ℕ → List ℕ → Read A} {spB : B → List ℕ} {VB : B → Type 0}
    {Q : ℕ → List ℕ → Read B} {FB : B → List ℕ → Type 0} {spC : C → List ℕ} {VC : C → Type 0} {FC : C → List ℕ → Type 0} where
  any_joins : ((a : A) (b : B) → spC (mk a b) ≡ spA a ++ spB b) → ((a : A) (b : B) → VA a → VB b → VC (mk a b))
      → ((a : A) (b : B) (z : List ℕ) → FB b z → FC (mk a b) z) → (b : B) → VB b → Complete spA VA P Any → Joins mk spA VA P Any spB VB Q FB spC VC FC
  any_joins s v f b g c = record {
    spell = s;
    valid = v;
    after = f;
    next = λ a d z w. tt;
    keeps = λ a p d r y h. tt;
    some = b;
    good = g;
    complete = c;
  }

module _ {B C : Type 0} {mk : ℤ → B → C} {spA : ℤ → List ℕ} {VA : ℤ → Type 0} {P : ℕ → List ℕ → Read ℤ} {spB : B → List ℕ} {VB : B → Type 0}
    {Q : ℕ → List ℕ → Read B} {spC : C → List ℕ} {VC : C → Type 0} where
  number_joins : ((a : ℤ) (b : B) → spC (mk a b) ≡ spA a ++ spB b) → ((a : ℤ) (b : B) → VA a → VB b → VC (mk a b))
      → ((b : B) (z : List ℕ) → Stops (spB b ++ z)) → (b : B) → VB b → Complete spA VA P Ends → Joins mk spA VA P Ends spB VB Q Any spC VC Any
  number_joins s v f b g c = record {
    spell = s;
    valid = v;
    after = λ a d z h. tt;
    next = λ a d z w. stops_ends a (spB d ++ z) (f d z);
    keeps = ends_keeps;
    some = b;
    good = g;
    complete = c;
  }

-- a list, or a number, after fixed bytes
abbrev pub led_list : List ℕ → Items → List ℕ
led_list w its = w ++ spell_items its

abbrev pub led_number : List ℕ → ℤ → List ℕ
led_number w z = w ++ signed z

unfoldable pub end_spelled : Items → List ℕ
end_spelled e = led_list (bytes " (end ") e ++ bytes ")\n"

unfoldable pub upper_spelled : ℤ → List ℕ
upper_spelled z = led_number (bytes " ") z ++ bytes ")\n"

upper_first : (u : ℤ) (z : List ℕ) → Stops (upper_spelled u ++ z)
unfolding upper_spelled Stops
upper_first u z = refl

range_first : (u : Range) (z : List ℕ) → Stops (spell_range u ++ z)
unfolding spell_range Stops
range_first (range a u) z = refl

axis_first : (a : Axis) → (b : ℕ) × (r : List ℕ) × ((z : List ℕ) → spell_axis a ++ z ≡ b ∷ (r ++ z))
unfolding spell_axis
axis_first (axis p st) = (40, (drop 1 (bytes "(axis (points ") ++ spell_items p) ++ spell_states st, λ z. refl)

pub axes_first : (axs : Axes) → (b : ℕ) × (r : List ℕ) × (spell_axes axs ≡ b ∷ r)
unfolding spell_axes
axes_first (only a) = let x = axis_first a in (x.0, x.1 ++ [], sym (append-nil (spell_axis a)) ∙ x.2 [])
axes_first (next a axs) = let x = axis_first a in (x.0, x.1 ++ spell_axes axs, x.2 (spell_axes axs))

-- one step of the axes
module _ (fits : ℕ → Bool) (opens : ℕ → Bool) where
  module _ (k m : ℕ) (t : List ℕ) (a : Axis) where
    pub axes_end : read_axis fits opens m t ≡ got a [] → read_axes fits opens (suc k) m t ≡ got (only a) []
    unfolding read_axes then
    axes_end e = rw e

    pub axes_more : (b : ℕ) (r : List ℕ) → read_axis fits opens m t ≡ got a (b ∷ r)
        → read_axes fits opens (suc k) m t ≡ then (read_axes fits opens k m (b ∷ r)) (λ axs z. got (next a axs) z)
    unfolding read_axes then
    axes_more b r e = rw e

  pub axes_stop : (k m : ℕ) (t : List ℕ) (j : ℕ) (r : List ℕ) → read_axis fits opens m t ≡ stop j r → read_axes fits opens (suc k) m t ≡ stop j r
  unfolding read_axes then
  axes_stop k m t j r e = rw e

  pub axes_none : (m : ℕ) (t : List ℕ) → read_axes fits opens zero m t ≡ stop 600 t
  unfolding read_axes
  axes_none m t = refl

  pub axes_on : (k m : ℕ) (t : List ℕ) (a : Axis) (p : List ℕ) (c : ℕ) (y : List ℕ) → read_axis fits opens m t ≡ got a (p ++ (c ∷ y))
      → read_axes fits opens (suc k) m t ≡ then (read_axes fits opens k m (p ++ (c ∷ y))) (λ axs z. got (next a axs) z)
  axes_on k m t a [] c y e = axes_more k m t a c y e
  axes_on k m t a (b ∷ p) c y e = axes_more k m t a b (p ++ (c ∷ y)) e

module _ (fits : ℕ → Bool) (opens : ℕ → Bool) (small : (d : ℕ) → d < 10 → fits d ≡ true) (shorter : (n d : ℕ) → fits (n * 10 + d) ≡ true → fits n ≡ true) where
  abbrev pub ListOk : Items → Type 0
  ListOk its = ValidItems fits opens its 0

  abbrev pub NumberOk : ℤ → Type 0
  NumberOk z = fits (nat_abs z) ≡ true

  abbrev StatesOk : States → Type 0
  StatesOk = ValidStates fits opens

  abbrev AxisOk : Axis → Type 0
  AxisOk = ValidAxis fits opens

  abbrev AxesOk : Axes → ℕ → Type 0
  AxesOk = ValidAxes fits opens

  abbrev HeadingOk : Heading → Type 0
  HeadingOk = ValidHeading fits opens

  abbrev SheetOk : Sheet → Type 0
  SheetOk = ValidSheet fits opens

  unfoldable pub RangeOk : Range → Type 0
  RangeOk (range from to) = NumberOk from × NumberOk to

  zero_ok : NumberOk (pos 0)
  zero_ok = small 0 (omega arith)

  nought : Items
  nought = one (whole (pos 0))

  nought_ok : ListOk nought
  unfolding nought ValidItem
  nought_ok = small 0 (omega arith)

  abbrev list_after : List ℕ → ℕ → List ℕ → Read Items
  list_after w = lead w (read_list fits opens)

  abbrev number_after : List ℕ → ℕ → List ℕ → Read ℤ
  number_after w = lead w (read_number fits opens)

  list_exact : Exactly spell_items ListOk (read_list fits opens) (read_list unlimited unlimited) Any
  unfolding Complete Short
  list_exact = record {
    all = λ its z m v f l. items_complete fits opens small shorter its 0 z m v l;
    out = λ n t l. items_out fits opens small shorter n 0 t l;
    short = λ n t. items_short unlimited unlimited n 0 t;
    beside = λ n t l. items_beside fits opens small shorter n 0 t l;
  }

  number_exact : Exactly signed NumberOk (read_number fits opens) (read_number unlimited unlimited) Ends
  unfolding Number Short
  number_exact = record {
    all = number_complete fits small shorter;
    out = λ n t l. number_out fits small shorter t;
    short = λ n t. number_short unlimited t;
    beside = λ n t l. number_beside fits small shorter t;
  }

  word_exact : (w : List ℕ) → Exactly (λ u. w) always (word_n w) (word_n w) Any
  unfolding Short
  word_exact w = record {
    all = word_complete w;
    out = λ n t l. word_out w t;
    short = λ n t. word_short w t;
    beside = λ n t l. beside_self (λ u. w) always (word_n w) Any t (word w t) (word_out w t) (word_fine w t);
  }

  list_after_lem : (w : List ℕ) → Exactly (led_list w) ListOk (list_after w) (lead w (read_list unlimited unlimited)) Any
  list_after_lem w = lead_exact w spell_items ListOk (read_list fits opens) (read_list unlimited unlimited) Any nought nought_ok list_exact

  number_after_lem : (w : List ℕ) → Exactly (led_number w) NumberOk (number_after w) (lead w (read_number unlimited unlimited)) Ends
  number_after_lem w = lead_exact w signed NumberOk (read_number fits opens) (read_number unlimited unlimited) Ends (pos 0) zero_ok number_exact

  -- ---- an axis

  pub end-joins :
      Joins {B = Unit {0}} (λ e u. e) (led_list (bytes " (end ")) ListOk (list_after (bytes " (end ")) Any (λ u. bytes ")\n") always (word_n (bytes ")\n")) Any
      end_spelled ListOk Any
  unfolding end_spelled
  end-joins = any_joins (λ e u. refl) (λ e u v w. v) (λ e u z f. tt) tt tt (list_after_lem (bytes " (end ")).all

  end_exact : Exactly end_spelled ListOk (read_end fits opens) (read_end unlimited unlimited) Any
  unfolding read_end
  end_exact = pair_exact end-joins (list_after_lem (bytes " (end ")) (word_exact (bytes ")\n")) (λ c v. (c, tt, refl, v, tt)) (λ a b z f. tt)

  pub states-joins :
      Joins states (led_list (bytes " (start ")) ListOk (list_after (bytes " (start ")) Any end_spelled ListOk (read_end fits opens) Any
      spell_states StatesOk Any
  unfolding spell_states end_spelled ValidStates
  states-joins = any_joins (λ s e. refl) (λ s e v w. (v, w)) (λ s e z f. tt) nought nought_ok (list_after_lem (bytes " (start ")).all

  pub states_parts : (c : States) → StatesOk c → (s e : Items) × (states s e ≡ c) × ListOk s × ListOk e
  unfolding ValidStates
  states_parts (states s e) v = (s, e, refl, v.0, v.1)

  states_exact : Exactly spell_states StatesOk (read_states fits opens) (read_states unlimited unlimited) Any
  unfolding read_states ValidStates
  states_exact =
      pair_exact states-joins (list_after_lem (bytes " (start ")) end_exact
      states_parts (λ a b z f. tt)

  plain_states : States
  plain_states = states nought nought

  plain_states_ok : StatesOk plain_states
  unfolding ValidStates plain_states
  plain_states_ok = (nought_ok, nought_ok)

  pub axis-joins :
      Joins axis (led_list (bytes "(axis (points ")) ListOk (list_after (bytes "(axis (points ")) Any spell_states StatesOk (read_states fits opens) Any
      spell_axis AxisOk Any
  unfolding spell_axis ValidAxis
  axis-joins = any_joins (λ p st. refl) (λ p st v w. (v, w)) (λ p st z f. tt) plain_states plain_states_ok (list_after_lem (bytes "(axis (points ")).all

  pub axis_parts : (c : Axis) → AxisOk c → (p : Items) × (st : States) × (axis p st ≡ c) × ListOk p × StatesOk st
  unfolding ValidAxis
  axis_parts (axis p st) v = (p, st, refl, v.0, v.1)

  pub axis_exact : Exactly spell_axis AxisOk (read_axis fits opens) (read_axis unlimited unlimited) Any
  unfolding read_axis ValidAxis
  axis_exact =
      pair_exact axis-joins (list_after_lem (bytes "(axis (points ")) states_exact
      axis_parts (λ a b z f. tt)

  -- ---- axes, to the end of the text

  axes_all : (axs : Axes) (k m : ℕ) → AxesOk axs k → length (spell_axes axs) < m → read_axes fits opens k m (spell_axes axs) ≡ got axs []
  unfolding ValidAxes spell_axes Complete then
  axes_all (only a) zero m v l = absurd v
  axes_all (only a) (suc k) m v l =
      axes_end fits opens k m (spell_axis a) a (let e = append-nil (spell_axis a) in rw e at (axis_exact.all a [] m v tt (omega (arith, ap length e))))
  axes_all (next a axs) zero m v l = absurd v
  axes_all (next a axs) (suc k) m v l =
      let x = axes_first axs in
      let e = axis_exact.all a (spell_axes axs) m v.0 tt l in
      axes_more fits opens k m (spell_axis a ++ spell_axes axs) a x.0 x.1 (e ∙ ap (got a) x.2)
      ∙ rw (← x.2) (rw (axes_all axs k m v.1 (omega (arith, length-append (spell_axis a) (spell_axes axs)))))

  abbrev AxesOut : ℕ → List ℕ → Read Axes → Type 0
  AxesOut k t x = Out spell_axes (λ axs. AxesOk axs k) (read_axes fits opens k) Last t x

  module _ (n : ℕ) (t : List ℕ) (a : Axis) (v : AxisOk a) (b : ℕ) (r : List ℕ)
      (e : read_axis fits opens n t ≡ got a (b ∷ r)) (s : t ≡ spell_axis a ++ (b ∷ r)) where
    -- a ninth axis, or whatever else stands where none may begin
    axes_full : AxesOut 1 t (read_axes fits opens 1 n t)
    unfolding ValidAxes spell_axes then Complete
    axes_full = faults (b ∷ r) (axes_more fits opens 0 n t a b r e ∙ rw (axes_none fits opens n (b ∷ r))) (record {
      before = spell_axis a;
      split = s;
      some = only a;
      valid = v;
      tail = [];
      begins = sym (append-nil (spell_axis a));
      stops = λ c q i m y l. axes_more fits opens 0 m (spell_axis a ++ (c ∷ y)) a c y (axis_exact.all a (c ∷ y) m v tt l) ∙ rw (axes_none fits opens m (c ∷ y));
    })

    axes_next : (k : ℕ) → AxesOut (suc k) (b ∷ r) (read_axes fits opens (suc k) n (b ∷ r)) → AxesOut (suc (suc k)) t (read_axes fits opens (suc (suc k)) n t)
    unfolding ValidAxes spell_axes then Complete
    axes_next k (reads axs z p q w g) =
        reads (next a axs) z (axes_more fits opens (suc k) n t a b r e ∙ rw p)
        (s ∙ ap (λ l. spell_axis a ++ l) q ∙ sym (append_assoc (spell_axis a) (spell_axes axs) z)) (v, w) g
    axes_next k (other j z p h) = other j z (axes_more fits opens (suc k) n t a b r e ∙ rw p) h
    axes_next k (faults z p f) = faults z (axes_more fits opens (suc k) n t a b r e ∙ rw p) (record {
      before = spell_axis a ++ f.before;
      split = s ∙ ap (λ l. spell_axis a ++ l) f.split ∙ sym (append_assoc (spell_axis a) f.before z);
      some = next a f.some;
      valid = (v, f.valid);
      tail = f.tail;
      begins = ap (λ l. spell_axis a ++ l) f.begins ∙ sym (append_assoc (spell_axis a) f.before f.tail);
      stops = λ c q i m y l.
          let g = append_assoc (spell_axis a) f.before (c ∷ y) in
          let l' : length (spell_axis a ++ (f.before ++ (c ∷ y))) < m = rw g at l in
          rw g (axes_on fits opens (suc k) m (spell_axis a ++ (f.before ++ (c ∷ y))) a f.before c y (axis_exact.all a (f.before ++ (c ∷ y)) m v tt l')
          ∙ rw (f.stops c q i m y (omega (arith, length-append (spell_axis a) (f.before ++ (c ∷ y))))));
    })

  axes_done : (k n : ℕ) (t : List ℕ) (a : Axis) → AxisOk a → read_axis fits opens n t ≡ got a [] → t ≡ spell_axis a ++ []
      → AxesOut (suc k) t (read_axes fits opens (suc k) n t)
  unfolding ValidAxes spell_axes
  axes_done k n t a v e s = reads (only a) [] (axes_end fits opens k n t a e) s v refl

  first_fault : (k : ℕ) (t z : List ℕ) → Fault spell_axis AxisOk (read_axis fits opens) t z
      → Fault spell_axes (λ axs. AxesOk axs (suc k)) (read_axes fits opens (suc k)) t z
  unfolding ValidAxes spell_axes
  first_fault k t z f = record {
    before = f.before;
    split = f.split;
    some = only f.some;
    valid = f.valid;
    tail = f.tail;
    begins = f.begins;
    stops = λ c q i m y l. axes_stop fits opens k m (f.before ++ (c ∷ y)) 600 (c ∷ y) (f.stops c q i m y l);
  }

  axes_out : (k n : ℕ) (t : List ℕ) → length t < n → AxesOut (suc k) t (read_axes fits opens (suc k) n t)
  axes_out zero n t l = go (axis_exact.out n t l)
    where
      go : Out spell_axis AxisOk (read_axis fits opens) Any t (read_axis fits opens n t) → AxesOut 1 t (read_axes fits opens 1 n t)
      go (reads a (b ∷ r) e s v f) = axes_full n t a v b r e s
      go (reads a [] e s v f) = axes_done zero n t a v e s
      go (other j z e h) = other j z (axes_stop fits opens zero n t j z e) h
      go (faults z e f) = faults z (axes_stop fits opens zero n t 600 z e) (first_fault zero t z f)
  axes_out (suc k) n t l = go (axis_exact.out n t l) (λ z h. axes_out k n z h)
    where
      go : Out spell_axis AxisOk (read_axis fits opens) Any t (read_axis fits opens n t)
          → ((z : List ℕ) → length z < n → AxesOut (suc k) z (read_axes fits opens (suc k) n z))
          → AxesOut (suc (suc k)) t (read_axes fits opens (suc (suc k)) n t)
      go (reads a (b ∷ r) e s v f) ih = axes_next n t a v b r e s k (ih (b ∷ r) (omega (arith, ap length s, length-append (spell_axis a) (b ∷ r))))
      go (reads a [] e s v f) ih = axes_done (suc k) n t a v e s
      go (other j z e h) ih = other j z (axes_stop fits opens (suc k) n t j z e) h
      go (faults z e f) ih = faults z (axes_stop fits opens (suc k) n t 600 z e) (first_fault (suc k) t z f)

  -- what is read of the axes after axis a, where r is left
  abbrev axes_rest : ℕ → ℕ → Axis → List ℕ → Read Axes
  axes_rest k m a r = elim r [
    | [] ↦ got (only a) []
    | b ∷ r1 ↦ then (read_axes unlimited unlimited k m (b ∷ r1)) (λ axes z. got (next a axes) z)
  ]

  rest_short : (k m : ℕ) → ((t : List ℕ) → length (rest (read_axes unlimited unlimited k m t)) ≤ length t) → (a : Axis) (r : List ℕ)
      → length (rest (axes_rest k m a r)) ≤ length r
  rest_short k m h a [] = omega arith
  rest_short k m h a (b ∷ r1) = then_short (length (b ∷ r1)) (read_axes unlimited unlimited k m (b ∷ r1)) _ (h (b ∷ r1)) (λ c s. omega arith)

  -- the axes do not end before their start
  axes_short : (k : ℕ) → Short (read_axes unlimited unlimited k)
  unfolding Short read_axes
  axes_short zero m t = omega arith
  axes_short (suc k) m t =
      then_short (length t) (read_axis unlimited unlimited m t) (axes_rest k m) (axis_exact.short m t) (rest_short k m (axes_short k m))

  abbrev AxesBeside : ℕ → ℕ → List ℕ → Type 0
  AxesBeside k n t = Beside spell_axes (λ axs. AxesOk axs k) (read_axes fits opens k) Last t (read_axes fits opens k n t) (read_axes unlimited unlimited k n t)

  axes_beside : (k n : ℕ) (t : List ℕ) → length t < n → AxesBeside k n t
  unfolding ValidAxes spell_axes read_axes then Complete Short
  axes_beside zero n t l = fail t (axes_none fits opens n t) (axes_none unlimited unlimited n t)
  axes_beside (suc k) n t l = go (axis_exact.beside n t l) (λ z h. axes_beside k n z h)
    where
      go : Beside spell_axis AxisOk (read_axis fits opens) Any t (read_axis fits opens n t) (read_axis unlimited unlimited n t)
          → ((z : List ℕ) → length z < n → AxesBeside k n z) → AxesBeside (suc k) n t
      go (fail z e i) ih = fail z (axes_stop fits opens k n t 600 z e) (axes_stop unlimited unlimited k n t 600 z i)
      go (limits x) ih =
          limits (moved x [] refl
          (then_short (length x.after) (read_axis unlimited unlimited n t) (axes_rest k n) x.further (rest_short k n (axes_short k n)))
          (λ m y q. axes_stop fits opens k m _ x.number _ (x.stops m y q)))
      go (agree a [] e i s v f) ih = agree (only a) [] (axes_end fits opens k n t a e) (axes_end unlimited unlimited k n t a i) s v refl
      go (agree a (b ∷ r) e i s v f) ih = on (ih (b ∷ r) (omega (arith, ap length s, length-append (spell_axis a) (b ∷ r))))
        where
          on : AxesBeside k n (b ∷ r) → AxesBeside (suc k) n t
          on (agree axs z p p' q w g) =
              agree (next a axs) z (axes_more fits opens k n t a b r e ∙ rw p) (axes_more unlimited unlimited k n t a b r i ∙ rw p')
              (s ∙ ap (λ l. spell_axis a ++ l) q ∙ sym (append_assoc (spell_axis a) (spell_axes axs) z)) (v, w) g
          on (fail z p p') = fail z (axes_more fits opens k n t a b r e ∙ rw p) (axes_more unlimited unlimited k n t a b r i ∙ rw p')
          on (limits x) =
              limits (moved x (spell_axis a) s
              (rw (axes_more unlimited unlimited k n t a b r i)
              (then_short (length x.after) (read_axes unlimited unlimited k n (b ∷ r)) _ x.further (λ c y. omega arith)))
              (λ m y q.
              axes_on fits opens k m (spell_axis a ++ ended x y) a x.before x.first (x.middle ++ y) (axis_exact.all a (ended x y) m v tt q)
              ∙ rw (x.stops m y (omega (arith, length-append (spell_axis a) (ended x y))))))

  axes_exact : Exactly spell_axes (λ axs. AxesOk axs 8) (read_axes fits opens 8) (read_axes unlimited unlimited 8) Last
  unfolding Complete
  axes_exact = record {
    all = λ axs z m v f l.
        let e = append-nil (spell_axes axs) in
        rw (f, e) (axes_all axs 8 m v (omega (arith, ap length e, ap (λ x. length (spell_axes axs ++ x)) f)));
    out = λ n t l. axes_out 7 n t l;
    short = axes_short 8;
    beside = λ n t l. axes_beside 8 n t l;
  }

  -- ---- the heading

  pub upper-joins :
      Joins {B = Unit {0}} (λ z u. z) (led_number (bytes " ")) NumberOk (number_after (bytes " ")) Ends (λ u. bytes ")\n") always (word_n (bytes ")\n")) Any
      upper_spelled NumberOk Any
  unfolding upper_spelled Stops
  upper-joins = number_joins (λ z u. refl) (λ z u v w. v) (λ u z. refl) tt tt (number_after_lem (bytes " ")).all

  upper_exact : Exactly upper_spelled NumberOk (read_upper fits opens) (read_upper unlimited unlimited) Any
  unfolding read_upper
  upper_exact = pair_exact upper-joins (number_after_lem (bytes " ")) (word_exact (bytes ")\n")) (λ c v. (c, tt, refl, v, tt)) (λ a b z f. tt)

  pub range-joins :
      Joins range (led_number (bytes ")\n(range ")) NumberOk (number_after (bytes ")\n(range ")) Ends upper_spelled NumberOk (read_upper fits opens) Any
      spell_range RangeOk Any
  unfolding spell_range RangeOk upper_spelled
  range-joins = number_joins (λ z u. refl) (λ z u v w. (v, w)) upper_first (pos 0) zero_ok (number_after_lem (bytes ")\n(range ")).all

  pub range_parts : (c : Range) → RangeOk c → (z u : ℤ) × (range z u ≡ c) × NumberOk z × NumberOk u
  unfolding RangeOk
  range_parts (range z u) v = (z, u, refl, v.0, v.1)

  range_exact : Exactly spell_range RangeOk (read_range fits opens) (read_range unlimited unlimited) Any
  unfolding read_range RangeOk
  range_exact =
      pair_exact range-joins (number_after_lem (bytes ")\n(range ")) upper_exact
      range_parts (λ a b z f. tt)

  plain_range : Range
  plain_range = range (pos 0) (pos 0)

  plain_range_ok : RangeOk plain_range
  unfolding RangeOk plain_range
  plain_range_ok = (zero_ok, zero_ok)

  heading_ok : (z : ℤ) (r : Range) → NumberOk z → RangeOk r → HeadingOk (heading z r)
  unfolding ValidHeading RangeOk
  heading_ok z (range from to) v w = (v, w.0, w.1)

  pub heading_parts : (h : Heading) → HeadingOk h → (z : ℤ) × (r : Range) × (heading z r ≡ h) × NumberOk z × RangeOk r
  unfolding ValidHeading RangeOk
  heading_parts (heading z (range from to)) v = (z, range from to, refl, v.0, (v.1, v.2))

  pub heading-joins :
      Joins heading (led_number (bytes "(order ")) NumberOk (number_after (bytes "(order ")) Ends spell_range RangeOk (read_range fits opens) Any
      spell_heading HeadingOk Any
  unfolding spell_heading
  heading-joins = number_joins (λ z u. refl) heading_ok range_first plain_range plain_range_ok (number_after_lem (bytes "(order ")).all

  heading_exact : Exactly spell_heading HeadingOk (read_heading fits opens) (read_heading unlimited unlimited) Any
  unfolding read_heading
  heading_exact = pair_exact heading-joins (number_after_lem (bytes "(order ")) range_exact heading_parts (λ a b z f. tt)

  -- ---- the sheet

  plain_axes : Axes
  plain_axes = only (axis nought plain_states)

  plain_axes_ok : AxesOk plain_axes 8
  unfolding ValidAxes ValidAxis plain_axes
  plain_axes_ok = (nought_ok, plain_states_ok)

  pub sheet-joins :
      Joins sheet spell_heading HeadingOk (read_heading fits opens) Any spell_axes (λ axs. AxesOk axs 8) (read_axes fits opens 8) Last spell_sheet SheetOk Last
  unfolding spell_sheet ValidSheet
  sheet-joins = any_joins (λ h axs. refl) (λ h axs v w. (v, w)) (λ h axs t f. f) plain_axes plain_axes_ok heading_exact.all

  pub sheet_parts : (c : Sheet) → SheetOk c → (h : Heading) × (axs : Axes) × (sheet h axs ≡ c) × HeadingOk h × AxesOk axs 8
  unfolding ValidSheet
  sheet_parts (sheet h axs) v = (h, axs, refl, v.0, v.1)

  pub sheet_exact : Exactly spell_sheet SheetOk (read_sheet fits opens) (read_sheet unlimited unlimited) Last
  unfolding read_sheet ValidSheet
  sheet_exact =
      pair_exact sheet-joins heading_exact axes_exact
      sheet_parts (λ a b z f. f)
