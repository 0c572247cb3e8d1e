-- The judge on the spelling of any sheet, nested or numbered without limit: it reads the sheet back where nothing is beyond the limits, and stops at the
-- first that is. Assumes nothing.
use Prim.{tt}
use mathlib.Core.Path.{◌≡◌, refl, sym, ap, subst, ◌∙◌}
use mathlib.Core.Bool.{Bool, true, false}
use mathlib.Core.List.{List, [], ◌∷◌, ◌++◌, append_assoc, append-nil}
use Prim.Native.Nat.{ℕ, zero, suc, ◌+◌, ◌-◌, ◌*◌, ◌/◌, ◌%◌, ◌^◌, ◌<◌, ◌≤◌}
use native.Mathlib.Omega.{arith}
use lib.IntN.{ℤ, pos, negsuc, nat_abs}
use lib.ListN.{length, length-append}
use borrow.Author.Tests.{leb-false}
use Rattle.rules.specs.Sheets.{
  bytes,
  Item,
  Items,
  whole,
  again,
  one,
  more,
  Axis,
  Axes,
  only,
  next,
  Range,
  range,
  Heading,
  heading,
  Sheet,
  sheet,
  decimal,
  natural,
  signed,
  spell_item,
  spell_items,
  spell_states,
  spell_axis,
  spell_axes,
  spell_range,
  spell_heading,
  spell_sheet,
  ValidItem,
  ValidItems,
  ValidStates,
  ValidAxis,
  ValidAxes,
  ValidHeading,
  ValidSheet,
  unlimited,
  within,
  below4,
  Free,
}
use Rattle.rules.specs.SheetReading.{
  Read,
  got,
  stop,
  then,
  positive,
  number,
  lead,
  pair,
  read_list,
  read_number,
  read_end,
  read_states,
  read_axis,
  read_axes,
  read_upper,
  read_range,
  read_heading,
  read_sheet,
  sheet_of,
}
use Rattle.rules.specs.SheetFaults.{
  Refusal,
  refusal,
  large,
  deep,
  beyond_item,
  beyond,
  beyond_states,
  beyond_axis,
  beyond_axes,
  beyond_heading,
  beyond_sheet,
}
use Rattle.sheet_laws.proofs.Decimal.{natural_tenth, is_digit_lem, first_bounds, Stops, digits_over, positive_reads}
use Rattle.sheet_laws.proofs.Exact.{Complete, Any, Joins}
use Rattle.sheet_laws.proofs.Words.{always, word_n, word_complete, Ends, Number, number_complete, spell_head, head_complete}
use Rattle.sheet_laws.proofs.Steps.{ItemEnds, stops_item, items_n, item_n, item_bytes, item_deep, item_form, items_stop, items_one, items_more}
use Rattle.sheet_laws.proofs.Limits.{within_small, within_shorter}
use Rattle.sheet_laws.proofs.LimitItems.{natural_first, plain_first}
use Rattle.sheet_laws.proofs.Whole.{
  axis_parts,
  range_parts,
  sheet_parts,
  states_parts,
  Last,
  led_list,
  led_number,
  end_spelled,
  upper_spelled,
  RangeOk,
  end-joins,
  states-joins,
  axis-joins,
  upper-joins,
  range-joins,
  heading-joins,
  heading_parts,
  sheet-joins,
  axes_end,
  axes_more,
  axes_stop,
  axes_first,
}

-- a is spelled at place p of a text, with t from there on and z after it; xs is what in it is beyond the limits: nothing, and x is a; or x stops with the
-- first, at its place
pub data Found {A : Type 0} (xs : List Refusal) (p : ℕ) (t : List ℕ) (a : A) (z : List ℕ) (x : Read A) : Type 0 where
  none : xs ≡ [] → x ≡ got a z → Found xs p t a z x
  first : (k q : ℕ) (ys : List Refusal) (r : List ℕ) → xs ≡ refusal k q ∷ ys → x ≡ stop k r → q + length r ≡ p + length t → Found xs p t a z x

-- sp: the spelling; Ok: the values that count; P: the reading; F: what may follow; far: what is beyond the limits in a value at a place
unfoldable pub Finds : {A : Type 0} → (A → List ℕ) → (A → Type 0) → (ℕ → List ℕ → Read A) → (A → List ℕ → Type 0) → (ℕ → A → List Refusal) → Type 0
Finds {A} sp Ok P F far =
    (a : A) (z : List ℕ) (m p : ℕ) → Ok a → F a z → length (sp a ++ z) < m → Found (far p a) p (sp a ++ z) a z (P m (sp a ++ z))

word_finds : (w : List ℕ) → Finds (λ u. w) always (word_n w) Any (λ p u. [])
unfolding Finds Complete
word_finds w u z m p v f l = none refl (word_complete w u z m v f l)

-- fixed bytes first
module _ {A : Type 0} (w : List ℕ) (sp : A → List ℕ) (Ok : A → Type 0) (P : ℕ → List ℕ → Read A) (F : A → List ℕ → Type 0) (far : ℕ → A → List Refusal) where
  lead_finds : Finds sp Ok P F far → Finds (λ a. w ++ sp a) Ok (lead w P) F (λ p a. far (p + length w) a)
  unfolding Finds Complete lead then
  lead_finds h a z m p v f l = go (h a z m (p + length w) v f (omega (arith, ap length e, length-append w (sp a ++ z))))
    where
      e : (w ++ sp a) ++ z ≡ w ++ (sp a ++ z)
      e = append_assoc w (sp a) z

      step : lead w P m ((w ++ sp a) ++ z) ≡ P m (sp a ++ z)
      step = rw (e, word_complete w tt (sp a ++ z) m tt tt (omega (arith, ap length e)))

      go : Found (far (p + length w) a) (p + length w) (sp a ++ z) a z (P m (sp a ++ z))
          → Found (far (p + length w) a) p ((w ++ sp a) ++ z) a z (lead w P m ((w ++ sp a) ++ z))
      go (none i j) = none i (step ∙ j)
      go (first k q ys r i j c) = first k q ys r i (step ∙ j) (omega (arith, ap length e, length-append w (sp a ++ z)))

-- one after the other; the joining facts are those of the reading without limits
module _ {A B C : Type 0} {mk : A → B → C}
    {spA : A → List ℕ} {VA : A → Type 0} {P' : ℕ → List ℕ → Read A} {FA : A → List ℕ → Type 0} (P : ℕ → List ℕ → Read A) (farA : ℕ → A → List Refusal)
    {spB : B → List ℕ} {VB : B → Type 0} {Q' : ℕ → List ℕ → Read B} {FB : B → List ℕ → Type 0} (Q : ℕ → List ℕ → Read B) (farB : ℕ → B → List Refusal)
    {spC : C → List ℕ} {VC : C → Type 0} {FC : C → List ℕ → Type 0} (farC : ℕ → C → List Refusal) where
  pair_finds : Joins mk spA VA P' FA spB VB Q' FB spC VC FC → Finds spA VA P FA farA → Finds spB VB Q FB farB
      → ((c : C) → VC c → (a : A) × (b : B) × (mk a b ≡ c) × VA a × VB b) → ((a : A) (b : B) (z : List ℕ) → FC (mk a b) z → FB b z)
      → ((a : A) (b : B) (p : ℕ) → farC p (mk a b) ≡ farA p a ++ farB (p + length (spA a)) b)
      → Finds spC VC (pair mk P Q) FC farC
  unfolding Finds then
  pair_finds j x y parts back far c z m p v f l = whole_found (parts c v)
    where
      both_found : (a : A) (b : B) → VA a → VB b → FB b z → length (spC (mk a b) ++ z) < m
          → Found (farC p (mk a b)) p (spC (mk a b) ++ z) (mk a b) z (pair mk P Q m (spC (mk a b) ++ z))
      both_found a b va vb fb l =
          go (x a (spB b ++ z) m p va (j.next a b z vb) (omega (arith, ap length e)))
          (y b z m (p + length (spA a)) vb fb (omega (arith, ap length e, length-append (spA a) (spB b ++ z))))
        where
          e : spC (mk a b) ++ z ≡ spA a ++ (spB b ++ z)
          e = ap (λ s. s ++ z) (j.spell a b) ∙ append_assoc (spA a) (spB b) z

          go : Found (farA p a) p (spA a ++ (spB b ++ z)) a (spB b ++ z) (P m (spA a ++ (spB b ++ z)))
              → Found (farB (p + length (spA a)) b) (p + length (spA a)) (spB b ++ z) b z (Q m (spB b ++ z))
              → Found (farC p (mk a b)) p (spC (mk a b) ++ z) (mk a b) z (pair mk P Q m (spC (mk a b) ++ z))
          go (first k q ys r h i n) w =
              first k q (ys ++ farB (p + length (spA a)) b) r (far a b p ∙ ap (λ s. s ++ farB (p + length (spA a)) b) h) (rw (e, i))
              (n ∙ ap (λ s. p + length s) (sym e))
          go (none h i) (none h' i') = none (far a b p ∙ ap (λ s. s ++ farB (p + length (spA a)) b) h ∙ h') (rw (e, i, i'))
          go (none h i) (first k q ys r h' i' n) =
              first k q ys r (far a b p ∙ ap (λ s. s ++ farB (p + length (spA a)) b) h ∙ h') (rw (e, i, i'))
              (omega (arith, ap length e, length-append (spA a) (spB b ++ z)))

      whole_found : ((a : A) × (b : B) × (mk a b ≡ c) × VA a × VB b) → Found (farC p c) p (spC c ++ z) c z (pair mk P Q m (spC c ++ z))
      whole_found w =
          subst (λ d. Found (farC p d) p (spC d ++ z) d z (pair mk P Q m (spC d ++ z))) w.2
          (both_found w.0 w.1 w.3 w.4 (back w.0 w.1 z (subst (λ d. FC d z) (sym w.2) f))
          (subst (λ d. length (spC d ++ z) < m) (sym w.2) l))

-- ---- numbers

positive_beyond : (f v : ℕ) → v < f → within v ≡ false → (s z : List ℕ) → positive within (λ r. stop 4 s) (natural v ++ z) ≡ stop 4 s
positive_beyond zero v l h s z = absurd (omega arith)
positive_beyond (suc f) v l h s z =
    let big = leb-false v (2 ^ 40) h in
    go (within (v / 10)) refl (λ i y. positive_beyond f (v / 10) (omega arith) i s y)
  where
    go : (b : Bool) → within (v / 10) ≡ b
        → (within (v / 10) ≡ false → (y : List ℕ) → positive within (λ r. stop 4 s) (natural (v / 10) ++ y) ≡ stop 4 s)
        → positive within (λ r. stop 4 s) (natural v ++ z) ≡ stop 4 s
    go b j r =
        let big = leb-false v (2 ^ 40) h in
        ap (λ l. positive within (λ r. stop 4 s) (l ++ z)) (natural_tenth v (omega arith))
        ∙ ap (positive within (λ r. stop 4 s)) (append_assoc (natural (v / 10)) ((48 + v % 10) ∷ []) z)
        ∙ on b j
      where
        on : (b : Bool) → within (v / 10) ≡ b → positive within (λ r. stop 4 s) (natural (v / 10) ++ ((48 + v % 10) ∷ z)) ≡ stop 4 s
        on false i = r i ((48 + v % 10) ∷ z)
        on true i =
            let big = leb-false v (2 ^ 40) h in
            let c : v / 10 * 10 + (48 + v % 10 - 48) ≡ v = omega arith in
            positive_reads within (λ r. stop 4 s) within_shorter (v / 10) (omega arith) i ((48 + v % 10) ∷ z)
            ∙ digits_over within (λ r. stop 4 s) (v / 10) (48 + v % 10) z (is_digit_lem (48 + v % 10) (omega arith) (omega arith)) (ap within c ∙ h)

number_beyond : (a : ℤ) (z : List ℕ) → within (nat_abs a) ≡ false → number within (signed a ++ z) ≡ stop 4 (signed a ++ z)
unfolding signed number then
number_beyond (pos zero) z e = absurd (omega (arith, leb-false 0 (2 ^ 40) e))
number_beyond (pos (suc n)) z e =
    let x = natural_first (suc n) (omega arith) in
    let i = ap (λ l. l ++ z) x.2 in
    ap (number within) i ∙ plain_first within x.0 (x.1 ++ z) x.3
    ∙ rw (← i) (rw (positive_beyond (suc (suc n)) (suc n) (omega arith) e (natural (suc n) ++ z) z))
number_beyond (negsuc n) z e = rw (positive_beyond (suc (suc n)) (suc n) (omega arith) e (45 ∷ (natural (suc n) ++ z)) z)

number_finds : Finds signed (λ z. unlimited (nat_abs z) ≡ true) (read_number within below4) Ends large
unfolding Finds Number large Complete
number_finds a z m p v f l = go (within (nat_abs a)) refl
  where
    go : (b : Bool) → within (nat_abs a) ≡ b → Found (large p a) p (signed a ++ z) a z (number within (signed a ++ z))
    go true e = none (rw (e, large)) (number_complete within within_small within_shorter a z m e f l)
    go false e = first 4 p [] (signed a ++ z) (rw (e, large)) (number_beyond a z e) refl

-- ---- items and lists

-- a number begins with no bracket
signed_first : (a : ℤ) → (b : ℕ) × (r : List ℕ) × (signed a ≡ b ∷ r) × (b ≡ 40 → ⊥)
unfolding signed natural decimal
signed_first (pos zero) = (48, [], refl, λ i. omega arith)
signed_first (pos (suc n)) = let x = natural_first (suc n) (omega arith) in (x.0, x.1, x.2, λ i. let j = first_bounds x.0 x.3 in omega arith)
signed_first (negsuc n) = (45, natural (suc n), refl, λ i. omega arith)

item_signed : (a : ℤ) (d m : ℕ) (z : List ℕ) → item_n within below4 d m (signed a ++ z) ≡ then (number within (signed a ++ z)) (λ b rest. got (whole b) rest)
item_signed a d m z = let x = signed_first a in rw x.2 (item_bytes within below4 _ d x.0 (x.1 ++ z) x.3)

abbrev FoundItem : ℕ → ℕ → Item → ℕ → List ℕ → Type 0
FoundItem d p it m z = Found (beyond_item d p it) p (spell_item it ++ z) it z (item_n within below4 d m (spell_item it ++ z))

abbrev FoundItems : ℕ → ℕ → Items → ℕ → List ℕ → Type 0
FoundItems d p its m z = Found (beyond d p its) p (spell_items its ++ z) its z (items_n within below4 d m (spell_items its ++ z))

whole_found : (a : ℤ) (d p m : ℕ) (z : List ℕ) → Found (large p a) p (signed a ++ z) a z (number within (signed a ++ z)) → FoundItem d p (whole a) m z
unfolding beyond_item spell_item then
whole_found a d p m z (none h i) = none h (item_signed a d m z ∙ rw i)
whole_found a d p m z (first k q ys r h i n) = first k q ys r h (item_signed a d m z ∙ rw i) n

module _ (n : ℕ) (its : Items) (d p m : ℕ) (z : List ℕ) where
  abbrev inside : ℕ
  inside = p + length (bytes "(again " ++ (natural n ++ bytes " "))

  again_spelled : spell_item (again n its) ++ z ≡ 40 ∷ (spell_head n ++ (spell_items its ++ z))
  unfolding spell_item
  again_spelled = ap (λ l. 40 ∷ l) (simp append_assoc)

  again_long : inside + length (spell_items its ++ z) ≡ p + length (spell_item (again n its) ++ z)
  again_long = let a = ap length again_spelled in let b = length-append (spell_head n) (spell_items its ++ z) in omega arith

  again_found : (1 ≤ n) × (n ≤ 64) → FoundItems (suc d) inside its m z → FoundItem d p (again n its) (suc m) z
  unfolding beyond_item deep Complete then
  again_found v w = go (below4 d) refl w
    where
      step : below4 d ≡ true
          → item_n within below4 d (suc m) (spell_item (again n its) ++ z)
          ≡ then (items_n within below4 (suc d) m (spell_items its ++ z)) (λ is t2. got (again n is) t2)
      step o = ap (item_n within below4 d (suc m)) again_spelled
          ∙ item_form within below4 _ d n (spell_head n ++ (spell_items its ++ z)) (spell_items its ++ z) o
          (head_complete n (spell_items its ++ z) (suc (length (spell_head n ++ (spell_items its ++ z)))) v tt (omega arith))

      go : (b : Bool) → below4 d ≡ b → FoundItems (suc d) inside its m z → FoundItem d p (again n its) (suc m) z
      go false o w =
          first 601 p (beyond (suc d) inside its) (spell_item (again n its) ++ z) (rw (o, deep))
          (ap (item_n within below4 d (suc m)) again_spelled ∙ item_deep within below4 _ d _ o ∙ ap (stop 601) (sym again_spelled)) refl
      go true o (none h i) = none (rw (o, deep) h) (step o ∙ rw i)
      go true o (first k q ys r h i c) = first k q ys r (rw (o, deep) h) (step o ∙ rw i) (c ∙ again_long)

module _ (it : Item) (d p m : ℕ) (z : List ℕ) where
  one_found : FoundItem d p it (suc m) (41 ∷ z) → FoundItems d p (one it) (suc m) z
  unfolding beyond spell_items
  one_found w = go w
    where
      e : (spell_item it ++ (41 ∷ [])) ++ z ≡ spell_item it ++ (41 ∷ z)
      e = append_assoc (spell_item it) (41 ∷ []) z

      go : FoundItem d p it (suc m) (41 ∷ z) → FoundItems d p (one it) (suc m) z
      go (none h i) = none h (ap (items_n within below4 d (suc m)) e ∙ items_one within below4 m d _ it z i)
      go (first k q ys r h i c) =
          first k q ys r h (ap (items_n within below4 d (suc m)) e ∙ items_stop within below4 m d _ k r i) (c ∙ ap (λ s. p + length s) (sym e))

  module _ (its : Items) where
    abbrev onward : ℕ
    onward = p + length (spell_item it ++ bytes " ")

    more_found : FoundItem d p it (suc m) (32 ∷ (spell_items its ++ z)) → FoundItems d onward its m z → FoundItems d p (more it its) (suc m) z
    unfolding beyond spell_items then
    more_found w u = go w u
      where
        e : (spell_item it ++ (32 ∷ spell_items its)) ++ z ≡ spell_item it ++ (32 ∷ (spell_items its ++ z))
        e = append_assoc (spell_item it) (32 ∷ spell_items its) z

        long : onward + length (spell_items its ++ z) ≡ p + length ((spell_item it ++ (32 ∷ spell_items its)) ++ z)
        long =
            let a = ap length e in
            let b = length-append (spell_item it) (32 ∷ (spell_items its ++ z)) in
            let c = length-append (spell_item it) (32 ∷ []) in
            omega arith

        go : FoundItem d p it (suc m) (32 ∷ (spell_items its ++ z)) → FoundItems d onward its m z → FoundItems d p (more it its) (suc m) z
        go (first k q ys r h i c) u =
            first k q (ys ++ beyond d onward its) r (ap (λ s. s ++ beyond d onward its) h)
            (ap (items_n within below4 d (suc m)) e ∙ items_stop within below4 m d _ k r i) (c ∙ ap (λ s. p + length s) (sym e))
        go (none h i) (none h' i') =
            none (ap (λ s. s ++ beyond d onward its) h ∙ h') (ap (items_n within below4 d (suc m)) e ∙ items_more within below4 m d _ it _ i ∙ rw i')
        go (none h i) (first k q ys r h' i' c) =
            first k q ys r (ap (λ s. s ++ beyond d onward its) h ∙ h')
            (ap (items_n within below4 d (suc m)) e ∙ items_more within below4 m d _ it _ i ∙ rw i') (c ∙ long)

mutual
  unfolding ValidItem spell_item ItemEnds Stops Finds

  item_finds : (it : Item) (d p m : ℕ) (z : List ℕ) → ValidItem unlimited unlimited it d → ItemEnds it z → length (spell_item it ++ z) < m
      → FoundItem d p it m z
  item_finds (whole a) d p m z v f l = whole_found a d p m z (number_finds a z m p v f l)
  item_finds (again n its) d p zero z v f l = absurd (omega arith)
  item_finds (again n its) d p (suc m) z v f l =
      let a = ap length (again_spelled n its d p m z) in
      let b = length-append (spell_head n) (spell_items its ++ z) in
      again_found n its d p m z v.1 (items_finds its (suc d) _ m z v.2 (omega arith))

  items_finds : (its : Items) (d p m : ℕ) (z : List ℕ) → ValidItems unlimited unlimited its d → length (spell_items its ++ z) < m → FoundItems d p its m z
  items_finds (one it) d p zero z v l = absurd (omega arith)
  items_finds (one it) d p (suc m) z v l =
      let a = ap length (append_assoc (spell_item it) (41 ∷ []) z) in
      one_found it d p m z (item_finds it d p (suc m) (41 ∷ z) v (stops_item it (41 ∷ z) refl) (omega arith))
  items_finds (more it its) d p zero z v l = absurd (omega arith)
  items_finds (more it its) d p (suc m) z v l =
      let a = ap length (append_assoc (spell_item it) (32 ∷ spell_items its) z) in
      let b = length-append (spell_item it) (32 ∷ (spell_items its ++ z)) in
      more_found it d p m z its (item_finds it d p (suc m) (32 ∷ (spell_items its ++ z)) v.0 (stops_item it (32 ∷ (spell_items its ++ z)) refl) (omega arith))
      (items_finds its d _ m z v.1 (omega arith))

-- ---- a whole sheet

abbrev no_limit : (d : ℕ) → d < 10 → unlimited d ≡ true
no_limit d h = refl

abbrev no_shorter : (n d : ℕ) → unlimited (n * 10 + d) ≡ true → unlimited n ≡ true
no_shorter n d h = refl

list_finds : (w : List ℕ)
    → Finds (led_list w) (λ its. ValidItems unlimited unlimited its 0) (lead w (read_list within below4)) Any (λ p its. beyond 0 (p + length w) its)
unfolding Finds
list_finds w =
    lead_finds w spell_items (λ its. ValidItems unlimited unlimited its 0) (read_list within below4) Any (λ p its. beyond 0 p its) lists
  where
    lists : Finds spell_items (λ its. ValidItems unlimited unlimited its 0) (read_list within below4) Any (λ p its. beyond 0 p its)
    lists its z m p v f l = items_finds its 0 p m z v l

numbers_finds : (w : List ℕ)
    → Finds (led_number w) (λ z. unlimited (nat_abs z) ≡ true) (lead w (read_number within below4)) Ends (λ p z. large (p + length w) z)
numbers_finds w = lead_finds w signed (λ z. unlimited (nat_abs z) ≡ true) (read_number within below4) Ends large number_finds

end_finds : Finds end_spelled (λ its. ValidItems unlimited unlimited its 0) (read_end within below4) Any (λ p e. beyond 0 (p + length (bytes " (end ")) e)
unfolding read_end
end_finds =
    pair_finds _ _ _ _ _ (end-joins unlimited unlimited no_limit no_shorter) (list_finds (bytes " (end ")) (word_finds (bytes ")\n"))
    (λ c v. (c, tt, refl, v, tt)) (λ a b z f. tt) (λ e u p. sym (append-nil (beyond 0 (p + length (bytes " (end ")) e)))

states_finds : Finds spell_states (ValidStates unlimited unlimited) (read_states within below4) Any beyond_states
unfolding read_states ValidStates beyond_states
states_finds =
    pair_finds _ _ _ _ _ (states-joins unlimited unlimited no_limit no_shorter) (list_finds (bytes " (start ")) end_finds
    (states_parts unlimited unlimited no_limit no_shorter) (λ a b z f. tt)
    (λ s e p. ap (λ q. beyond 0 (p + length (bytes " (start ")) s ++ beyond 0 q e) (omega (arith, length-append (spell_items s) (bytes " (end "))))

axis_finds : Finds spell_axis (ValidAxis unlimited unlimited) (read_axis within below4) Any beyond_axis
unfolding read_axis ValidAxis beyond_axis
axis_finds =
    pair_finds _ _ _ _ _ (axis-joins unlimited unlimited no_limit no_shorter) (list_finds (bytes "(axis (points ")) states_finds
    (axis_parts unlimited unlimited no_limit no_shorter) (λ a b z f. tt)
    (λ s e p. ap (λ q. beyond 0 (p + length (bytes "(axis (points ")) s ++ beyond_states q e) (omega arith))

abbrev FoundAxes : ℕ → ℕ → ℕ → Axes → Type 0
FoundAxes k m p axs = Found (beyond_axes p axs) p (spell_axes axs) axs [] (read_axes within below4 k m (spell_axes axs))

only_found : (a : Axis) (k m p : ℕ) → Found (beyond_axis p a) p (spell_axis a) a [] (read_axis within below4 m (spell_axis a)) → FoundAxes (suc k) m p (only a)
unfolding beyond_axes spell_axes
only_found a k m p (none h i) = none h (axes_end within below4 k m (spell_axis a) a i)
only_found a k m p (first j q ys r h i c) = first j q ys r h (axes_stop within below4 k m (spell_axis a) j r i) c

next_found : (a : Axis) (axs : Axes) (k m p : ℕ)
    → Found (beyond_axis p a) p (spell_axis a ++ spell_axes axs) a (spell_axes axs) (read_axis within below4 m (spell_axis a ++ spell_axes axs))
    → FoundAxes k m (p + length (spell_axis a)) axs → FoundAxes (suc k) m p (next a axs)
unfolding beyond_axes spell_axes then
next_found a axs k m p (first j q ys r h i c) w =
    first j q (ys ++ beyond_axes (p + length (spell_axis a)) axs) r (ap (λ s. s ++ beyond_axes (p + length (spell_axis a)) axs) h)
    (axes_stop within below4 k m (spell_axis a ++ spell_axes axs) j r i) c
next_found a axs k m p (none h i) w = go w
  where
    step : read_axes within below4 (suc k) m (spell_axis a ++ spell_axes axs) ≡ then (read_axes within below4 k m (spell_axes axs)) (λ cs z. got (next a cs) z)
    step =
        let x = axes_first axs in
        axes_more within below4 k m (spell_axis a ++ spell_axes axs) a x.0 x.1 (i ∙ ap (got a) x.2)
        ∙ ap (λ t. then (read_axes within below4 k m t) (λ cs z. got (next a cs) z)) (sym x.2)

    go : FoundAxes k m (p + length (spell_axis a)) axs → FoundAxes (suc k) m p (next a axs)
    go (none h' i') = none (ap (λ s. s ++ beyond_axes (p + length (spell_axis a)) axs) h ∙ h') (step ∙ rw i')
    go (first j q ys r h' i' c) =
        first j q ys r (ap (λ s. s ++ beyond_axes (p + length (spell_axis a)) axs) h ∙ h') (step ∙ rw i')
        (omega (arith, length-append (spell_axis a) (spell_axes axs)))

axes_found : (axs : Axes) (k m p : ℕ) → ValidAxes unlimited unlimited axs k → length (spell_axes axs) < m → FoundAxes k m p axs
unfolding ValidAxes spell_axes Finds
axes_found (only a) zero m p v l = absurd v
axes_found (only a) (suc k) m p v l =
    let e = append-nil (spell_axis a) in
    only_found a k m p (subst (λ t. Found (beyond_axis p a) p t a [] (read_axis within below4 m t)) e (axis_finds a [] m p v tt (omega (arith, ap length e))))
axes_found (next a axs) zero m p v l = absurd v
axes_found (next a axs) (suc k) m p v l =
    next_found a axs k m p (axis_finds a (spell_axes axs) m p v.0 tt l)
    (axes_found axs k m (p + length (spell_axis a)) v.1 (omega (arith, length-append (spell_axis a) (spell_axes axs))))

axes_finds : Finds spell_axes (λ axs. ValidAxes unlimited unlimited axs 8) (read_axes within below4 8) Last beyond_axes
unfolding Finds
axes_finds axs z m p v f l =
    let e = ap (λ x. spell_axes axs ++ x) f ∙ append-nil (spell_axes axs) in
    rw f (subst (λ t. Found (beyond_axes p axs) p t axs [] (read_axes within below4 8 m t)) (sym (append-nil (spell_axes axs)))
    (axes_found axs 8 m p v (omega (arith, ap length e))))

upper_finds : Finds upper_spelled (λ z. unlimited (nat_abs z) ≡ true) (read_upper within below4) Any (λ p z. large (p + length (bytes " ")) z)
unfolding read_upper
upper_finds =
    pair_finds _ _ _ _ _ (upper-joins unlimited unlimited no_limit no_shorter) (numbers_finds (bytes " ")) (word_finds (bytes ")\n"))
    (λ c v. (c, tt, refl, v, tt)) (λ a b z f. tt) (λ e u p. sym (append-nil (large (p + length (bytes " ")) e)))

-- what is beyond the limits in a range, and in a heading, at a place
unfoldable beyond_range : ℕ → Range → List Refusal
beyond_range p (range from to) = let a = p + length (bytes ")\n(range ") in large a from ++ large (a + length (signed from ++ bytes " ")) to

unfoldable beyond_from : ℕ → Heading → List Refusal
beyond_from p (heading order r) = large (p + length (bytes "(order ")) order ++ beyond_range (p + length (led_number (bytes "(order ") order)) r

unfoldable sheet_from : ℕ → Sheet → List Refusal
sheet_from p (sheet h axs) = beyond_from p h ++ beyond_axes (p + length (spell_heading h)) axs

range_finds : Finds spell_range (RangeOk unlimited unlimited no_limit no_shorter) (read_range within below4) Any beyond_range
unfolding read_range RangeOk beyond_range
range_finds =
    pair_finds _ _ _ _ _ (range-joins unlimited unlimited no_limit no_shorter) (numbers_finds (bytes ")\n(range ")) upper_finds
    (range_parts unlimited unlimited no_limit no_shorter) (λ a b z f. tt)
    (λ s e p. ap (λ q. large (p + length (bytes ")\n(range ")) s ++ large q e) (omega (arith, length-append (signed s) (bytes " "))))

heading_finds : Finds spell_heading (ValidHeading unlimited unlimited) (read_heading within below4) Any beyond_from
unfolding read_heading beyond_from
heading_finds =
    pair_finds _ _ _ _ _ (heading-joins unlimited unlimited no_limit no_shorter) (numbers_finds (bytes "(order ")) range_finds
    (heading_parts unlimited unlimited no_limit no_shorter) (λ a b z f. tt) (λ s e p. refl)

sheets_finds : Finds spell_sheet Free (read_sheet within below4) Last sheet_from
unfolding read_sheet ValidSheet sheet_from
sheets_finds =
    pair_finds _ _ _ _ _ (sheet-joins unlimited unlimited no_limit no_shorter) heading_finds axes_finds
    (sheet_parts unlimited unlimited no_limit no_shorter) (λ a b z f. f) (λ s e p. refl)

from_start : (s : Sheet) → sheet_from 0 s ≡ beyond_sheet s
unfolding sheet_from beyond_from beyond_range beyond_sheet beyond_heading
from_start (sheet (heading order (range from to)) axs) =
    let h = heading order (range from to) in
    let rest : ℕ → List Refusal = λ q. large q from ++ large (q + length (signed from ++ bytes " ")) to in
    let at : 0 + length (led_number (bytes "(order ") order) + length (bytes ")\n(range ")
    ≡ length (bytes "(order ") + length (signed order ++ bytes ")\n(range ") =
    omega (arith, length-append (signed order) (bytes ")\n(range ")) in
    let after : 0 + length (spell_heading h) ≡ length (spell_heading h) = omega arith in
    ap (λ q. (large 7 order ++ rest q) ++ beyond_axes (0 + length (spell_heading h)) axs) at
    ∙ ap (λ q. (large 7 order ++ rest (length (bytes "(order ") + length (signed order ++ bytes ")\n(range "))) ++ beyond_axes q axs) after

pub sheet_finds : (s : Sheet) → Free s → Found (beyond_sheet s) 0 (spell_sheet s) s [] (sheet_of (spell_sheet s))
unfolding Finds sheet_of
sheet_finds s v =
    let e = append-nil (spell_sheet s) in
    subst (λ t. Found (beyond_sheet s) 0 t s [] (read_sheet within below4 (suc (length (spell_sheet s))) t)) e
    (subst (λ xs. Found xs 0 (spell_sheet s ++ []) s [] (read_sheet within below4 (suc (length (spell_sheet s))) (spell_sheet s ++ []))) (from_start s)
    (sheets_finds s [] (suc (length (spell_sheet s))) 0 v refl (omega (arith, ap length e))))
