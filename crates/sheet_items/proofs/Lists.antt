-- The loop over the items of a list: what was read so far, and how it goes on with each item. Assumes nothing.
use mathlib.Core.Path.{◌≡◌, refl, sym, ap, ◌∙◌}
use mathlib.Core.Bool.{Bool, true, false, cond}
use mathlib.Core.List.{List, [], ◌++◌, append_assoc, append-nil}
use Prim.Native.Nat.{ℕ, ◌+◌, ◌-◌, ◌≤◌, ◌<◌, min}
use native.Mathlib.Omega.{arith}
use lib.IntN.{ℤ}
use lib.ListN.{length, take, drop, length-append, length-drop, length-take, take-append-drop}
use lib.Seq.{take_all}
use lib.Dec.{ltb}
use borrow.Author.Tests.{ltb-true, ltb-false, lt-ltb, le-ltb}
use Rattle.rules.specs.Sheets.{Item, Items, one, more, bytes, spell_item, within, below4}
use Rattle.rules.specs.SheetReading as reading
use Rattle.rules.specs.SheetFaults.{size_of}
use Rattle.rules.specs.SheetAnswers.{numbers, numbers_of}
use Rattle.sheet_laws.proofs.Exact.{then_got}
use Rattle.sheet_laws.proofs.Fuel.{list_is}
use Rattle.sheet_laws.proofs.Limits.{item_spelled}
use Rattle.sheet_puts.specs.Put.{put}
use Rattle.sheet_puts.proofs.Puts.{length-put, put_put}
use Rattle.sheet_items.specs.Says.{
  list_at,
  item_at,
  after_with,
  end_after,
  ItemTo,
  ItemStops,
  ListTo,
  ListStops,
  over_at,
  Following,
}
use Rattle.std.proofs.Common.{Ok, Err}
use Rattle.rules.specs.declared.SheetError.{SheetError}
use Rattle.sheet_items.proofs.Sizes.{item_size}

pub then_then : {A B C : Type 0} (x : reading.Read A) (f : A → B) (g : B → C)
    → reading.then (reading.then x (λ a r. reading.got (f a) r)) (λ b r. reading.got (g b) r) ≡ reading.then x (λ a r. reading.got (g (f a)) r)
unfolding reading.then
then_then (reading.got a r) f g = refl
then_then (reading.stop k r) f g = refl

-- an item is as long as its spelling
item_long : (text : List ℕ) (place next d : ℕ) (i : Item) → item_at d (drop place text) ≡ reading.got i (drop next text) → place < next → next ≤ length text
    → next ≡ place + length (spell_item i)
item_long text place next d i e h k =
    let s = (item_spelled d (drop place text) i (drop next text) e).0 in
    let l = ap length s ∙ length-append (spell_item i) (drop next text) in
    omega (arith, l, length-drop place text, length-drop next text)

-- a list that starts at a place, by its first item
module _ (text : List ℕ) (place d : ℕ) where
  abbrev from_here : reading.Read Items
  from_here = list_at d (drop place text)

  list_stops : (k : ℕ) (r : List ℕ) → item_at d (drop place text) ≡ reading.stop k r → from_here ≡ reading.stop k r
  unfolding reading.then
  list_stops k r e = list_is within below4 d (drop place text) ∙ rw e

  list_on : (i : Item) (next : ℕ) → item_at d (drop place text) ≡ reading.got i (drop next text)
      → from_here ≡ after_with (λ r. list_at d r) i (drop next text)
  unfolding reading.then
  list_on i next e = list_is within below4 d (drop place text) ∙ rw e

-- the item in which one number too many falls is the first, or a later one
pub over_here : (room place : ℕ) (i : Item) (items : Items) → ltb room (size_of i) ≡ true → over_at room place (more i items) ≡ place
unfolding over_at
over_here room place i items e = rw (e, over_at)

pub over_later : (room place : ℕ) (i : Item) (items : Items) → ltb room (size_of i) ≡ false
    → over_at room place (more i items) ≡ over_at (room - size_of i) (place + length (spell_item i ++ bytes " ")) items
unfolding over_at
over_later room place i items e = rw (e, over_at)

-- where too many numbers fell, after one item more
over_more : (room end last place over : ℕ) (i : Item) (items : Items) → last ≡ min room (end + length (numbers_of i)) → end ≤ room
    → cond (ltb end room) (over_at (room - end - 1) place (more i items)) over
    ≡ cond (ltb last room) (over_at (room - last - 1) (place + length (spell_item i ++ bytes " ")) items) (cond (ltb end room) place over)
over_more room end last place over i items e h = go (ltb end room) refl (ltb (room - end - 1) (size_of i)) refl
  where
    n : length (numbers_of i) ≡ size_of i
    n = item_size i

    go : (x : Bool) → ltb end room ≡ x → (y : Bool) → ltb (room - end - 1) (size_of i) ≡ y
        → cond (ltb end room) (over_at (room - end - 1) place (more i items)) over
        ≡ cond (ltb last room) (over_at (room - last - 1) (place + length (spell_item i ++ bytes " ")) items) (cond (ltb end room) place over)
    go false p y q = let w = ltb-false end room p in rw (p, le-ltb last room (omega (arith, e)))
    go true p true q = let w = ltb-true end room p in let v = ltb-true (room - end - 1) (size_of i) q in
        rw (p, over_here (room - end - 1) place i items q, le-ltb last room (omega (arith, e, n)))
    go true p false q =
        let w = ltb-true end room p in
        let v = ltb-false (room - end - 1) (size_of i) q in
        let m : room - end - 1 - size_of i ≡ room - last - 1 = omega (arith, e, n) in
        rw (p, over_later (room - end - 1) place i items q, lt-ltb last room (omega (arith, e, n)), m)

-- the items before a place are read, their numbers zs written; `pre` puts them before those that follow
pub record Sofar (text : List ℕ) (from d : ℕ) (out : List ℤ) (at place end over : ℕ) (held : List ℤ) : Type 0 where
  pub pre : Items → Items
  pub zs : List ℤ
  pub reads : list_at d (drop from text) ≡ reading.then (list_at d (drop place text)) (λ items rest. reading.got (pre items) rest)
  pub numbered : (items : Items) → numbers (pre items) ≡ zs ++ numbers items
  pub ends : end ≡ end_after out at zs
  pub holds : held ≡ put out at zs
  pub overs : at < length out → (items : Items)
      → over_at (length out - at - 1) from (pre items) ≡ cond (ltb end (length out)) (over_at (length out - end - 1) place items) over
  pub forward : from ≤ place
  pub inside : place ≤ length text

put_none : (out : List ℤ) (at : ℕ) → at ≤ length out → put out at [] ≡ out
unfolding put
put_none out at h =
    let n : at + 0 ≡ at = omega arith in
    rw (n, append-nil) (ap (λ l. l ++ drop at out) (take_all (length out) (take at out) (omega (arith, length-take at out))) ∙ take-append-drop at out)

module _ (text : List ℕ) (from d : ℕ) (out : List ℤ) (at : ℕ) (start : at ≤ length out) where
  -- before the first item
  pub at_start_lem : from ≤ length text → (over : ℕ) → Sofar text from d out at from at over out
  at_start_lem h over = record {
    pre = λ items. items;
    zs = [];
    reads = sym (then_got (list_at d (drop from text)));
    numbered = λ items. refl;
    ends = omega arith;
    holds = sym (put_none out at start);
    overs = λ l items. rw (lt-ltb at (length out) l);
    forward = omega arith;
    inside = h;
  }

  module _ (place end over : ℕ) (held : List ℤ) (s : Sofar text from d out at place end over held) where
    pub same_room : length held ≡ length out
    same_room = ap length s.holds ∙ length-put out at s.zs start

    -- an item is a fault
    pub stopped : (e : SheetError) → ItemStops text place d e → ListStops text from d e
    unfolding reading.then
    stopped e h = record { reads = s.reads ∙ rw (list_stops text place d _ _ h.reads); inside = h.inside }

    module _ (last next : ℕ) (now : List ℤ) (h : ItemTo text place d held end last next now) where
      -- the numbers with this item's
      more_numbers : (last ≡ end_after out at (s.zs ++ numbers_of h.it)) × (now ≡ put out at (s.zs ++ numbers_of h.it))
      more_numbers = (
        h.ends ∙ omega (arith, same_room, s.ends, length-append s.zs (numbers_of h.it)),
        h.holds ∙ rw (s.holds, s.ends) (put_put out at s.zs start (numbers_of h.it)),
      )

      goes_on : {x : reading.Read Items} → after_with (λ r. list_at d r) h.it (drop next text) ≡ x
          → list_at d (drop from text) ≡ reading.then x (λ items rest. reading.got (s.pre items) rest)
      goes_on e = s.reads ∙ ap (λ y. reading.then y (λ items rest. reading.got (s.pre items) rest)) (list_on text place d h.it next h.reads ∙ e)

      -- what follows it is a fault
      pub faulty : (after : ℕ) (e : SheetError) → Following text next after (Err e) → ListStops text from d e
      unfolding reading.then
      faulty after e f = record { reads = goes_on (f.1 _ h.it); inside = f.0 }

      module _ (over1 : ℕ) (o : over1 ≡ cond (ltb end (length held)) place over) where
        over_is : over1 ≡ cond (ltb end (length out)) place over
        over_is = o ∙ rw same_room

        -- it is the last
        pub closed : (after : ℕ) → Following text next after (Ok false) → ListTo text from d out at last after over1 now
        unfolding reading.then numbers over_at
        closed after f = record {
          items = s.pre (one h.it);
          reads = goes_on (f.2 _ h.it);
          forward = omega (arith, f.0, h.forward, s.forward);
          inside = f.1;
          ends = rw (s.numbered (one h.it)) more_numbers.0;
          holds = rw (s.numbered (one h.it)) more_numbers.1;
          overs = λ r. over_is ∙ sym (s.overs r (one h.it));
        }

        -- another follows
        pub one_more : (after : ℕ) → Following text next after (Ok true) → Sofar text from d out at after last over1 now
        unfolding numbers
        one_more after f = record {
          pre = λ items. s.pre (more h.it items);
          zs = s.zs ++ numbers_of h.it;
          reads = goes_on (f.2 _ h.it) ∙ then_then (list_at d (drop after text)) (λ items. more h.it items) s.pre;
          numbered = λ items. s.numbered (more h.it items) ∙ sym (append_assoc s.zs (numbers_of h.it) (numbers items));
          ends = more_numbers.0;
          holds = more_numbers.1;
          overs = λ r items.
              s.overs r (more h.it items)
              ∙ over_more (length out) end last place over h.it items (h.ends ∙ rw same_room) (omega (arith, s.ends))
              ∙ rw (over_is, place_is items);
          forward = omega (arith, f.0, h.forward, s.forward);
          inside = f.1;
        }
          where
            place_is : (items : Items) → place + length (spell_item h.it ++ bytes " ") ≡ after
            place_is items =
                omega (arith, f.0, item_long text place next d h.it h.reads h.forward h.inside, length-append (spell_item h.it) (bytes " "))
