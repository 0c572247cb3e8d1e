-- The first refusal for a size on an axis, and on those after it. Assumes nothing.
use mathlib.Core.Path.{◌≡◌, refl, sym, ap, ◌∙◌}
use mathlib.Core.Bool.{Bool, true, false, cond}
use mathlib.Core.List.{List, [], ◌∷◌, ◌++◌, append_assoc}
use Prim.Native.Nat.{ℕ, ◌+◌, ◌-◌, ◌≤◌}
use native.Mathlib.Omega.{arith}
use lib.IntN.{ℤ}
use lib.ListN.{length, length-append}
use lib.Dec.{leb, ltb, eqb}
use borrow.Author.Tests.{ltb-true, ltb-false, lt-ltb, le-ltb, le-leb, lt-leb, eqb-true}
use Rattle.std.proofs.Common.{Option, None, Some}
use Rattle.std.specs.Option.{option_or}
use Rattle.rules.specs.declared.PathError.TheVariants.{InvalidLength, InvalidShape}
use Rattle.rules.specs.declared.SheetError.{SheetError}
use Rattle.rules.specs.Sheets.{Item, Items, one, more, states, axis, bytes, spell_item, spell_items}
use Rattle.rules.specs.SheetFaults.{Refusal, refusal, size_of, size, over, unlike, state_sizes, axis_sizes}
use Rattle.sheet_items.specs.Says.{over_at}
use Rattle.sheet_items.proofs.Lists.{over_here, over_later}
use Rattle.sheet_sizes.specs.declared.AxisSizes.{AxisSizes}
use Rattle.sheet_axis.specs.Says.{ListIn, AxisTo}
use Rattle.sheet_reading.specs.declared.Count.{Count}
use Rattle.sheet_sizes.specs.Sizes.{first_fault}
use Rattle.sheet_axes.specs.Says.{first_of, said}

abbrev place_of : ℕ → ℕ → Option Refusal
place_of k place = Some (refusal k place)

-- the refusals for a list's size, by its first item
refused_here : (room place : ℕ) (i : Item) (items : Items) → ltb room (size_of i) ≡ true → over room place (more i items) ≡ refusal 2 place ∷ []
unfolding over
refused_here room place i items e = rw (e, over)

refused_later : (room place : ℕ) (i : Item) (items : Items) → ltb room (size_of i) ≡ false
    → over room place (more i items) ≡ over (room - size_of i) (place + length (spell_item i ++ bytes " ")) items
unfolding over
refused_later room place i items e = rw (e, over)

over_step : (room place : ℕ) (i : Item) (items : Items) (rest : List Refusal)
    → first_of (over (room - size_of i) (place + length (spell_item i ++ bytes " ")) items ++ rest)
    ≡ cond (ltb (room - size_of i) (size items)) (place_of 2 (over_at (room - size_of i) (place + length (spell_item i ++ bytes " ")) items)) (first_of rest)
    → first_of (over room place (more i items) ++ rest)
    ≡ cond (ltb room (size_of i + size items)) (place_of 2 (over_at room place (more i items))) (first_of rest)
over_step room place i items rest ih = go (ltb room (size_of i)) refl
  where
    far : ltb room (size_of i) ≡ false → ltb (room - size_of i) (size items) ≡ ltb room (size_of i + size items)
    far e = side (ltb (room - size_of i) (size items)) refl
      where
        m : size_of i ≤ room
        m = ltb-false room (size_of i) e

        side : (b : Bool) → ltb (room - size_of i) (size items) ≡ b → ltb (room - size_of i) (size items) ≡ ltb room (size_of i + size items)
        side true f = f ∙ sym (lt-ltb room (size_of i + size items) (let n = ltb-true (room - size_of i) (size items) f in omega (arith, m)))
        side false f = f ∙ sym (le-ltb room (size_of i + size items) (let n = ltb-false (room - size_of i) (size items) f in omega (arith, m)))

    go : (b : Bool) → ltb room (size_of i) ≡ b
        → first_of (over room place (more i items) ++ rest)
        ≡ cond (ltb room (size_of i + size items)) (place_of 2 (over_at room place (more i items))) (first_of rest)
    go true e =
        let m = ltb-true room (size_of i) e in
        rw (refused_here room place i items e, over_here room place i items e, lt-ltb room (size_of i + size items) (omega arith))
    go false e = rw (refused_later room place i items e, over_later room place i items e, ← far e) ih

-- 2 comes first where the list is too long
over_first : (room place : ℕ) (items : Items) (rest : List Refusal)
    → first_of (over room place items ++ rest) ≡ cond (ltb room (size items)) (place_of 2 (over_at room place items)) (first_of rest)
unfolding over size over_at
over_first room place (one i) rest = go (ltb room (size_of i)) refl
  where
    go : (b : Bool) → ltb room (size_of i) ≡ b
        → first_of (over room place (one i) ++ rest) ≡ cond (ltb room (size_of i)) (place_of 2 place) (first_of rest)
    go true e = rw (e, over)
    go false e = rw (e, over)
over_first room place (more i items) rest =
    over_step room place i items rest (over_first (room - size_of i) (place + length (spell_item i ++ bytes " ")) items rest)

unlike_first : (c place : ℕ) (p : Items) (rest : List Refusal)
    → first_of (unlike c place p ++ rest) ≡ cond (eqb (size p) c) (first_of rest) (place_of 3 (place + length (spell_items p) - 1))
unfolding unlike
unlike_first c place p rest = go (eqb (size p) c) refl
  where
    go : (b : Bool) → eqb (size p) c ≡ b
        → first_of (unlike c place p ++ rest) ≡ cond (eqb (size p) c) (first_of rest) (place_of 3 (place + length (spell_items p) - 1))
    go true e = rw (e, unlike)
    go false e = rw (e, unlike)

-- the first on an axis, or after it
module _ (c place : ℕ) (p s e : Items) (rest : List Refusal) where
  abbrev at_points : ℕ
  at_points = place + length (bytes "(axis (points ")

  abbrev at_start : ℕ
  at_start = at_points + length (spell_items p) + length (bytes " (start ")

  abbrev at_end : ℕ
  at_end = at_start + length (spell_items s ++ bytes " (end ")

  axis_first : first_of (axis_sizes c place (axis p (states s e)) ++ rest)
      ≡ cond (ltb 257 (size p)) (place_of 2 (over_at 257 at_points p))
      (cond (eqb (size p) c)
      (cond (ltb 3 (size s)) (place_of 2 (over_at 3 at_start s)) (cond (ltb 3 (size e)) (place_of 2 (over_at 3 at_end e)) (first_of rest)))
      (place_of 3 (at_points + length (spell_items p) - 1)))
  unfolding axis_sizes state_sizes
  axis_first =
      ap first_of (simp append_assoc)
      ∙ over_first 257 at_points p _
      ∙ ap (cond (ltb 257 (size p)) (place_of 2 (over_at 257 at_points p)))
      (unlike_first c at_points p _
      ∙ ap (λ x. cond (eqb (size p) c) x (place_of 3 (at_points + length (spell_items p) - 1)))
      (over_first 3 at_start s _ ∙ ap (cond (ltb 3 (size s)) (place_of 2 (over_at 3 at_start s))) (over_first 3 at_end e rest)))

-- a list in a buffer that is one longer than there is room for
module _ (place room : ℕ) (out : List ℤ) (items : Items) (count : Count) (after : List ℤ) (long : length out ≡ room + 1)
    (l : ListIn place out items count after) where
  -- the buffer is full exactly where there are too many numbers
  full : leb (room + 1) count.numbers ≡ ltb room (size items)
  full = go (ltb room (size items)) refl
    where
      go : (b : Bool) → ltb room (size items) ≡ b → leb (room + 1) count.numbers ≡ ltb room (size items)
      go true e = let n = ltb-true room (size items) e in le-leb (room + 1) count.numbers (omega (arith, l.counts, long)) ∙ sym e
      go false e = let n = ltb-false room (size items) e in lt-leb (room + 1) count.numbers (omega (arith, l.counts, long)) ∙ sym e

  over_is : count.over ≡ over_at room place items
  over_is = let z : length out - 1 ≡ room = omega (arith, long) in l.overs (omega (arith, long)) ∙ rw z

  pub exact : size items ≤ room → count.numbers ≡ size items
  exact h = omega (arith, l.counts, long)

-- a choice among refusals, or what comes after
abbrev chosen : (x y u v : Bool) (a b d e : ℕ) → Option Refusal → Option Refusal
chosen x y u v a b d e q = cond x (place_of 2 a) (cond y (cond u (place_of 2 b) (cond v (place_of 2 d) q)) (place_of 3 e))

choose : (x y u v : Bool) (a b d e : ℕ) (q : Option Refusal)
    → option_or (chosen x y u v a b d e (None)) q ≡ chosen x y u v a b d e q
choose true y u v a b d e q = refl
choose false false u v a b d e q = refl
choose false true true v a b d e q = refl
choose false true false true a b d e q = refl
choose false true false false a b d e q = refl

no_fault : (x y u v : Bool) (a b d e : ℕ) → chosen x y u v a b d e None ≡ None → (x ≡ false) × (y ≡ true) × (u ≡ false) × (v ≡ false)
no_fault true y u v a b d e h = cc
no_fault false false u v a b d e h = cc
no_fault false true true v a b d e h = cc
no_fault false true false true a b d e h = cc
no_fault false true false false a b d e h = (refl, refl, refl, refl)

-- the fault that is noted on an axis is that choice
abbrev length_at : Bool → ℕ → Option SheetError
length_at b place = cond b (Some (record { cause = InvalidLength; at = place })) None

noted : (x y u v : Bool) (a b d e : ℕ)
    → said (option_or (option_or (option_or (length_at x a) (cond y None (Some (record { cause = InvalidShape; at = e })))) (length_at u b)) (length_at v d))
    ≡ chosen x y u v a b d e None
noted true y u v a b d e = refl
noted false false u v a b d e = refl
noted false true true v a b d e = refl
noted false true false true a b d e = refl
noted false true false false a b d e = refl

fault_is : (z : AxisSizes) (count : ℕ) → said (first_fault z count)
    ≡ chosen (leb 258 z.points.numbers) (eqb z.points.numbers count) (leb 4 z.start.numbers) (leb 4 z.end.numbers) z.points.over z.start.over z.end.over
    z.close None
fault_is z count = noted (leb 258 z.points.numbers) (eqb z.points.numbers count) (leb 4 z.start.numbers) (leb 4 z.end.numbers) _ _ _ _

-- an axis that was read into buffers of 258, 4 and 4
module _ (text : List ℕ) (place : ℕ) (points start end : List ℤ) (lp : length points ≡ 258) (ls : length start ≡ 4) (le : length end ≡ 4) (z : AxisSizes)
    (next : ℕ) (a b d : List ℤ) (t : AxisTo text place points start end z next a b d) where
  in_points : leb 258 z.points.numbers ≡ ltb 257 (size t.pts)
  in_points = full _ 257 points t.pts z.points a lp t.points_in

  in_start : leb 4 z.start.numbers ≡ ltb 3 (size t.starts)
  in_start = full _ 3 start t.starts z.start b ls t.start_in

  in_end : leb 4 z.end.numbers ≡ ltb 3 (size t.ends)
  in_end = full _ 3 end t.ends z.end d le t.end_in

  -- what is left where there is no fault
  pub no_fault_means : (count : ℕ) → first_fault z count ≡ None
      → (size t.pts ≤ 257) × (z.points.numbers ≡ count) × (size t.starts ≤ 3) × (size t.ends ≤ 3)
  no_fault_means count h =
      let (p, q, s, e) = no_fault (leb 258 z.points.numbers) (eqb z.points.numbers count) (leb 4 z.start.numbers) (leb 4 z.end.numbers) _ _ _ _
      (sym (fault_is z count) ∙ ap said h) in (
        ltb-false 257 (size t.pts) (sym in_points ∙ p),
        eqb-true z.points.numbers count q,
        ltb-false 3 (size t.starts) (sym in_start ∙ s),
        ltb-false 3 (size t.ends) (sym in_end ∙ e),
      )

  pub sizes_exact : size t.pts ≤ 257 → size t.starts ≤ 3 → size t.ends ≤ 3
      → (z.points.numbers ≡ size t.pts) × (z.start.numbers ≡ size t.starts) × (z.end.numbers ≡ size t.ends)
  sizes_exact h k l = (
    exact _ 257 points t.pts z.points a lp t.points_in h,
    exact _ 3 start t.starts z.start b ls t.start_in k,
    exact _ 3 end t.ends z.end d le t.end_in l,
  )

  pub axis_fault : (c count : ℕ) → (size t.pts ≤ 257 → eqb z.points.numbers count ≡ eqb (size t.pts) c) → (rest : List Refusal)
      → first_of (axis_sizes c place (axis t.pts (states t.starts t.ends)) ++ rest) ≡ option_or (said (first_fault z count)) (first_of rest)
  axis_fault c count same rest =
      axis_first c place t.pts t.starts t.ends rest
      ∙ go (ltb 257 (size t.pts)) refl
      ∙ sym (choose (leb 258 z.points.numbers) (eqb z.points.numbers count) (leb 4 z.start.numbers) (leb 4 z.end.numbers) _ _ _ _ (first_of rest))
      ∙ ap (λ x. option_or x (first_of rest)) (sym (fault_is z count))
    where
      close : place + length (bytes "(axis (points ") + length (spell_items t.pts) - 1 ≡ z.close
      close = sym t.close_is

      first : over_at 257 (place + length (bytes "(axis (points ")) t.pts ≡ z.points.over
      first = sym (over_is _ 257 points t.pts z.points a lp t.points_in)

      second : over_at 3 (place + length (bytes "(axis (points ") + length (spell_items t.pts) + length (bytes " (start ")) t.starts ≡ z.start.over
      second =
          let e : place + length (bytes "(axis (points ") + length (spell_items t.pts) + length (bytes " (start ")
          ≡ z.close + 1 + length (bytes " (start ") = omega (arith, close) in
          ap (λ n. over_at 3 n t.starts) e ∙ sym (over_is _ 3 start t.starts z.start b ls t.start_in)

      third : over_at 3 (place + length (bytes "(axis (points ") + length (spell_items t.pts) + length (bytes " (start ")
          + length (spell_items t.starts ++ bytes " (end ")) t.ends ≡ z.end.over
      third =
          let e : place + length (bytes "(axis (points ") + length (spell_items t.pts) + length (bytes " (start ") + length
          (spell_items t.starts ++ bytes " (end ")
          ≡ z.close + 1 + length (bytes " (start ") + length (spell_items t.starts) + length (bytes " (end ")
          = omega (arith, close, length-append (spell_items t.starts) (bytes " (end ")) in
          ap (λ n. over_at 3 n t.ends) e ∙ sym (over_is _ 3 end t.ends z.end d le t.end_in)

      go : (x : Bool) → ltb 257 (size t.pts) ≡ x
          → chosen (ltb 257 (size t.pts)) (eqb (size t.pts) c) (ltb 3 (size t.starts)) (ltb 3 (size t.ends))
          (over_at 257 (place + length (bytes "(axis (points ")) t.pts)
          (over_at 3 (place + length (bytes "(axis (points ") + length (spell_items t.pts) + length (bytes " (start ")) t.starts)
          (over_at 3 (place + length (bytes "(axis (points ") + length (spell_items t.pts) + length (bytes " (start ")
          + length (spell_items t.starts ++ bytes " (end ")) t.ends)
          (place + length (bytes "(axis (points ") + length (spell_items t.pts) - 1) (first_of rest)
          ≡ chosen (leb 258 z.points.numbers) (eqb z.points.numbers count) (leb 4 z.start.numbers) (leb 4 z.end.numbers) z.points.over z.start.over z.end.over
          z.close (first_of rest)
      go true e = rw (in_points, e, first)
      go false e = rw (in_points, e, same (ltb-false 257 (size t.pts) e), in_start, in_end, second, third, close)
