-- A buffer holds one list more when its next part was lent and came back with the list. Assumes nothing.
use mathlib.Core.Path.{◌≡◌, refl, sym, ap, subst, ◌∙◌}
use mathlib.Core.Bool.{Bool, true, false}
use mathlib.Core.List.{List, [], ◌∷◌, ◌++◌}
use Prim.Native.Nat.{ℕ, ◌+◌, ◌-◌, ◌*◌, ◌<◌, ◌≤◌, min}
use native.Mathlib.Omega.{arith}
use native.Mathlib.Nat.{mul-le-mul}
use lib.IntN.{ℤ, pos}
use lib.ListN.{length, take, drop, get_or, length-append, length-take, length-drop, get_or-append}
use lib.Seq.{get_or-append-add, get_or-take, length-take-le}
use lib.Dec.{ltb}
use borrow.Author.Tests.{ltb-true, ltb-false}
use Rattle.rules.specs.SheetAnswers.{cell}
use Rattle.sheet_record.specs.Held.{Near, Held}
use Rattle.sheet_puts.specs.Put.{put}
use Rattle.sheet_puts.proofs.Puts.{put_is, length-put}
use Rattle.sheet_axes.proofs.Numbers.{AllNear}

-- the buffer holds the lists, each of which is no longer than its part
pub record Keeps (stride : ℕ) (lists : List (List ℤ)) (buffer : List ℤ) : Type 0 where
  pub held : Held stride lists buffer
  pub short : (a : ℕ) → a < length lists → length (get_or lists a []) ≤ stride

pub keeps_none : (stride : ℕ) (buffer : List ℤ) → length buffer ≡ 8 * stride → Keeps stride [] buffer
keeps_none stride buffer e = record {
  held = record { room = e; holds = λ a k l m. absurd (omega arith); near = λ a k l m. absurd (omega arith) };
  short = λ a l. absurd (omega arith);
}

-- what stands in a list of lists with one more
one_more : (lists : List (List ℤ)) (xs : List ℤ) (a : ℕ) → a < length lists → get_or (lists ++ (xs ∷ [])) a [] ≡ get_or lists a []
one_more lists xs a h = get_or-append lists (xs ∷ []) [] a h

the_last : (lists : List (List ℤ)) (xs : List ℤ) → get_or (lists ++ (xs ∷ [])) (length lists) [] ≡ xs
the_last lists xs =
    let e : length lists ≡ length lists + 0 = omega arith in
    ap (λ n. get_or (lists ++ (xs ∷ [])) n []) e ∙ get_or-append-add lists (xs ∷ []) 0 []

-- a list that was put at the start of its part
put_at : (out xs : List ℤ) (i : ℕ) → i < length xs → length xs ≤ length out → get_or (put out 0 xs) i (pos 0) ≡ get_or xs i (pos 0)
put_at out xs i h k =
    let m : min (length out) (0 + length xs) ≡ length xs = omega arith in
    let n : length xs - 0 ≡ length xs = omega arith in
    let e : put out 0 xs ≡ take (length xs) xs ++ drop (length xs) out = put_is out 0 xs (omega arith) ∙ rw (m, n) in
    ap (λ l. get_or l i (pos 0)) e
    ∙ get_or-append (take (length xs) xs) (drop (length xs) out) (pos 0) i (omega (arith, length-take (length xs) xs))
    ∙ get_or-take (length xs) xs i (pos 0) h

module _ (stride : ℕ) (lists : List (List ℤ)) (buffer : List ℤ) (k : ℕ) (many : length lists ≡ k) (few : k < 8) (s : Keeps stride lists buffer)
    (xs : List ℤ) (fits : length xs ≤ stride) (near : AllNear xs) where
  before : ℕ
  before = k * stride

  -- the part as it was lent, and the buffer with it back
  abbrev pub part : List ℤ
  part = take (k * stride + stride - k * stride) (drop (k * stride) buffer)

  abbrev pub back : List ℤ → List ℤ
  back p = take (k * stride) buffer ++ (p ++ drop (k * stride + stride - k * stride) (drop (k * stride) buffer))

  inside : k * stride + stride ≤ length buffer
  inside = omega (arith, s.held.room, mul-le-mul (let h : k + 1 ≤ 8 = omega arith in h) (let h : stride ≤ stride = omega arith in h))

  front : length (take (k * stride) buffer) ≡ k * stride
  front = length-take-le (k * stride) buffer (omega (arith, inside))

  part_length : length part ≡ stride
  part_length = length-take-le (k * stride + stride - k * stride) (drop (k * stride) buffer) (omega (arith, inside, length-drop (k * stride) buffer))
      ∙ omega arith

  pub keeps_more : (p : List ℤ) → p ≡ put part 0 xs → Keeps stride (lists ++ (xs ∷ [])) (back p)
  unfolding AllNear
  keeps_more p e = record {
    held = record {
      room = room;
      holds = λ a i h l. at a i (ltb a k) refl h l;
      near = λ a i h l. near_at a i (ltb a k) refl h l;
    };
    short = λ a h. short_at a (ltb a k) refl h;
  }
    where
      long : length p ≡ stride
      long = ap length e ∙ length-put part 0 xs (omega arith) ∙ part_length

      room : length (back p) ≡ 8 * stride
      room =
          length-append (take (k * stride) buffer) (p ++ drop (k * stride + stride - k * stride) (drop (k * stride) buffer))
          ∙ omega (
            arith,
            front,
            long,
            inside,
            s.held.room,
            length-append p (drop (k * stride + stride - k * stride) (drop (k * stride) buffer)),
            length-drop (k * stride + stride - k * stride) (drop (k * stride) buffer),
            length-drop (k * stride) buffer,
          )

      last : (a : ℕ) → ltb a k ≡ false → a < length (lists ++ (xs ∷ [])) → a ≡ length lists
      last a b h = let n = ltb-false a k b in omega (arith, many, length-append lists (xs ∷ []))

      early : (a : ℕ) → ltb a k ≡ true → a < length lists
      early a b = let n = ltb-true a k b in omega (arith, many)

      at : (a i : ℕ) (b : Bool) → ltb a k ≡ b → a < length (lists ++ (xs ∷ [])) → i < length (get_or (lists ++ (xs ∷ [])) a [])
          → get_or (back p) (a * stride + i) (pos 0) ≡ cell (lists ++ (xs ∷ [])) a i
      at a i true b h l =
          let m = early a b in
          let o = one_more lists xs a m in
          let l' : i < length (get_or lists a []) = subst (λ x. i < length x) o l in
          let w : a * stride + i < k * stride = omega (
            arith,
            s.short a m,
            mul-le-mul (let q : a + 1 ≤ k = omega (arith, ltb-true a k b) in q)
                (let q : stride ≤ stride = omega arith in q),
          ) in
          get_or-append (take (k * stride) buffer) _ (pos 0) (a * stride + i) (omega (arith, front))
          ∙ get_or-take (k * stride) buffer (a * stride + i) (pos 0) w
          ∙ s.held.holds a i m l' ∙ ap (λ x. get_or x i (pos 0)) (sym o)
      at a i false b h l =
          let m = last a b h in
          let o : get_or (lists ++ (xs ∷ [])) a [] ≡ xs = ap (λ n. get_or (lists ++ (xs ∷ [])) n []) m ∙ the_last lists xs in
          let l' : i < length xs = subst (λ x. i < length x) o l in
          let q : a * stride + i ≡ length (take (k * stride) buffer) + i = omega (arith, front, ap (λ n. n * stride) (m ∙ many)) in
          ap (λ n. get_or (back p) n (pos 0)) q
          ∙ get_or-append-add (take (k * stride) buffer) _ i (pos 0)
          ∙ get_or-append p _ (pos 0) i (omega (arith, long))
          ∙ ap (λ x. get_or x i (pos 0)) e
          ∙ put_at part xs i l' (omega (arith, part_length))
          ∙ ap (λ x. get_or x i (pos 0)) (sym o)

      near_at : (a i : ℕ) (b : Bool) → ltb a k ≡ b → a < length (lists ++ (xs ∷ [])) → i < length (get_or (lists ++ (xs ∷ [])) a [])
          → Near (cell (lists ++ (xs ∷ [])) a i)
      near_at a i true b h l =
          let o = one_more lists xs a (early a b) in
          subst (λ x. Near (get_or x i (pos 0))) (sym o) (s.held.near a i (early a b) (subst (λ x. i < length x) o l))
      near_at a i false b h l =
          let o : get_or (lists ++ (xs ∷ [])) a [] ≡ xs = ap (λ n. get_or (lists ++ (xs ∷ [])) n []) (last a b h) ∙ the_last lists xs in
          subst (λ x. Near (get_or x i (pos 0))) (sym o) (near i (subst (λ x. i < length x) o l))

      short_at : (a : ℕ) (b : Bool) → ltb a k ≡ b → a < length (lists ++ (xs ∷ [])) → length (get_or (lists ++ (xs ∷ [])) a []) ≤ stride
      short_at a true b h = subst (λ x. length x ≤ stride) (sym (one_more lists xs a (early a b))) (s.short a (early a b))
      short_at a false b h =
          subst (λ x. length x ≤ stride) (sym (ap (λ n. get_or (lists ++ (xs ∷ [])) n []) (last a b h) ∙ the_last lists xs)) fits
