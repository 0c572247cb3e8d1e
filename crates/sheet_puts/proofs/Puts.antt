-- Laws of repeated lists and of what is written. Assumes nothing.
use mathlib.Core.Path.{◌≡◌, refl, sym, ap, ap₂, ◌∙◌}
use mathlib.Core.Bool.{Bool, true, false}
use mathlib.Core.List.{List, [], ◌∷◌, ◌++◌, append_assoc, append-nil}
use Prim.Native.Nat.{ℕ, zero, suc, ◌+◌, ◌-◌, ◌*◌, ◌<◌, ◌≤◌, min}
use native.Mathlib.Omega.{arith}
use native.Mathlib.Numerals.{add-one}
use native.Mathlib.Nat.{suc-mul, mul-le-mul}
use lib.IntN.{ℤ, pos}
use lib.Dec.{leb}
use lib.ListN.{length, take, drop, get_or, set, length-append, length-drop, take-append-drop, drop_of_length-le, get_or-append}
use lib.Seq.{
  drop-append-add,
  take_all,
  take_at,
  take-suc,
  take-add,
  drop-cons,
  set_at,
  set_split,
  get_or-append-add,
  take-append-add,
  drop_at,
  length-take-le,
  take-append-le,
  get_or-take,
  drop-drop,
}
use borrow.Author.Tests.{leb-true, leb-false}
use Rattle.rules.specs.SheetAnswers.{times}
use Rattle.sheet_puts.specs.Put.{put, block}

pub length-times : {A : Type 0} (n : ℕ) (xs : List A) → length (times n xs) ≡ n * length xs
unfolding times
length-times zero xs = omega arith
length-times (suc n) xs = length-append xs (times n xs) ∙ omega (arith, length-times n xs, suc-mul n (length xs))

times_snoc : {A : Type 0} (n : ℕ) (xs : List A) → xs ++ times n xs ≡ times n xs ++ xs
unfolding times
times_snoc zero xs = append-nil xs
times_snoc (suc n) xs = ap (λ l. xs ++ l) (times_snoc n xs) ∙ sym (append_assoc xs (times n xs) xs)

-- what stands a block further on
periodic : (n : ℕ) (xs : List ℤ) (i : ℕ) → length xs + i < n * length xs → get_or (times n xs) (length xs + i) (pos 0) ≡ get_or (times n xs) i (pos 0)
unfolding times
periodic zero xs i h = absurd (omega arith)
periodic (suc n) xs i h =
    get_or-append-add xs (times n xs) i (pos 0)
    ∙ sym (get_or-append (times n xs) xs (pos 0) i (omega (arith, length-times n xs, suc-mul n (length xs))))
    ∙ ap (λ l. get_or l i (pos 0)) (sym (times_snoc n xs))

-- `put` in parts
pub put_is : (out : List ℤ) (at : ℕ) (xs : List ℤ) → at ≤ length out
    → put out at xs ≡ (take at out ++ take (min (length out) (at + length xs) - at) xs) ++ drop (min (length out) (at + length xs)) out
unfolding put
put_is out at xs h = go (leb (at + length xs) (length out)) refl
  where
    L : length (take at out) ≡ at
    L = length-take-le at out h

    go : (b : Bool) → leb (at + length xs) (length out) ≡ b
        → take (length out) (take at out ++ xs) ++ drop (at + length xs) out
        ≡ (take at out ++ take (min (length out) (at + length xs) - at) xs) ++ drop (min (length out) (at + length xs)) out
    go true e =
        let k = leb-true (at + length xs) (length out) e in
        let m : min (length out) (at + length xs) ≡ at + length xs = omega arith in
        rw (m, take_all (length out) (take at out ++ xs) (omega (arith, L, length-append (take at out) xs)), take_all (at + length xs - at) xs (omega arith))
    go false e =
        let k = leb-false (at + length xs) (length out) e in
        let m : min (length out) (at + length xs) ≡ length out = omega arith in
        let c : length out ≡ length (take at out) + (length out - at) = omega (arith, L) in
        rw (
          m,
          drop_of_length-le out (let q : length out ≤ at + length xs = omega arith in q),
          drop_of_length-le out
              (let q : length out ≤ length out = omega arith in q),
        )
        (ap (λ l. l ++ []) (ap (λ n. take n (take at out ++ xs)) c ∙ take-append-add (take at out) xs (length out - at)))

-- ---- one number

pub put_one : (out : List ℤ) (at : ℕ) (z : ℤ) → at < length out → set out at z ≡ put out at (z ∷ [])
put_one out at z h =
    let m : min (length out) (at + 1) ≡ at + 1 = omega arith in
    let k : at + 1 - at ≡ 1 = omega arith in
    set_split out at z h ∙ sym (put_is out at (z ∷ []) (omega arith) ∙ rw (m, k, add-one) (append_assoc (take at out) (z ∷ []) (drop (suc at) out)))

pub put_full : (out : List ℤ) (at : ℕ) (z : ℤ) → length out ≤ at → at ≤ length out → out ≡ put out at (z ∷ [])
put_full out at z h k =
    let m : min (length out) (at + 1) ≡ at = omega arith in
    let n : at - at ≡ 0 = omega arith in
    sym (put_is out at (z ∷ []) k ∙ rw (m, n, append-nil) (take-append-drop at out))

-- ---- a block again and again

-- the buffer when the block is laid on up to place j
unfoldable pub filled : List ℤ → ℕ → ℕ → ℕ → ℕ → List ℤ
filled out at end n j = (take at out ++ take (j - at) (times n (block out at end))) ++ drop j out

module _ (out : List ℤ) (at end n : ℕ) (h : at ≤ end) (k : end ≤ length out) (p : 1 ≤ n) where
  length-block : length (block out at end) ≡ end - at
  length-block = length-take-le (end - at) (drop at out) (omega (arith, length-drop at out))

  -- the first of the blocks is inside
  pub end_inside : end ≤ min (length out) (at + n * (end - at))
  end_inside = let size : end - at ≤ end - at = omega arith in omega (arith, mul-le-mul p size)

  all : length (times n (block out at end)) ≡ n * (end - at)
  all = length-times n (block out at end) ∙ ap (λ x. n * x) length-block

  once : take (end - at) (times n (block out at end)) ≡ block out at end
  unfolding times
  once = go n p
    where
      go : (m : ℕ) → 1 ≤ m → take (end - at) (times m (block out at end)) ≡ block out at end
      go zero q = absurd (omega arith)
      go (suc m) q = take_at (block out at end) (times m (block out at end)) (end - at) length-block

  pub filled_start : out ≡ filled out at end n end
  unfolding filled
  filled_start =
      let e : at + (end - at) ≡ end = omega arith in
      sym (rw once (ap (λ l. l ++ drop end out) (sym (take-add at (end - at) out) ∙ ap (λ i. take i out) e) ∙ take-append-drop end out))

  module _ (j : ℕ) (a : end ≤ j) (b : j < length out) (c : j < at + n * (end - at)) where
    head_length : length (take at out ++ take (j - at) (times n (block out at end))) ≡ j
    head_length =
        length-append (take at out) (take (j - at) (times n (block out at end)))
        ∙ omega (arith, length-take-le at out (omega arith), length-take-le (j - at) (times n (block out at end)) (omega (arith, all)))

    -- what stands a block before
    here : get_or (filled out at end n j) (j - (end - at)) (pos 0) ≡ get_or (times n (block out at end)) (j - at) (pos 0)
    unfolding filled
    here =
        let X = times n (block out at end) in
        let i : ℕ = j - end in
        let q : j - (end - at) ≡ length (take at out) + i = omega (arith, length-take-le at out (omega arith)) in
        let r : j - at ≡ length (block out at end) + i = omega (arith, length-block) in
        get_or-append (take at out ++ take (j - at) (times n (block out at end))) (drop j out) (pos 0) (j - (end - at))
        (omega (arith, head_length, positive_size))
        ∙ ap (λ x. get_or (take at out ++ take (j - at) (times n (block out at end))) x (pos 0)) q
        ∙ get_or-append-add (take at out) (take (j - at) (times n (block out at end))) i (pos 0)
        ∙ get_or-take (j - at) (times n (block out at end)) i (pos 0) (omega (arith, positive_size))
        ∙ sym (periodic n (block out at end) i (omega (arith, r, length-block, ap (λ x. n * x) length-block)))
        ∙ ap (λ x. get_or (times n (block out at end)) x (pos 0)) (sym r)
      where
        positive_size : at < end
        positive_size = go (leb end at) refl
          where
            go : (x : Bool) → leb end at ≡ x → at < end
            go true e = let w = leb-true end at e in let z : end - at ≡ 0 = omega arith in let y : n * (end - at) ≡ 0 = rw z (omega arith) in
                absurd (omega arith)
            go false e = leb-false end at e

    pub filled_step : set (filled out at end n j) j (get_or (filled out at end n j) (j - (end - at)) (pos 0)) ≡ filled out at end n (j + 1)
    unfolding filled
    filled_step =
        let e : j + 1 - at ≡ suc (j - at) = omega arith in
        let f : take (j + 1 - at) (times n (block out at end))
        ≡ take (j - at) (times n (block out at end)) ++ (get_or (times n (block out at end)) (j - at) (pos 0) ∷ []) =
        ap (λ i. take i (times n (block out at end))) e ∙ take-suc (times n (block out at end)) (j - at) (pos 0) (omega (arith, all)) in
        ap (λ z. set (filled out at end n j) j z) here
        ∙ ap (λ l. set ((take at out ++ take (j - at) (times n (block out at end))) ++ l) j (get_or (times n (block out at end)) (j - at) (pos 0)))
        (drop-cons out j (pos 0) b)
        ∙ set_at (take at out ++ take (j - at) (times n (block out at end))) (get_or out j (pos 0)) (drop (suc j) out)
        (get_or (times n (block out at end)) (j - at) (pos 0)) j head_length
        ∙ sym (rw (f, add-one) (simp append_assoc))

    pub filled_loop : (o : List ℤ) → o ≡ filled out at end n j → (z : ℤ) → z ≡ get_or o (j - (end - at)) (pos 0) → set o j z ≡ filled out at end n (j + 1)
    filled_loop o e z f = rw (f, e) filled_step

  pub filled_end : (s : ℕ) → s ≡ min (length out) (at + n * (end - at)) → filled out at end n s ≡ put out at (times n (block out at end))
  unfolding filled
  filled_end s e = sym (put_is out at (times n (block out at end)) (omega arith) ∙ rw (all, ← e))

-- ---- writing twice

-- where writing ends
abbrev pub end_of : List ℤ → ℕ → List ℤ → ℕ
end_of out at xs = min (length out) (at + length xs)

module _ (out : List ℤ) (at : ℕ) (xs : List ℤ) (h : at ≤ length out) where
  pub front_length : length (take at out ++ take (end_of out at xs - at) xs) ≡ end_of out at xs
  front_length =
      length-append (take at out) (take (end_of out at xs - at) xs)
      ∙ omega (arith, length-take-le at out h, length-take-le (end_of out at xs - at) xs (omega arith))

  pub length-put : length (put out at xs) ≡ length out
  length-put =
      ap length (put_is out at xs h)
      ∙ length-append (take at out ++ take (end_of out at xs - at) xs) (drop (end_of out at xs) out)
      ∙ omega (arith, front_length, length-drop (end_of out at xs) out)

  pub put_front : take (end_of out at xs) (put out at xs) ≡ take at out ++ take (end_of out at xs - at) xs
  put_front = ap (take (end_of out at xs)) (put_is out at xs h)
      ∙ take_at (take at out ++ take (end_of out at xs - at) xs) (drop (end_of out at xs) out) (end_of out at xs) front_length

  pub put_back : (q : ℕ) → end_of out at xs ≤ q → drop q (put out at xs) ≡ drop q out
  put_back q l =
      let e : q ≡ length (take at out ++ take (end_of out at xs - at) xs) + (q - end_of out at xs) = omega (arith, front_length) in
      let f : end_of out at xs + (q - end_of out at xs) ≡ q = omega arith in
      ap (drop q) (put_is out at xs h)
      ∙ ap (λ i. drop i ((take at out ++ take (end_of out at xs - at) xs) ++ drop (end_of out at xs) out)) e
      ∙ drop-append-add (take at out ++ take (end_of out at xs - at) xs) (drop (end_of out at xs) out) (q - end_of out at xs)
      ∙ drop-drop (q - end_of out at xs) (end_of out at xs) out
      ∙ ap (λ i. drop i out) f

  -- and then more after it
  pub put_put : (ys : List ℤ) → put (put out at xs) (end_of out at xs) ys ≡ put out at (xs ++ ys)
  put_put ys =
      let l = length-put in
      let q : min (length (put out at xs)) (end_of out at xs + length ys) ≡ end_of out at (xs ++ ys) = omega (arith, length-put, length-append xs ys) in
      put_is (put out at xs) (end_of out at xs) ys (omega arith)
      ∙ rw (q, put_front, put_back (end_of out at (xs ++ ys)) (omega (arith, length-append xs ys)))
      (ap (λ l. l ++ drop (end_of out at (xs ++ ys)) out) (append_assoc (take at out) (take (end_of out at xs - at) xs)
      (take (end_of out at (xs ++ ys) - end_of out at xs) ys)
      ∙ ap (λ l. take at out ++ l) (go (leb (at + length xs) (length out)) refl)))
      ∙ sym (put_is out at (xs ++ ys) h)
    where
      go : (b : Bool) → leb (at + length xs) (length out) ≡ b
          → take (end_of out at xs - at) xs ++ take (end_of out at (xs ++ ys) - end_of out at xs) ys ≡ take (end_of out at (xs ++ ys) - at) (xs ++ ys)
      go true e =
          let k = leb-true (at + length xs) (length out) e in
          let i : end_of out at (xs ++ ys) - at ≡ length xs + (end_of out at (xs ++ ys) - end_of out at xs) = omega (arith, length-append xs ys) in
          rw (take_all (end_of out at xs - at) xs (omega arith), i) (sym (take-append-add xs ys (end_of out at (xs ++ ys) - end_of out at xs)))
      go false e =
          let k = leb-false (at + length xs) (length out) e in
          let i : end_of out at (xs ++ ys) - end_of out at xs ≡ 0 = omega (arith, length-append xs ys) in
          let j : end_of out at (xs ++ ys) - at ≡ end_of out at xs - at = omega (arith, length-append xs ys) in
          rw (i, j, append-nil) (sym (take-append-le (end_of out at xs - at) xs ys (omega arith)))

-- ---- a list written and then repeated

take-times : (n m : ℕ) (xs : List ℤ) → 1 ≤ n → m ≤ length xs → take m (times n xs) ≡ take m xs
unfolding times
take-times zero m xs h k = absurd (omega arith)
take-times (suc n) m xs h k = take-append-le m xs (times n xs) k

module _ (out : List ℤ) (at : ℕ) (xs : List ℤ) (h : at ≤ length out) (n : ℕ) (p : 1 ≤ n) where
  put_keeps : take at (put out at xs) ≡ take at out
  put_keeps =
      ap (take at) (put_is out at xs h ∙ append_assoc (take at out) (take (end_of out at xs - at) xs) (drop (end_of out at xs) out))
      ∙ take_at (take at out) (take (end_of out at xs - at) xs ++ drop (end_of out at xs) out) at (length-take-le at out h)

  block_put : block (put out at xs) at (end_of out at xs) ≡ take (end_of out at xs - at) xs
  block_put =
      ap (λ l. take (end_of out at xs - at) (drop at l)) (put_is out at xs h
      ∙ append_assoc (take at out) (take (end_of out at xs - at) xs) (drop (end_of out at xs) out))
      ∙ ap (take (end_of out at xs - at)) (drop_at (take at out) (take (end_of out at xs - at) xs ++ drop (end_of out at xs) out) at (length-take-le at out h))
      ∙ take_at (take (end_of out at xs - at) xs) (drop (end_of out at xs) out) (end_of out at xs - at)
      (length-take-le (end_of out at xs - at) xs (omega arith))

  part : List ℤ
  part = take (end_of out at xs - at) xs

  at_least : (x : ℕ) → x ≤ n * x
  at_least x = let q : x ≤ x = omega arith in omega (arith, mul-le-mul p q)

  pub end_times : min (length out) (at + n * (end_of out at xs - at)) ≡ end_of out at (times n xs)
  end_times = go (leb (at + length xs) (length out)) refl
    where
      go : (b : Bool) → leb (at + length xs) (length out) ≡ b → min (length out) (at + n * (end_of out at xs - at)) ≡ end_of out at (times n xs)
      go true e =
          let k = leb-true (at + length xs) (length out) e in
          let i : end_of out at xs - at ≡ length xs = omega arith in
          rw (i, length-times)
      go false e =
          let k = leb-false (at + length xs) (length out) e in
          let i : end_of out at xs - at ≡ length out - at = omega arith in
          rw i (omega (arith, at_least (length out - at), at_least (length xs), length-times n xs))

  parts : take (end_of out at (times n xs) - at) (times n part) ≡ take (end_of out at (times n xs) - at) (times n xs)
  unfolding part
  parts = go (leb (at + length xs) (length out)) refl
    where
      go : (b : Bool) → leb (at + length xs) (length out) ≡ b → take (end_of out at (times n xs) - at) (times n (take (end_of out at xs - at) xs))
          ≡ take (end_of out at (times n xs) - at) (times n xs)
      go true e =
          let k = leb-true (at + length xs) (length out) e in
          rw (take_all (end_of out at xs - at) xs (omega arith))
      go false e =
          let k = leb-false (at + length xs) (length out) e in
          let i : end_of out at (times n xs) - at ≡ end_of out at xs - at = omega (arith, at_least (length xs), length-times n xs) in
          let m = length-take-le (end_of out at xs - at) xs (omega arith) in
          rw i (take-times n (end_of out at xs - at) (take (end_of out at xs - at) xs) p (omega arith)
          ∙ take_all (end_of out at xs - at) (take (end_of out at xs - at) xs) (omega arith)
          ∙ sym (take-times n (end_of out at xs - at) xs p (omega arith)))

  pub put_times : put (put out at xs) at (times n (block (put out at xs) at (end_of out at xs))) ≡ put out at (times n xs)
  unfolding part
  put_times =
      let m = length-take-le (end_of out at xs - at) xs (omega arith) in
      let l : length (times n part) ≡ n * (end_of out at xs - at) = length-times n part ∙ ap (λ x. n * x) m in
      let q : min (length (put out at xs)) (at + length (times n part)) ≡ end_of out at (times n xs) =
      ap₂ (λ x y. min x (at + y)) (length-put out at xs h) l ∙ end_times in
      let g : end_of out at xs ≤ end_of out at (times n xs) = omega (arith, at_least (length xs), length-times n xs) in
      ap (λ b. put (put out at xs) at (times n b)) block_put
      ∙ put_is (put out at xs) at (times n part) (omega (arith, length-put out at xs h))
      ∙ rw (q, put_keeps, parts, put_back out at xs h (end_of out at (times n xs)) g) (sym (put_is out at (times n xs) h))
