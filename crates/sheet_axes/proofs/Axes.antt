-- The loop over the axes: what was read so far, and how it goes on with each axis. Assumes nothing.
use mathlib.Core.Path.{◌≡◌, refl, sym, ap, ap₂, subst, ◌∙◌}
use mathlib.Core.Bool.{Bool, true, false, cond}
use mathlib.Core.List.{List, [], ◌∷◌, ◌++◌, append_assoc, append-nil}
use Prim.Native.Nat.{ℕ, suc, ◌+◌, ◌-◌, ◌*◌, ◌<◌, ◌≤◌}
use native.Mathlib.Omega.{arith}
use native.Mathlib.Nat.{mul-le-mul}
use lib.IntN.{ℤ}
use lib.ListN.{length, take, drop, get_or, length-append, length-drop, drop_of_length-le, get_or-append}
use lib.Seq.{drop-cons, get_or-append-add, length-take-le}
use lib.Dec.{eqb, ltb}
use borrow.Author.Tests.{eq-eqb, ne_eqb, ltb-true, ltb-false}
use Rattle.std.proofs.Common.{Option, None, Some}
use Rattle.std.specs.Option.{option_or}
use Rattle.rules.specs.declared.SheetError.{SheetError}
use Rattle.rules.specs.Sheets.{states, Axis, axis, Axes, only, next, within, below4, spell_axis}
use Rattle.rules.specs.SheetReading as reading
use Rattle.rules.specs.SheetFaults.{Refusal, size, first_count, axes_sizes, axis_sizes}
use Rattle.rules.specs.SheetAnswers.{axes_of, points_of, start_of, end_of, of_each, columns_of}
use Rattle.sheet_laws.proofs.Exact.{then_got}
use Rattle.sheet_items.proofs.Sizes.{list_size}
use Rattle.sheet_items.proofs.Lists.{then_then}
use Rattle.sheet_puts.specs.Put.{put}
use Rattle.sheet_sizes.specs.declared.AxisSizes.{AxisSizes}
use Rattle.sheet_axis.specs.Says.{Stops, AxisTo}
use Rattle.sheet_sizes.specs.Sizes.{first_fault, axes_with}
use Rattle.sheet_reading.specs.Says.{invalid_at}
use Rattle.sheet_sizes.specs.declared.AxesSizes.{AxesSizes}
use Rattle.sheet_axes.specs.Says.{first_of, said, Clean, AxesTo}
use Rattle.sheet_axes.proofs.Numbers.{AllNear, list_near, list_some}
use Rattle.sheet_axes.proofs.Buffers.{Keeps, keeps_none, keeps_more}
use Rattle.sheet_axes.proofs.Columns.{together_of, columns_more, each_more, each_length}
use Rattle.sheet_axes.proofs.Sizes.{exact, no_fault_means, sizes_exact, axis_fault}

-- where none of k axes is refused for a size
pub record Sound (axes : List Axis) (k : ℕ) (z : AxesSizes) (points start end : List ℤ) : Type 0 where
  pub some : 0 < k → 1 ≤ z.points
  pub few : z.points ≤ 257
  pub alike : (a : ℕ) → a < length axes → length (get_or (of_each points_of axes) a []) ≡ z.points
  pub start_is : z.start ≡ columns_of (of_each start_of axes)
  pub end_is : z.end ≡ columns_of (of_each end_of axes)
  pub few_start : z.start ≤ 3
  pub few_end : z.end ≤ 3
  pub points_held : Keeps 258 (of_each points_of axes) points
  pub start_held : Keeps 4 (of_each start_of axes) start
  pub end_held : Keeps 4 (of_each end_of axes) end

-- k axes are read; `pre` puts them before those that follow
pub record Sofar (text : List ℕ) (from k place : ℕ) (z : AxesSizes) (points start end : List ℤ) : Type 0 where
  pub done : List Axis
  pub pre : Axes → Axes
  pub many : length done ≡ k
  pub few : k ≤ 8
  pub inside : place ≤ length text
  pub reads : (n : ℕ) → length text < n → reading.read_axes within below4 8 n (drop from text)
      ≡ reading.then (reading.read_axes within below4 (8 - k) n (drop place text)) (λ axes rest. reading.got (pre axes) rest)
  pub axes_are : (axes : Axes) → axes_of (pre axes) ≡ done ++ axes_of axes
  pub counts : z.fault ≡ None → (axes : Axes) → first_count (pre axes) ≡ cond (eqb k 0) (first_count axes) z.points
  pub first : (axes : Axes) → first_of (axes_sizes (first_count (pre axes)) from (pre axes))
      ≡ option_or (said z.fault) (first_of (axes_sizes (first_count (pre axes)) place axes))
  pub clean : z.fault ≡ None → Sound done k z points start end

abbrev pub no_sizes : AxesSizes
no_sizes = record { points = 0; start = 0; end = 0; fault = None }

-- what was counted so far, and with one axis more, where k were there
abbrev pub counted_in : Option AxesSizes → AxesSizes
counted_in None = no_sizes
counted_in (Some z) = z

abbrev pub IsCounted : Option AxesSizes → ℕ → Type 0
IsCounted None k = k ≡ 0
IsCounted (Some z) k = 1 ≤ k

abbrev more_sizes : ℕ → AxesSizes → AxisSizes → AxesSizes
more_sizes k z y =
    let count = cond (eqb k 0) y.points.numbers z.points in
    record {
      points = count;
      start = together_of k z.start y.start.numbers;
      end = together_of k z.end y.end.numbers;
      fault = option_or z.fault (first_fault y count);
    }

pub with_is : (o : Option AxesSizes) (k : ℕ) (y : AxisSizes) → IsCounted o k → axes_with o y ≡ more_sizes k (counted_in o) y
with_is None k y e = rw (eq-eqb k 0 e)
with_is (Some z) k y e = rw (ne_eqb k 0 (λ i. omega arith))

pub at_start_lem : (text : List ℕ) (from : ℕ) (points start end : List ℤ) → from ≤ length text → length points ≡ 2064 → length start ≡ 32 → length end ≡ 32
    → Sofar text from 0 from no_sizes points start end
unfolding of_each columns_of
at_start_lem text from points start end h lp ls le = record {
  done = [];
  pre = λ axes. axes;
  many = refl;
  few = omega arith;
  inside = h;
  reads = λ n l. sym (then_got (reading.read_axes within below4 8 n (drop from text)));
  axes_are = λ axes. refl;
  counts = λ e axes. refl;
  first = λ axes. refl;
  clean = λ e. record {
    some = λ l. absurd (omega arith);
    few = omega arith;
    alike = λ a l. absurd (omega arith);
    start_is = refl;
    end_is = refl;
    few_start = omega arith;
    few_end = omega arith;
    points_held = keeps_none 258 points lp;
    start_held = keeps_none 4 start ls;
    end_held = keeps_none 4 end le;
  };
}

-- ---- one axis more

together_few : (k a b : ℕ) → b ≤ 3 → together_of k a b ≤ 3
together_few k a b h = go (eqb k 0) (eqb a b)
  where
    go : (x y : Bool) → cond x b (cond y b 0) ≤ 3
    go true y = h
    go false true = h
    go false false = omega arith

neither : (p q : Option SheetError) → option_or p q ≡ None → (p ≡ None) × (q ≡ None)
neither None q h = (refl, h)
neither (Some e) q h = cc

-- the part of a buffer that axis k is lent, and the buffer with it back
abbrev pub part_of : ℕ → ℕ → List ℤ → List ℤ
part_of k stride out = take (k * stride + stride - k * stride) (drop (k * stride) out)

abbrev pub with_part : ℕ → ℕ → List ℤ → List ℤ → List ℤ
with_part k stride out p = take (k * stride) out ++ (p ++ drop (k * stride + stride - k * stride) (drop (k * stride) out))

module _ (k : ℕ) (room : k < 8) (stride : ℕ) (out : List ℤ) (e : length out ≡ 8 * stride) where
  inside : k * stride + stride ≤ length out
  inside = omega (arith, e, mul-le-mul (let h : k + 1 ≤ 8 = omega arith in h) (let h : stride ≤ stride = omega arith in h))

  pub part_long : length (part_of k stride out) ≡ stride
  part_long =
      length-take-le (k * stride + stride - k * stride) (drop (k * stride) out) (omega (arith, inside, length-drop (k * stride) out)) ∙ omega arith

  -- a buffer is as long as before when its part is
  pub still_long : (p : List ℤ) → length p ≡ length (part_of k stride out) → length (with_part k stride out p) ≡ 8 * stride
  still_long p h =
      length-append (take (k * stride) out) (p ++ drop (k * stride + stride - k * stride) (drop (k * stride) out))
      ∙ omega (
        arith,
        inside,
        e,
        h,
        part_long,
        length-take-le (k * stride) out (omega (arith, inside)),
        length-append p (drop (k * stride + stride - k * stride) (drop (k * stride) out)),
        length-drop (k * stride + stride - k * stride) (drop (k * stride) out),
        length-drop (k * stride) out,
      )

module _ (text : List ℕ) (from k place : ℕ) (z : AxesSizes) (points start end : List ℤ) (s : Sofar text from k place z points start end) (room : k < 8)
    (lp : length points ≡ 2064) (ls : length start ≡ 32) (le : length end ≡ 32) where
  -- a fault on the axis
  pub axis_stops : (e : SheetError) → Stops (reading.read_axis within below4) text place e → Stops (reading.read_axes within below4 8) text from e
  unfolding reading.read_axes reading.then
  axis_stops e q =
      let one : 8 - k ≡ suc (7 - k) = omega arith in
      record { says = λ n l. s.reads n l ∙ rw (one, reading.read_axes, q.says n l); inside = q.inside }

  module _ (y : AxisSizes) (after : ℕ) (p q r : List ℤ)
      (t : AxisTo text place (part_of k 258 points) (part_of k 4 start) (part_of k 4 end) y after p q r) where
    ax : Axis
    ax = axis t.pts (states t.starts t.ends)

    abbrev sizes : AxesSizes
    sizes = more_sizes k z y

    count : ℕ
    count = cond (eqb k 0) y.points.numbers z.points

    long_p : length (part_of k 258 points) ≡ 258
    long_p = part_long k room 258 points lp

    long_q : length (part_of k 4 start) ≡ 4
    long_q = part_long k room 4 start ls

    long_r : length (part_of k 4 end) ≡ 4
    long_r = part_long k room 4 end le

    -- the first refusal, with this axis's
    first_on : (c : ℕ) (rest : List Refusal) → (z.fault ≡ None → c ≡ cond (eqb k 0) (size t.pts) z.points)
        → option_or (said z.fault) (first_of (axis_sizes c place ax ++ rest)) ≡ option_or (said sizes.fault) (first_of rest)
    unfolding ax
    first_on c rest h = go z.fault refl
      where
        same : z.fault ≡ None → size t.pts ≤ 257 → eqb y.points.numbers (cond (eqb k 0) y.points.numbers z.points) ≡ eqb (size t.pts) c
        same e l =
            let x = exact _ 257 (part_of k 258 points) t.pts y.points p long_p t.points_in l in
            rw (h e, x)

        go : (f : Option SheetError) → z.fault ≡ f
            → option_or (said f) (first_of (axis_sizes c place (axis t.pts (states t.starts t.ends)) ++ rest))
            ≡ option_or (said (option_or f (first_fault y (cond (eqb k 0) y.points.numbers z.points)))) (first_of rest)
        go None e =
            axis_fault text place (part_of k 258 points) (part_of k 4 start) (part_of k 4 end) long_p long_q long_r y after p q r t c
            (cond (eqb k 0) y.points.numbers z.points) (same e) rest
        go (Some x) e = refl

    -- no refusal with this axis
    sound : sizes.fault ≡ None
        → Sound (s.done ++ (ax ∷ [])) (k + 1) sizes (with_part k 258 points p) (with_part k 4 start q) (with_part k 4 end r)
    unfolding ax count points_of start_of end_of
    sound h = record {
      some = λ l. omega (arith, exactly.0, is.1, list_some t.pts 0 t.points_in.valid);
      few = omega (arith, exactly.0, is.1, is.0);
      alike = λ a l. alike_at a (ltb a k) refl l;
      start_is = ap₂ (together_of k) old.start_is (exactly.1 ∙ sym (list_size t.starts)) ∙ columns start_of;
      end_is = ap₂ (together_of k) old.end_is (exactly.2 ∙ sym (list_size t.ends)) ∙ columns end_of;
      few_start = together_few k z.start y.start.numbers (omega (arith, exactly.1, is.2));
      few_end = together_few k z.end y.end.numbers (omega (arith, exactly.2, is.3));
      points_held = kept 258 points_of points p old.points_held (omega (arith, is.0, list_size t.pts)) (list_near t.pts 0 t.points_in.valid)
          t.points_in.holds;
      start_held = kept 4 start_of start q old.start_held (omega (arith, is.2, list_size t.starts)) (list_near t.starts 0 t.start_in.valid)
          t.start_in.holds;
      end_held = kept 4 end_of end r old.end_held (omega (arith, is.3, list_size t.ends)) (list_near t.ends 0 t.end_in.valid) t.end_in.holds;
    }
      where
        both : (z.fault ≡ None) × (first_fault y count ≡ None)
        both = neither z.fault (first_fault y count) h

        old : Sound s.done k z points start end
        old = s.clean both.0

        is : (size t.pts ≤ 257) × (y.points.numbers ≡ count) × (size t.starts ≤ 3) × (size t.ends ≤ 3)
        is = no_fault_means text place (part_of k 258 points) (part_of k 4 start) (part_of k 4 end) long_p long_q long_r y after p q r t count both.1

        exactly : (y.points.numbers ≡ size t.pts) × (y.start.numbers ≡ size t.starts) × (y.end.numbers ≡ size t.ends)
        exactly = sizes_exact text place (part_of k 258 points) (part_of k 4 start) (part_of k 4 end) long_p long_q long_r y after p q r t is.0 is.2 is.3

        columns : (f : Axis → List ℤ) → together_of k (columns_of (of_each f s.done)) (length (f ax)) ≡ columns_of (of_each f (s.done ++ (ax ∷ [])))
        columns f = columns_more (of_each f s.done) (f ax) k (each_length f s.done ∙ s.many) ∙ ap columns_of (sym (each_more f s.done ax))

        kept : (stride : ℕ) (f : Axis → List ℤ) (out o : List ℤ) → Keeps stride (of_each f s.done) out → length (f ax) ≤ stride → AllNear (f ax)
            → o ≡ put (part_of k stride out) 0 (f ax) → Keeps stride (of_each f (s.done ++ (ax ∷ []))) (with_part k stride out o)
        kept stride f out o g l n e =
            subst (λ x. Keeps stride x (with_part k stride out o)) (sym (each_more f s.done ax))
            (keeps_more stride (of_each f s.done) out k (each_length f s.done ∙ s.many) room g (f ax) l n o e)

        alike_at : (a : ℕ) (b : Bool) → ltb a k ≡ b → a < length (s.done ++ (ax ∷ []))
            → length (get_or (of_each points_of (s.done ++ (ax ∷ []))) a []) ≡ cond (eqb k 0) y.points.numbers z.points
        alike_at a true b l =
            let m = ltb-true a k b in
            let n = each_length points_of s.done in
            ap (λ x. length (get_or x a [])) (each_more points_of s.done ax)
            ∙ ap length (get_or-append (of_each points_of s.done) (points_of ax ∷ []) [] a (omega (arith, n, s.many)))
            ∙ old.alike a (omega (arith, s.many)) ∙ rw (ne_eqb k 0 (λ e. omega arith))
        alike_at a false b l =
            let m = ltb-false a k b in
            let n = each_length points_of s.done in
            let e : a ≡ length (of_each points_of s.done) + 0 = omega (arith, n, s.many, length-append s.done (ax ∷ [])) in
            ap₂ (λ x i. length (get_or x i [])) (each_more points_of s.done ax) e
            ∙ ap length (get_or-append-add (of_each points_of s.done) (points_of ax ∷ []) 0 [])
            ∙ list_size t.pts ∙ sym exactly.0 ∙ is.1

    -- how many points axis one has, where this axis is one of those before `axes`
    counted : z.fault ≡ None → (axes : Axes) → first_count (s.pre (next ax axes)) ≡ cond (eqb k 0) (size t.pts) z.points
    unfolding first_count ax
    counted e axes = s.counts e (next ax axes)

    counted_only : z.fault ≡ None → first_count (s.pre (only ax)) ≡ cond (eqb k 0) (size t.pts) z.points
    unfolding first_count ax
    counted_only e = s.counts e (only ax)

    less : 8 - k ≡ suc (8 - (k + 1))
    less = omega arith

    reads_next : after < length text → (n : ℕ) → length text < n → reading.read_axes within below4 (8 - k) n (drop place text)
        ≡ reading.then (reading.read_axes within below4 (8 - (k + 1)) n (drop after text)) (λ axes rest. reading.got (next ax axes) rest)
    unfolding reading.read_axes reading.then ax
    reads_next l n h = rw (less, reading.read_axes, t.reads.says n h, drop-cons text after 0 l)

    are_next : (axes : Axes) → axes_of (s.pre (next ax axes)) ≡ (s.done ++ (ax ∷ [])) ++ axes_of axes
    unfolding axes_of
    are_next axes = s.axes_are (next ax axes) ∙ sym (append_assoc s.done (ax ∷ []) (axes_of axes))

    counts_next : sizes.fault ≡ None → (axes : Axes) → first_count (s.pre (next ax axes)) ≡ cond (eqb (k + 1) 0) (first_count axes) sizes.points
    unfolding count
    counts_next e axes =
        let (none-before, none) = neither z.fault (first_fault y count) e in
        let is = no_fault_means text place (part_of k 258 points) (part_of k 4 start) (part_of k 4 end) long_p long_q long_r y after p q r t count none in
        let x = exact _ 257 (part_of k 258 points) t.pts y.points p long_p t.points_in is.0 in
        counted none-before axes ∙ rw (ne_eqb (k + 1) 0 (λ i. omega arith), x)

    next_is : after ≡ place + length (spell_axis ax)
    unfolding ax
    next_is = t.next_is

    first_next : (axes : Axes)
        → option_or (said z.fault) (first_of (axes_sizes (first_count (s.pre (next ax axes))) place (next ax axes)))
        ≡ option_or (said sizes.fault) (first_of (axes_sizes (first_count (s.pre (next ax axes))) after axes))
    unfolding axes_sizes
    first_next axes =
        first_on (first_count (s.pre (next ax axes))) (axes_sizes (first_count (s.pre (next ax axes))) (place + length (spell_axis ax)) axes)
        (λ e. counted e axes)
        ∙ ap (λ n. option_or (said sizes.fault) (first_of (axes_sizes (first_count (s.pre (next ax axes))) n axes))) (sym next_is)

    -- another axis follows
    pub more_axes : after < length text → Sofar text from (k + 1) after sizes (with_part k 258 points p) (with_part k 4 start q) (with_part k 4 end r)
    more_axes l = record {
      done = s.done ++ (ax ∷ []);
      pre = λ axes. s.pre (next ax axes);
      many = length-append s.done (ax ∷ []) ∙ omega (arith, s.many);
      few = omega arith;
      inside = t.reads.inside;
      reads = λ n h. s.reads n h ∙ ap (λ x. reading.then x (λ axes rest. reading.got (s.pre axes) rest)) (reads_next l n h)
          ∙ then_then (reading.read_axes within below4 (8 - (k + 1)) n (drop after text)) (λ axes. next ax axes) s.pre;
      axes_are = λ axes. are_next axes;
      counts = λ e axes. counts_next e axes;
      first = λ axes. s.first (next ax axes) ∙ first_next axes;
      clean = sound;
    }

    ended : drop (length text) text ≡ []
    ended = drop_of_length-le text {i = length text} (omega arith)

    are_last : axes_of (s.pre (only ax)) ≡ s.done ++ (ax ∷ [])
    unfolding axes_of
    are_last = s.axes_are (only ax)

    reads_last : length text ≤ after → (n : ℕ) → length text < n
        → reading.then (reading.read_axes within below4 (8 - k) n (drop place text)) (λ axes rest. reading.got (s.pre axes) rest)
        ≡ reading.got (s.pre (only ax)) (drop (length text) text)
    unfolding reading.read_axes reading.then ax
    reads_last l n h = rw (less, reading.read_axes, t.reads.says n h, drop_of_length-le text l, ended)

    settled : (f : Option Refusal) → option_or f None ≡ f
    settled None = refl
    settled (Some e) = refl

    first_last : option_or (said z.fault) (first_of (axes_sizes (first_count (s.pre (only ax))) place (only ax)))
        ≡ said sizes.fault
    unfolding axes_sizes
    first_last =
        ap (λ x. option_or (said z.fault) (first_of x)) (sym (append-nil (axis_sizes (first_count (s.pre (only ax))) place ax)))
        ∙ first_on (first_count (s.pre (only ax))) [] (λ e. counted_only e) ∙ settled (said sizes.fault)

    cleaned : sizes.fault ≡ None → Clean (axes_of (s.pre (only ax))) sizes (with_part k 258 points p) (with_part k 4 start q) (with_part k 4 end r)
    cleaned e =
        let h = sound e in
        rw are_last (record {
          some = h.some (omega arith);
          few = h.few;
          alike = h.alike;
          start_is = h.start_is;
          end_is = h.end_is;
          few_start = h.few_start;
          few_end = h.few_end;
          points_held = h.points_held.held;
          start_held = h.start_held.held;
          end_held = h.end_held.held;
        })

    -- it was the last
    pub all_axes_lem : length text ≤ after → AxesTo text from (k + 1) sizes (with_part k 258 points p) (with_part k 4 start q) (with_part k 4 end r)
    all_axes_lem l = record {
      axes = s.pre (only ax);
      reads = record { says = λ n h. s.reads n h ∙ reads_last l n h; inside = omega arith };
      many = sym (ap length are_last ∙ length-append s.done (ax ∷ []) ∙ omega (arith, s.many));
      some = omega arith;
      few = omega arith;
      first = sym (s.first (only ax) ∙ first_last);
      clean = λ e. cleaned e;
    }

-- after the eighth no byte may follow
pub ninth : (text : List ℕ) (from place : ℕ) (z : AxesSizes) (points start end : List ℤ) (k : ℕ) → 8 ≤ k → Sofar text from k place z points start end
    → Stops (reading.read_axes within below4 8) text from (invalid_at place)
unfolding reading.read_axes reading.then
ninth text from place z points start end k h s =
    let e : 8 - k ≡ 0 = omega arith in
    record { says = λ n l. s.reads n l ∙ rw (e, reading.read_axes); inside = s.inside }
