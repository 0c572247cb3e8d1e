-- The loop over the axes: a buffer that the level may write (`Written`), the cell of an axis in it (`cell`), and where its coefficients stand. Assumes nothing.
use mathlib.Core.Path.{◌≡◌, refl, sym, ap, ◌∙◌, subst}
use mathlib.Core.Bool.{Bool, true, false, cond}
use mathlib.Core.List.{List}
use Prim.Native.Nat.{ℕ, ◌+◌, ◌*◌, ◌<◌, ◌≤◌}
use native.Mathlib.Nat.{mul-le-mul}
use native.Mathlib.Omega.{arith}
use lib.ListN.{length, set, take, drop}
use lib.Ieee.{Float}
use Rattle.rules.specs.declared.PathRecord.{PathRecord}
use Rattle.law_lists.specs.Lists.{listed}
use Rattle.rules.specs.Floats.{+0}
use Rattle.rules.specs.Query.{Lengths, writes, eval_poly, per_unit_of_s}
use Rattle.query_levels.specs.declared.Buffers.{Buffers}
use Rattle.query_levels.specs.Lent.{SameBuffers}
use Rattle.rules.proofs.Build.{by_order}
use Rattle.law_lists.proofs.Places.{cell_inside}
use Rattle.rules.proofs.FilledList as Fills
use Rattle.rules.proofs.FilledList.{Filled}
use Rattle.law_lists.proofs.Lists.{part_inside}
use Rattle.query_axes.specs.Evaluation.{Evaluable}

-- ---- a buffer that is written, w, or not: ys is xs with f's cells below i, or xs itself

pub data Written (w : Bool) (i : ℕ) (f : ℕ → Float) (xs ys : List Float) : Type 0 where
  yes : w ≡ true → Filled i f xs ys → Written w i f xs ys
  not : w ≡ false → ys ≡ xs → Written w i f xs ys

pub none : (w : Bool) (f : ℕ → Float) (xs : List Float) → Written w 0 f xs xs
none true f xs = yes refl (Fills.none f xs)
none false f xs = not refl refl

module _ {w : Bool} {i : ℕ} {f : ℕ → Float} {xs ys : List Float} where
  pub kept : Written w i f xs ys → length ys ≡ length xs
  kept (yes e h) = Fills.kept h
  kept (not e h) = ap length h

  -- the cell of axis i, where the buffer is written
  pub step : Written w i f xs ys → {v : Float} {zs : List Float} → (w ≡ true → v ≡ f i) → (w ≡ true → i < length xs) → zs ≡ cond w (set ys i v) ys
      → Written w (i + 1) f xs zs
  step (yes e h) {v} {zs} c l is = yes e (subst (λ (cells : List Float). Filled (i + 1) f xs cells) (sym (rw e at is)) (Fills.step h (c e) (l e)))
  step (not e h) c l is = not e (rw e at is ∙ h)

  pub whole : Written w i f xs ys → {n : ℕ} → (w ≡ true → length xs ≡ n) → n ≤ i → ys ≡ cond w (listed n f) xs
  whole (yes e h) n l = rw e (Fills.whole h (n e) l)
  whole (not e h) n l = rw e h

-- ---- the four buffers, where axis i is next

pub record Run (f : ℕ → ℕ → Float) (level i : ℕ) (before now : Buffers) : Type 0 where
  pub is_q : Filled i (f 0) before.q.now now.q.now
  pub is_dq : Written (writes level 1) i (f 1) before.dq.now now.dq.now
  pub is_ddq : Written (writes level 2) i (f 2) before.ddq.now now.ddq.now
  pub is_dddq : Written (writes level 3) i (f 3) before.dddq.now now.dddq.now
  pub same : SameBuffers before now

-- ---- derivative k of an axis

abbrev pub cell : ℕ → ℕ → Float → List Float → ℕ → Float → ℕ → ℕ → Float
cell order segments inv coefficients segment t k axis =
    per_unit_of_s inv k (eval_poly order (take (order + 1) (drop ((axis * segments + segment) * (order + 1)) coefficients)) t k)

-- a number that is asked for where the buffer is written is that number there
pub asked_for : {w : Bool} {x y : Float} → x ≡ cond w y +0 → w ≡ true → x ≡ y
asked_for {y = y} e h = e ∙ ap (λ (w : Bool). cond w y +0) h

-- ---- places

-- the cell of an axis is inside, in a buffer that is as long as the axes
pub room : {w : Bool} {n axes axis : ℕ} → (w ≡ true → n ≡ axes) → axis < axes → w ≡ true → axis < n
room e l t = rw (e t) l

module _ {p : PathRecord} {coefficients : List Float} {segment level : ℕ} {n : Lengths} (h : Evaluable p coefficients segment level n) where
  pub order_bound : p.order ≤ 7
  order_bound = by_order (λ order. order ≤ 7) (omega arith) (omega arith) (omega arith) p.order h.order

  pub segments_bound : p.axes * p.segments ≤ 2048
  segments_bound = mul-le-mul {n₂ = 8} {m₂ = 256} h.few_axes h.few_segments

  pub table_bound : p.axes * p.segments * (p.order + 1) ≤ 16384
  table_bound = let b : p.order ≤ 7 = order_bound in mul-le-mul {n₂ = 2048} {m₂ = 8} segments_bound (omega arith)

  -- a segment of an axis is one of all axes' segments, and its coefficients are a part of the table
  module _ {axis : ℕ} (l : axis < p.axes) where
    pub segment_inside : axis * p.segments + segment < p.axes * p.segments
    segment_inside = cell_inside p.segments l h.inside

    pub part_inside_all : (axis * p.segments + segment) * (p.order + 1) + (p.order + 1) ≤ p.axes * p.segments * (p.order + 1)
    part_inside_all = part_inside (p.order + 1) segment_inside
