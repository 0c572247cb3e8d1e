-- The evaluation of all axes in one segment: what it may rely on, and derivative k of each axis. Assumes nothing.
use Rattle.std.specs.Prelude.{◌≡◌, true, cond, List, ℕ, ◌<◌, ◌≤◌, T, length, Float}
use Rattle.rules.specs.declared.PathRecord.{PathRecord}
use Rattle.law_lists.specs.Lists.{listed}
use Rattle.rules.specs.Build.{valid_order, table_length}
use Rattle.rules.specs.Query.{Lengths, Buffers, writes, eval_poly, per_unit_of_s, segment_of}

-- what the questions and the lookup have found out
pub record Evaluable (p : PathRecord) (coefficients : List Float) (segment level : ℕ) (n : Lengths) : Type 0 where
  pub order : T (valid_order p.order)
  pub few_axes : p.axes ≤ 8
  pub few_segments : p.segments ≤ 256
  pub inside : segment < p.segments
  pub table : length coefficients ≡ table_length p.axes p.segments p.order
  pub q : n.q ≡ p.axes
  pub dq : writes level 1 ≡ true → n.dq ≡ p.axes
  pub ddq : writes level 2 ≡ true → n.ddq ≡ p.axes
  pub dddq : writes level 3 ≡ true → n.dddq ≡ p.axes

-- derivative k of each axis, in a segment at t
unfoldable pub derivative_at : PathRecord → List Float → ℕ → Float → ℕ → List Float
derivative_at p coefficients segment t k =
    listed p.axes (λ axis. per_unit_of_s p.inv_ds k (eval_poly p.order (segment_of p coefficients axis segment) t k))

-- the four buffers afterwards: derivative k of each axis where the level writes it, and else what was there
pub record Evaluated (p : PathRecord) (coefficients : List Float) (segment : ℕ) (t : Float) (level : ℕ) (before after : Buffers) : Type 0 where
  pub is_q : after.q ≡ derivative_at p coefficients segment t 0
  pub is_dq : after.dq ≡ cond (writes level 1) (derivative_at p coefficients segment t 1) before.dq
  pub is_ddq : after.ddq ≡ cond (writes level 2) (derivative_at p coefficients segment t 2) before.ddq
  pub is_dddq : after.dddq ≡ cond (writes level 3) (derivative_at p coefficients segment t 3) before.dddq
