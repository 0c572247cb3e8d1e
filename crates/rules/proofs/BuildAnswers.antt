-- What a build answers and what it leaves in the buffer, by the number of its first no. And what the number 0 says: `answered`, that every
-- question was answered with yes, and so how large order, points and axes are. Assumes nothing.
use mathlib.Core.Path.{◌≡◌}
use mathlib.Core.List.{List}
use Prim.Native.Nat.{ℕ, ◌≤◌}
use borrow.Author.Tests.{ne_eqb}
use lib.Dec.{T, leb, leb→le}
use lib.ListN.{length}
use lib.Ieee.{Float}
use lib.Ieee.Fits.{and_r}
use Rattle.rules.specs.Build.{BuildInput, valid_order, valid_axes, build_questions, build_number}
use Rattle.rules.specs.Build.{accepted_record, refused_record, build_answer, table, buffer_after}
use Rattle.rules.proofs.Questions.{answer_at, said_yes}

module _ (b : BuildInput) (cells : ℕ) where
  pub refused_answer : (number : ℕ) → (number ≡ 0 → ⊥) → build_number b cells ≡ number → build_answer b cells ≡ record { number = number; path = refused_record }
  unfolding build_answer
  refused_answer number h e = rw (e, ne_eqb number 0 h)

  pub accepted_answer : build_number b cells ≡ 0 → build_answer b cells ≡ record { number = 0; path = accepted_record b }
  unfolding build_answer
  accepted_answer e = rw e

module _ (b : BuildInput) (cells : ℕ) (e : build_number b cells ≡ 0) where
  pub answered : (k : ℕ) → T (answer_at (build_questions b cells) k)
  unfolding build_number build_questions
  answered = said_yes (build_questions b cells) tt e

  pub order_known : T (valid_order b.config.order)
  unfolding build_questions
  order_known = answered 0

  pub points_known : (2 ≤ b.points) × (b.points ≤ 257)
  unfolding build_questions
  points_known = (leb→le 2 _ (answered 1), leb→le _ 257 (answered 2))

  pub axes_known : b.axes ≤ 8
  unfolding build_questions valid_axes
  axes_known = leb→le b.axes 8 (and_r (leb 1 b.axes) _ (answered 3))

module _ (b : BuildInput) (before : List Float) where
  pub refused_buffer : (number : ℕ) → (number ≡ 0 → ⊥) → build_number b (length before) ≡ number → buffer_after b before ≡ before
  unfolding buffer_after
  refused_buffer number h e = rw (e, ne_eqb number 0 h)

  pub accepted_buffer : build_number b (length before) ≡ 0 → buffer_after b before ≡ table b
  unfolding buffer_after
  accepted_buffer e = rw e
