-- What printing answers, and what it leaves in the two buffers. Assumes nothing.
use mathlib.Core.Path.{◌≡◌, refl, sym, ap, ap₂, subst, ◌∙◌}
use mathlib.Core.Bool.{Bool, true, false, ◌&&◌}
use mathlib.Core.List.{List, ◌++◌}
use Prim.Native.Nat.{ℕ, ◌≤◌, ◌<◌}
use lib.ListN.{length, drop}
use lib.Dec.{leb}
use lib.Ieee.{Float}
use borrow.Author.Tests.{le-leb, lt-leb}
use Rattle.std.proofs.Common.{Result, Ok, Err}
use Rattle.rules.specs.declared.PathRecord.{PathRecord}
use Rattle.rules.specs.declared.PathError.TheVariants.{InvalidLength}
use Rattle.rules.specs.declared.SheetError.{SheetError}
use Rattle.rules.specs.SheetFaults.{judge}
use Rattle.rules.specs.SheetAnswers.{
  SheetAnswer,
  sheet_answered,
  count_answered,
  sheet_answer,
  sheet_served,
  sheet_buffer,
  sheet_output,
  sheet_printed,
  printed_cells,
  printed_bytes,
  most_cells,
  most_bytes,
  suffice,
}
use Rattle.sheet_print.specs.LongEnough.{LongEnough}
use Rattle.sheet_print.specs.Printing.{Printable, IsPrintable, output_of}
use Rattle.sheet_print.proofs.Enough.{long_enough}
use Rattle.sheet_print.proofs.Output.{output_by_number, by_number, printable, output_is}

nothing : (a : Bool) → a && false ≡ false
nothing true = refl
nothing false = refl

module _ (t : List ℕ) (cells : List Float) (out : List ℕ) where
  -- a buffer is too short
  refused_all : suffice (length cells) (length out) ≡ false
      → (count_answered (Err InvalidLength) ≡ sheet_printed t (length cells) (length out)) × (cells ≡ printed_cells t cells (length out))
      × (out ≡ printed_bytes t (length cells) out)
  unfolding sheet_printed printed_cells printed_bytes
  refused_all e = (rw e, rw e, rw e)

  pub too_few_cells : length cells < most_cells
      → (count_answered (Err InvalidLength) ≡ sheet_printed t (length cells) (length out)) × (cells ≡ printed_cells t cells (length out))
      × (out ≡ printed_bytes t (length cells) out)
  too_few_cells h = refused_all (rw (lt-leb most_cells (length cells) h))

  pub too_few_bytes : length out < most_bytes
      → (count_answered (Err InvalidLength) ≡ sheet_printed t (length cells) (length out)) × (cells ≡ printed_cells t cells (length out))
      × (out ≡ printed_bytes t (length cells) out)
  too_few_bytes h = refused_all (rw (lt-leb most_bytes (length out) h) (nothing (leb most_cells (length cells))))

-- the buffers suffice
module _ (t : List ℕ) (cells : List Float) (h : most_cells ≤ length cells) (r : Result PathRecord SheetError) (after : List Float)
    (b : (sheet_answered t r ≡ sheet_answer t (length cells)) × (after ≡ sheet_buffer t cells)) where
  served : sheet_answered t r ≡ sheet_served t
  unfolding LongEnough
  served = b.0 ∙ long_enough t (length cells) h

  may_print_here : (sheet_answered t r).number ≡ 0 → Printable (sheet_answered t r).path (length cells)
  unfolding sheet_served
  may_print_here e =
      subst (λ x. Printable x.path (length cells)) (sym served)
      (printable t cells h (judge t) (ap (λ (x : SheetAnswer). x.number) (sym served) ∙ e))

  output_here : output_of r after ≡ sheet_output t
  unfolding sheet_served sheet_buffer sheet_output
  output_here = by_number t r after ∙ ap₂ output_by_number served b.1 ∙ output_is t cells h (judge t)

pub may_print : (t : List ℕ) (cells : List Float) → most_cells ≤ length cells → (r : Result PathRecord SheetError) (after : List Float)
    → (sheet_answered t r ≡ sheet_answer t (length cells)) × (after ≡ sheet_buffer t cells) → length after ≡ length cells → IsPrintable r (length after)
may_print t cells h (Ok path) after b l = subst (Printable path) (sym l) (may_print_here t cells h (Ok path) after b refl)
may_print t cells h (Err e) after b l = tt

pub printed : (t : List ℕ) (cells : List Float) (out : List ℕ) → most_cells ≤ length cells → most_bytes ≤ length out
    → (r : Result PathRecord SheetError) (after : List Float)
    → (sheet_answered t r ≡ sheet_answer t (length cells)) × (after ≡ sheet_buffer t cells) → (count : ℕ) (bytes : List ℕ)
    → (count ≡ length (output_of r after)) × (bytes ≡ output_of r after ++ drop (length (output_of r after)) out)
    → (count_answered (Ok count) ≡ sheet_printed t (length cells) (length out)) × (after ≡ printed_cells t cells (length out))
    × (bytes ≡ printed_bytes t (length cells) out)
unfolding sheet_printed printed_cells printed_bytes
printed t cells out h k r after b count bytes w =
    let s : suffice (length cells) (length out) ≡ true = rw (le-leb most_cells (length cells) h, le-leb most_bytes (length out) k) in
    let o = output_here t cells h r after b in
    (rw s (ap (λ n. record { number = 0; count = n }) (w.0 ∙ ap length o)), rw s b.1, rw s (w.1 ∙ ap (λ x. x ++ drop (length x) out) o))
