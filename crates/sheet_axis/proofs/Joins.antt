-- One reading after another, from a place of a text. Assumes nothing.
use mathlib.Core.Path.{◌≡◌, sym, ap, ◌∙◌}
use mathlib.Core.List.{List, ◌++◌}
use Prim.{Unit, tt}
use Prim.Native.Nat.{ℕ, suc, ◌+◌, ◌≤◌}
use native.Mathlib.Omega.{arith}
use lib.ListN.{length, drop, length-append, length-drop}
use Rattle.rules.specs.SheetReading as reading
use Rattle.sheet_laws.proofs.Exact.{Any}
use Rattle.sheet_laws.proofs.Words.{always, word_n, word_out}
use Rattle.sheet_laws.proofs.Limits.{spelled}
use Rattle.rules.specs.declared.SheetError.{SheetError}
use Rattle.sheet_reading.specs.Says.{stop_at}
use Rattle.sheet_axis.specs.Says.{Reads, Stops}

-- where a part of the text is spelled, the next place is as far on as the spelling is long
pub far : (text w : List ℕ) (from next : ℕ) → drop from text ≡ w ++ drop next text → from ≤ length text → next ≤ length text → next ≡ from + length w
far text w from next e h k =
    omega (arith, ap length e ∙ length-append w (drop next text), length-drop from text, length-drop next text)

-- fixed bytes
abbrev pub word_at : List ℕ → ℕ → List ℕ → reading.Read (Unit {0})
word_at w n t = reading.word w t

pub word_reads : (text w : List ℕ) (from next : ℕ) → reading.got tt (drop next text) ≡ reading.word w (drop from text) → next ≤ length text
    → Reads (word_at w) text from tt next
word_reads text w from next says inside = record { says = λ n l. sym says; inside = inside }

pub word_stops : (text w : List ℕ) (from : ℕ) (e : SheetError) → stop_at text e ≡ reading.word w (drop from text) → e.at ≤ length text
    → Stops (word_at w) text from e
word_stops text w from e says inside = record { says = λ n l. sym says; inside = inside }

pub word_far : (text w : List ℕ) (from next : ℕ) → Reads (word_at w) text from tt next → from ≤ length text → next ≡ from + length w
word_far text w from next r h =
    let s = spelled (λ u. w) always (word_n w) Any (drop from text) _ (word_out w (drop from text)) tt (drop next text)
    (r.says (suc (length text)) (omega arith)) in
    far text w from next s.0 h r.inside

module _ {A : Type 0} (w : List ℕ) (P : ℕ → List ℕ → reading.Read A) (text : List ℕ) (from : ℕ) where
  pub lead_reads : (mid : ℕ) → Reads (word_at w) text from tt mid → (a : A) (next : ℕ) → Reads P text mid a next → Reads (reading.lead w P) text from a next
  unfolding reading.lead reading.then
  lead_reads mid u a next r = record { says = λ n l. rw (u.says n l) (r.says n l); inside = r.inside }

  pub lead_stops : (mid : ℕ) → Reads (word_at w) text from tt mid → (e : SheetError) → Stops P text mid e → Stops (reading.lead w P) text from e
  unfolding reading.lead reading.then
  lead_stops mid u e r = record { says = λ n l. rw (u.says n l) (r.says n l); inside = r.inside }

  -- the fixed bytes do not stand there
  pub lead_fails : (e : SheetError) → stop_at text e ≡ reading.word w (drop from text) → e.at ≤ length text → Stops (reading.lead w P) text from e
  unfolding reading.lead reading.then
  lead_fails e says inside = record { says = λ n l. rw (← says); inside = inside }

module _ {A B C : Type 0} (make : A → B → C) (P : ℕ → List ℕ → reading.Read A) (Q : ℕ → List ℕ → reading.Read B) (text : List ℕ) (from : ℕ) where
  pub pair_fails : (e : SheetError) → Stops P text from e → Stops (reading.pair make P Q) text from e
  unfolding reading.then
  pair_fails e p = record { says = λ n l. rw (p.says n l); inside = p.inside }

  module _ (a : A) (mid : ℕ) (p : Reads P text from a mid) where
    pub pair_reads : (b : B) (next : ℕ) → Reads Q text mid b next → Reads (reading.pair make P Q) text from (make a b) next
    unfolding reading.then
    pair_reads b next q = record { says = λ n l. rw (p.says n l, q.says n l); inside = q.inside }

    pub pair_stops : (e : SheetError) → Stops Q text mid e → Stops (reading.pair make P Q) text from e
    unfolding reading.then
    pair_stops e q = record { says = λ n l. rw (p.says n l, q.says n l); inside = q.inside }
