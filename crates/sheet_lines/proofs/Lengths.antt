-- Lines: how long each is, and that writing its parts one after the other writes it. Assumes nothing.
use mathlib.Core.Path.{◌≡◌, sym, ap, ◌∙◌}
use mathlib.Core.List.{List, ◌++◌, append_assoc}
use Prim.Native.Nat.{ℕ, suc, ◌+◌, ◌*◌}
use native.Mathlib.Omega.{arith}
use lib.ListN.{length, length-append}
use lib.Ieee.{Float, binary64, to_bits}
use Rattle.rules.specs.declared.PathRecord.{PathRecord}
use Rattle.law_lists.proofs.Lists.{length-joined}
use Rattle.rules.specs.Floats.{◌!◌}
use Rattle.rules.specs.Sheets.{bytes, natural}
use Rattle.rules.specs.SheetAnswers.{seg_line, refused_output}
use Rattle.sheet_lines.specs.Output.{table_line, coefficients_of}
use Rattle.sheet_bits.proofs.Hex.{length_hex}

-- J11: 17 bytes a coefficient
pub length-coefficients : (cs : List Float) → length (coefficients_of cs) ≡ length cs * 17
length-coefficients cs = length-joined (length cs) 17 _ (λ i l. ap suc (length_hex (to_bits binary64 (cs ! i))))

module _ (a i : ℕ) (cs : List Float) where
  pub line_parts : (bytes "(seg " ++ natural a) ++ ((bytes " " ++ natural i) ++ (coefficients_of cs ++ bytes ")\n")) ≡ seg_line a i cs
  unfolding seg_line
  line_parts = simp append_assoc

  pub length_line : length (seg_line a i cs) ≡ length (natural a) + length (natural i) + length (coefficients_of cs) + 8
  length_line = ap length (sym line_parts) ∙ simp length-append (omega arith)

pub table_line_parts : (p : PathRecord)
    → (bytes "(table " ++ natural p.order) ++ ((bytes " " ++ natural p.segments) ++ ((bytes " " ++ natural p.axes) ++ bytes ")\n")) ≡ table_line p
table_line_parts p = simp append_assoc

pub length-table_line : (p : PathRecord) → length (table_line p) ≡ length (natural p.order) + length (natural p.segments) + length (natural p.axes) + 11
length-table_line p = simp length-append (omega arith)

module _ (number place : ℕ) where
  pub refusal_parts : (bytes "(refused " ++ natural number) ++ ((bytes " " ++ natural place) ++ bytes ")\n") ≡ refused_output number place
  unfolding refused_output
  refusal_parts = simp append_assoc

  pub length_refusal : length (refused_output number place) ≡ length (natural number) + length (natural place) + 12
  length_refusal = ap length (sym refusal_parts) ∙ simp length-append (omega arith)
