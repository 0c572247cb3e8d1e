-- What the check's yes says of a set: its order, its sizes and its equations. Assumes nothing.
use mathlib.Core.Path.{◌≡◌, sym, ap, ◌∙◌}
use Prim.Native.Nat.{ℕ, ◌+◌, ◌*◌, ◌≤◌}
use lib.Dec.{T, eqb→eq, leb→le}
use lib.ListN.{length}
use Rattle.rules.specs.Tables.{m_of}
use Rattle.rules.specs.Build.{valid_order}
use Rattle.rules.specs.Master.{MasterSet, Equations, segments, master_questions, size_questions, length_questions, number_questions}
use Rattle.rules.specs.Master.{master_number, check_master}
use Rattle.rules.proofs.Questions.{answer_at, said_yes}
use Rattle.rules.proofs.Build.{coefficient_count}
use Rattle.rules.proofs.Master.{yes_iff}

pub record Good (s : MasterSet) : Type 0 where
  pub valid : T (valid_order s.order)
  pub points : 2 ≤ length s.waypoints
  pub starts : length s.start ≡ m_of s.order
  pub ends : length s.end ≡ m_of s.order
  pub cells : length s.table ≡ segments s * (2 * m_of s.order + 2)
  pub equations : Equations s

pub good : (s : MasterSet) → T (check_master s).good → Good s
unfolding master_number master_questions size_questions length_questions number_questions
good s t =
    let said = (yes_iff s).0 t in
    let yes_to : (k : ℕ) → T (answer_at (master_questions s) k) = said_yes (master_questions s) tt said.0 in
    record {
      valid = yes_to 0;
      points = leb→le 2 _ (yes_to 1);
      starts = eqb→eq _ _ (yes_to 3);
      ends = eqb→eq _ _ (yes_to 4);
      cells = eqb→eq _ _ (yes_to 5) ∙ ap (λ (cells : ℕ). segments s * cells) (sym (coefficient_count s.order (yes_to 0)));
      equations = said.1;
    }
