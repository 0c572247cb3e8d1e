-- The derivatives that a level asks for, of a function that gives derivative k; the others are +0. Assumes nothing.
use Rattle.std.specs.Prelude.{ℕ, zero, suc, cond, Float}
use Rattle.rules.specs.Floats.{+0}
use Rattle.rules.specs.Query.{writes}
use Rattle.query_loop.specs.declared.Derivatives.{Derivatives}

abbrev pub asked : ℕ → (ℕ → Float) → Derivatives
asked level f = record { q = f 0; dq = cond (writes level 1) (f 1) +0; ddq = cond (writes level 2) (f 2) +0; dddq = cond (writes level 3) (f 3) +0 }

-- derivative k, up to the third
abbrev pub derivative_of : Derivatives → ℕ → Float
derivative_of d zero = d.q
derivative_of d (suc zero) = d.dq
derivative_of d (suc (suc zero)) = d.ddq
derivative_of d (suc (suc (suc k))) = d.dddq
