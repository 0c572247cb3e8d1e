-- A number of two words. Assumes nothing.
use Rattle.std.specs.Prelude.{ℕ, ◌+◌, ◌*◌, ◌^◌, cond, nat_lt}
use Rattle.fused_words.specs.declared.Words.{Words}

abbrev pub value : Words → ℕ
value w = w.high * 2 ^ 64 + w.low

-- 1 where a is below b, and 0 elsewhere
abbrev pub flag : ℕ → ℕ → ℕ
flag a b = cond (nat_lt a b) 1 0
