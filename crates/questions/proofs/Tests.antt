-- Answers and tests: what an answered question says of the definition's test. Assumes nothing.
use mathlib.Core.Path.{◌≡◌, sym, ◌∙◌}
use mathlib.Core.Bool.{Bool, true, false, ◌&&◌}

-- a function answered r, which is b, and the code asked `if !r`
pub no : {b r : Bool} → r ≡ b → r ≡ false → b ≡ false
no e h = sym e ∙ h

pub yes : {b r : Bool} → r ≡ b → r ≡ true → b ≡ true
yes e h = sym e ∙ h

-- tests one after the other: where the first say yes, the last decides
pub both : {a b : Bool} → a ≡ true → b ≡ true → (a && b) ≡ true
both e f = rw (e, f)

pub last_decides : {a b r : Bool} → a ≡ true → r ≡ b → r ≡ (a && b)
last_decides e f = rw (e, f)
