-- The question about the range, asked of the quotient alone. Assumes nothing.
use mathlib.Core.Path.{◌≡◌, refl}
use Prim.Native.Nat.{ℕ}
use mathlib.Core.Bool.{Bool, true, false, ◌&&◌}
use lib.Dec.{T}
use lib.Ieee.{binary64, lt}
use lib.Ieee.Fits.{and_l, and_r}
use Rattle.law_rounding.proofs.NotNan.{above_zero}
use Rattle.law_rounding.proofs.Signs.{divisor_positive, terms_apart}
use Rattle.rules.specs.declared.PathParam.{PathParam}
use Rattle.rules.specs.Floats.{+0, ◌⊖◌, finite}
use Rattle.rules.specs.Build.{inv_ds_of, valid_range}

-- the first of three tests is needless where the others say it
needless : (a b c : Bool) → (T (b && c) → T a) → (a && b && c) ≡ (b && c)
needless true b c h = refl
needless false true true h = absurd (h tt)
needless false true false h = refl
needless false false c h = refl

-- A quotient that is finite and above 0 is one by a difference that is so, and such a difference is one of finite ends, the lower first.
pub by_quotient : (segments : ℕ) (lo hi : PathParam) → valid_range segments lo hi ≡ (finite (inv_ds_of segments lo hi) && lt +0 (inv_ds_of segments lo hi))
unfolding valid_range inv_ds_of
by_quotient segments lo hi =
    let inv = inv_ds_of segments lo hi in
    needless (finite lo.0 && finite hi.0 && lt lo.0 hi.0) (finite inv) (lt +0 inv)
    (λ h.
    terms_apart binary64 hi.0 lo.0
    (divisor_positive binary64 segments (hi.0 ⊖ lo.0)
    (above_zero inv (and_l (finite inv) (lt +0 inv) h) (and_r (finite inv) (lt +0 inv) h))))
