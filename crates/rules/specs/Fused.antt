-- The fused multiply-add, module 1 of document 01, which "takes all f64, refuses nothing". Its rule: "the exact product plus addend, over whole numbers,
-- rounded once. An exact zero keeps the sign when product and addend share it, else +0. Any NaN, zero times infinity, or opposite infinities give NaN."
-- The kit's `add` has all of that for a sum: it adds over whole numbers and rounds once, however many digits its operands have. Assumes nothing.
use Rattle.std.specs.Prelude.{◌*◌, cond, ◌+ℤ◌, eqb, Float}
use Rattle.std.specs.Float.{nan, inf, fin, Format}
use Rattle.std.specs.Float.Ieee.{unlike, add}

-- R29, R30, R31: a × b with nothing rounded: digits times digits, at the sum of the exponents. Zero times infinity is NaN.
unfoldable pub exact_product : Float → Float → Float
exact_product nan y = nan
exact_product (inf s) nan = nan
exact_product (inf s) (inf t) = inf (unlike s t)
exact_product (inf s) (fin t n d) = cond (eqb n 0) nan (inf (unlike s t))
exact_product (fin s m e) nan = nan
exact_product (fin s m e) (inf t) = cond (eqb m 0) nan (inf (unlike s t))
exact_product (fin s m e) (fin t n d) = fin (unlike s t) (m * n) (e +ℤ d)

-- D2a, G2, R29, R30, R31: a × b + c, rounded once
unfoldable pub fused : Format → Float → Float → Float → Float
fused f a b c = add f (exact_product a b) c
