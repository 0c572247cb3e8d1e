-- An identity solver for whole numbers. Two expressions in numbered variables are equal at all numbers if the polynomial that is computed of their difference
-- has only zero coefficients: `identity`. Its last argument is `tt` wherever the expressions are written out. Assumes nothing.
use mathlib.Core.Path.{◌≡◌, refl, sym, ap, ap₂, ◌∙◌}
use mathlib.Core.Bool.{Bool, false, ◌&&◌}
use Prim.Native.Nat.{ℕ, zero, suc}
use lib.Dec.{T, eqb, eqb→eq}
use lib.Ieee.Fits.{and_l, and_r}
use lib.IntN.{ℤ, pos, negsuc, neg_ℤ, one, ◌+ℤ◌, ◌-ℤ◌, ◌*ℤ◌, +ℤ_idl, +ℤ_idr, +ℤ_assoc, *ℤ-one, *ℤ-zero}
use Rattle.law_integers.proofs.Laws.{difference_zero, +ℤ-right_comm, +ℤ-swap, +ℤ-*ℤ, *ℤ-+ℤ, *ℤ-assoc, *ℤ-left_comm, one-*ℤ, negℤ-*ℤ}

-- ---- expressions

infixl 6 ◌:+◌ ◌:-◌
infixl 7 ◌:*◌
pub data Expr : Type 0 where
  var : ℕ → Expr
  con : ℤ → Expr
  ◌:+◌ : Expr → Expr → Expr
  ◌:-◌ : Expr → Expr → Expr
  ◌:*◌ : Expr → Expr → Expr

-- the expression's number, where variable i is x i
abbrev pub value : (ℕ → ℤ) → Expr → ℤ
value x (var i) = x i
value x (con c) = c
value x (a :+ b) = value x a +ℤ value x b
value x (a :- b) = value x a -ℤ value x b
value x (a :* b) = value x a *ℤ value x b

-- ---- polynomials

-- In Horner's form, nested: `p +x* q` is p plus variable 0 times q, and in p variable i stands for variable i + 1.
infixl 6 ◌+x*◌
pub data Poly : Type 0 where
  num : ℤ → Poly
  ◌+x*◌ : Poly → Poly → Poly

-- what the variables stand for in p
abbrev rest : (ℕ → ℤ) → ℕ → ℤ
rest x i = x (suc i)

-- the polynomial's number
abbrev eval : (ℕ → ℤ) → Poly → ℤ
eval x (num c) = c
eval x (p +x* q) = eval (rest x) p +ℤ x 0 *ℤ eval x q

abbrev add : Poly → Poly → Poly
add (num a) (num b) = num (a +ℤ b)
add (num a) (p +x* q) = add (num a) p +x* q
add (p +x* q) (num b) = add p (num b) +x* q
add (p +x* q) (p' +x* q') = add p p' +x* add q q'

abbrev scale : ℤ → Poly → Poly
scale c (num a) = num (c *ℤ a)
scale c (p +x* q) = scale c p +x* scale c q

-- f, which multiplies by something without variable 0, at each power of variable 0
abbrev each_power : (Poly → Poly) → Poly → Poly
each_power f (num a) = f (num a) +x* num (pos 0)
each_power f (p +x* q) = f p +x* each_power f q

abbrev mul : Poly → Poly → Poly
mul (num c) r = scale c r
mul (p +x* q) r = add (each_power (mul p) r) (num (pos 0) +x* mul q r)

abbrev variable : ℕ → Poly
variable zero = num (pos 0) +x* num (pos 1)
variable (suc i) = variable i +x* num (pos 0)

abbrev pub poly : Expr → Poly
poly (var i) = variable i
poly (con c) = num c
poly (a :+ b) = add (poly a) (poly b)
poly (a :- b) = add (poly a) (scale (negsuc 0) (poly b))
poly (a :* b) = mul (poly a) (poly b)

abbrev is_zero : ℤ → Bool
is_zero (pos n) = eqb n 0
is_zero (negsuc n) = false

abbrev pub all_zero : Poly → Bool
all_zero (num c) = is_zero c
all_zero (p +x* q) = all_zero p && all_zero q

-- ---- the polynomial's number is the expression's

eval_add : (x : ℕ → ℤ) (p q : Poly) → eval x (add p q) ≡ eval x p +ℤ eval x q
eval_add x (num a) (num b) = refl
eval_add x (num a) (p +x* q) = ap (λ (z : ℤ). z +ℤ x 0 *ℤ eval x q) (eval_add (rest x) (num a) p) ∙ +ℤ_assoc a (eval (rest x) p) (x 0 *ℤ eval x q)
eval_add x (p +x* q) (num b) = ap (λ (z : ℤ). z +ℤ x 0 *ℤ eval x q) (eval_add (rest x) p (num b)) ∙ +ℤ-right_comm (eval (rest x) p) b (x 0 *ℤ eval x q)
eval_add x (p +x* q) (p' +x* q') =
    ap₂ ◌+ℤ◌ (eval_add (rest x) p p') (ap (λ (z : ℤ). x 0 *ℤ z) (eval_add x q q') ∙ *ℤ-+ℤ (x 0) (eval x q) (eval x q'))
    ∙ +ℤ-swap (eval (rest x) p) (eval (rest x) p') (x 0 *ℤ eval x q) (x 0 *ℤ eval x q')

-- a factor of both parts of Horner's form
factor_out : (c a x b : ℤ) → c *ℤ a +ℤ x *ℤ (c *ℤ b) ≡ c *ℤ (a +ℤ x *ℤ b)
factor_out c a x b = ap (λ (z : ℤ). c *ℤ a +ℤ z) (*ℤ-left_comm x c b) ∙ sym (*ℤ-+ℤ c a (x *ℤ b))

eval_scale : (x : ℕ → ℤ) (c : ℤ) (p : Poly) → eval x (scale c p) ≡ c *ℤ eval x p
eval_scale x c (num a) = refl
eval_scale x c (p +x* q) =
    ap₂ (λ (y z : ℤ). y +ℤ x 0 *ℤ z) (eval_scale (rest x) c p) (eval_scale x c q) ∙ factor_out c (eval (rest x) p) (x 0) (eval x q)

eval_each_power : (x : ℕ → ℤ) (f : Poly → Poly) (c : ℤ) → ((p : Poly) → eval (rest x) (f p) ≡ c *ℤ eval (rest x) p)
    → (p : Poly) → eval x (each_power f p) ≡ c *ℤ eval x p
eval_each_power x f c h (num a) = ap₂ ◌+ℤ◌ (h (num a)) (*ℤ-zero (x 0)) ∙ +ℤ_idr (c *ℤ a)
eval_each_power x f c h (p +x* q) =
    ap₂ (λ (y z : ℤ). y +ℤ x 0 *ℤ z) (h p) (eval_each_power x f c h q) ∙ factor_out c (eval (rest x) p) (x 0) (eval x q)

eval_mul : (x : ℕ → ℤ) (p q : Poly) → eval x (mul p q) ≡ eval x p *ℤ eval x q
eval_mul x (num c) r = eval_scale x c r
eval_mul x (p +x* q) r =
    eval_add x (each_power (mul p) r) (num (pos 0) +x* mul q r)
    ∙ ap₂ ◌+ℤ◌ (eval_each_power x (mul p) (eval (rest x) p) (eval_mul (rest x) p) r)
    (+ℤ_idl (x 0 *ℤ eval x (mul q r)) ∙ ap (λ (z : ℤ). x 0 *ℤ z) (eval_mul x q r) ∙ sym (*ℤ-assoc (x 0) (eval x q) (eval x r)))
    ∙ sym (+ℤ-*ℤ (eval (rest x) p) (x 0 *ℤ eval x q) (eval x r))

eval_variable : (x : ℕ → ℤ) (i : ℕ) → eval x (variable i) ≡ x i
unfolding one
eval_variable x zero = +ℤ_idl (x 0 *ℤ pos 1) ∙ *ℤ-one (x 0)
eval_variable x (suc i) = ap₂ ◌+ℤ◌ (eval_variable (rest x) i) (*ℤ-zero (x 0)) ∙ +ℤ_idr (x (suc i))

eval_poly_lem : (x : ℕ → ℤ) (e : Expr) → eval x (poly e) ≡ value x e
eval_poly_lem x (var i) = eval_variable x i
eval_poly_lem x (con c) = refl
eval_poly_lem x (a :+ b) = eval_add x (poly a) (poly b) ∙ ap₂ ◌+ℤ◌ (eval_poly_lem x a) (eval_poly_lem x b)
eval_poly_lem x (a :- b) =
    eval_add x (poly a) (scale (negsuc 0) (poly b))
    ∙ ap₂ ◌+ℤ◌ (eval_poly_lem x a) (eval_scale x (negsuc 0) (poly b) ∙ negℤ-*ℤ (pos 1) (eval x (poly b)) ∙ ap neg_ℤ (one-*ℤ (eval x (poly b)) ∙ eval_poly_lem x b))
eval_poly_lem x (a :* b) = eval_mul x (poly a) (poly b) ∙ ap₂ ◌*ℤ◌ (eval_poly_lem x a) (eval_poly_lem x b)

-- ---- the solver

is_zero_lem : (z : ℤ) → T (is_zero z) → z ≡ pos 0
is_zero_lem (pos n) t = ap pos (eqb→eq n 0 t)
is_zero_lem (negsuc n) t = absurd t

eval_all_zero : (x : ℕ → ℤ) (p : Poly) → T (all_zero p) → eval x p ≡ pos 0
eval_all_zero x (num c) t = is_zero_lem c t
eval_all_zero x (p +x* q) t =
    ap₂ (λ (y z : ℤ). y +ℤ x 0 *ℤ z) (eval_all_zero (rest x) p (and_l (all_zero p) (all_zero q) t)) (eval_all_zero x q (and_r (all_zero p) (all_zero q) t))
    ∙ ap (λ (z : ℤ). pos 0 +ℤ z) (*ℤ-zero (x 0))

pub identity : (x : ℕ → ℤ) (a b : Expr) → T (all_zero (poly (a :- b))) → value x a ≡ value x b
identity x a b t = difference_zero (value x a) (value x b) (sym (eval_poly_lem x (a :- b)) ∙ eval_all_zero x (poly (a :- b)) t)
