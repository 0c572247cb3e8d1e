-- Horner's scheme at 1. A segment's coefficients are added up from the highest down, to place 0, then to place 1 and so on. Each number on the
-- way is a sum of binomials times coefficients, `passed`; at the end they are the sums of the equations, `passed_all`. None is so large that it
-- leaves an i64: `passed_most`. Assumes nothing.
use mathlib.Core.Path.{◌≡◌, refl, sym, ap, ap₂, ◌∙◌, subst}
use mathlib.Core.List.{List}
use mathlib.Core.Logic.{◌⊎◌, inl, inr}
use Prim.Native.Nat.{ℕ, zero, suc, ◌+◌, ◌-◌, ◌*◌, ◌^◌, ◌<◌, ◌≤◌}
use native.Mathlib.Nat.{add-suc, eq-or-lt_of_le, not-suc-le-zero, mul-le-mul}
use native.Mathlib.Omega.{arith}
use lib.Dec.{leb, leb→le}
use lib.ListN.{length, set, length-set}
use lib.Seq.{get_or-set_same, get_or-set_other}
use lib.IntN.{ℤ, pos, nat_abs, ◌+ℤ◌, ◌*ℤ◌, +ℤ_idl, zero-*ℤ}
use Rattle.law_integers.proofs.Laws.{nat_abs-+ℤ, nat_abs-*ℤ, one-*ℤ, +ℤ-*ℤ}
use Rattle.law_lists.specs.Lists.{every}
use Rattle.rules.specs.Master.{at, coefficient, at_end, binomial, sumℤ, within}
use Rattle.law_lists.proofs.Lists.{below_suc, every_at}
use Rattle.theorem_exact.proofs.Sums.{sum_same, sum_add, sum_split, sum_first, sum_zero}
use Rattle.master_numbers.specs.Sums.{Summable, AddedUp, sum_from}

-- ---- binomials

binomial_below : (k r : ℕ) → k < r → binomial k r ≡ 0
unfolding binomial
binomial_below k zero h = absurd (not-suc-le-zero h)
binomial_below zero (suc r) h = refl
binomial_below (suc k) (suc r) h = ap₂ ◌+◌ (binomial_below k r (omega arith)) (binomial_below k (suc r) (omega arith))

-- C(k,r) is at most 35, for k = 0 to 7 and r = 0 to 6
binomial_most : (r k : ℕ) → r ≤ 6 → k < 8 → binomial k r ≤ 35
unfolding binomial every
binomial_most r k h l =
    let row = every_at 7 (λ r'. every 8 (λ k'. leb (binomial k' r') 35)) tt r (omega arith) in
    leb→le (binomial k r) 35 (every_at 8 (λ k'. leb (binomial k' r) 35) row k l)

-- ---- sums of binomials times numbers

-- the sum of C(p,p) × f 0, C(p + 1,p) × f 1, .., n summands
raised : ℕ → ℕ → (ℕ → ℤ) → ℤ
raised p n f = sumℤ n (λ q. pos (binomial (q + p) p) *ℤ f q)

raised_none : (p : ℕ) (f : ℕ → ℤ) → raised p 0 f ≡ pos 0
unfolding raised sumℤ
raised_none p f = refl

-- the first column is all ones
raised_plain : (n : ℕ) (f : ℕ → ℤ) → sumℤ n f ≡ raised 0 n f
unfolding raised binomial
raised_plain n f = sum_same n _ _ (λ q l. sym (one-*ℤ (f q)))

raised_same : (p : ℕ) {n k : ℕ} {f g : ℕ → ℤ} → n ≡ k → ((q : ℕ) → f q ≡ g q) → raised p n f ≡ raised p k g
unfolding raised
raised_same p {n} {k} {f} {g} e h =
    ap (λ (j : ℕ). raised p j f) e ∙ sum_same k _ _ (λ q l. ap (λ (z : ℤ). pos (binomial (q + p) p) *ℤ z) (h q))

-- Pascal's triangle: a sum of the next column is one of this column and the rest of its own
raised_next : (p n : ℕ) (f : ℕ → ℤ) → raised (suc p) (suc n) f ≡ raised p (suc n) f +ℤ raised (suc p) n (λ q. f (suc q))
unfolding raised binomial
raised_next p n f =
    sum_same (suc n) _ _ (λ q l. pascal q (f q))
    ∙ sum_add (suc n) _ _
    ∙ ap (λ (z : ℤ). raised p (suc n) f +ℤ z) (sum_first n _ ∙ ap₂ ◌+ℤ◌ none (sum_same n _ _ later) ∙ +ℤ_idl _)
  where
    pascal : (q : ℕ) (y : ℤ) → pos (binomial (q + suc p) (suc p)) *ℤ y ≡ pos (binomial (q + p) p) *ℤ y +ℤ pos (binomial (q + p) (suc p)) *ℤ y
    pascal q y = rw add-suc (+ℤ-*ℤ (pos (binomial (q + p) p)) (pos (binomial (q + p) (suc p))) y)

    none : pos (binomial (0 + p) (suc p)) *ℤ f 0 ≡ pos 0
    none = ap (λ (b : ℕ). pos b *ℤ f 0) (binomial_below (0 + p) (suc p) (omega arith)) ∙ zero-*ℤ (f 0)

    later : (q : ℕ) → q < n → pos (binomial (suc q + p) (suc p)) *ℤ f (suc q) ≡ pos (binomial (q + suc p) (suc p)) *ℤ f (suc q)
    later q l = ap (λ (k : ℕ). pos (binomial k (suc p)) *ℤ f (suc q)) {x = suc q + p} {y = q + suc p} (omega arith)

-- so the sums of one column, from each place on, add up to a sum of the next
raised_sum : (p n : ℕ) (f : ℕ → ℤ) → sumℤ n (λ i. raised p (n - i) (λ q. f (i + q))) ≡ raised (suc p) n f
unfolding sumℤ
raised_sum p zero f = sym (raised_none (suc p) f)
raised_sum p (suc n) f =
    sum_first n _
    ∙ ap₂ ◌+ℤ◌ (raised_same p (omega arith) (λ q. ap f (omega arith)))
    (sum_same n _ _ (λ j l. raised_same p (omega arith) (λ q. ap f (omega arith))) ∙ raised_sum p n (λ q. f (suc q)))
    ∙ sym (raised_next p n f)

raised_most : (p : ℕ) → p ≤ 6 → (n : ℕ) (f : ℕ → ℤ) → n + p ≤ 8 → ((q : ℕ) → q < n → nat_abs (f q) ≤ 2 ^ 40) → nat_abs (raised p n f) ≤ n * (35 * 2 ^ 40)
unfolding raised sumℤ
raised_most p h zero f l most = omega arith
raised_most p h (suc n) f l most =
    omega (
      arith,
      raised_most p h n f (omega arith) (λ q k. most q (omega arith)),
      product,
      nat_abs-+ℤ (raised p n f) (pos (binomial (n + p) p) *ℤ f n),
    )
  where
    product : nat_abs (pos (binomial (n + p) p) *ℤ f n) ≤ 35 * 2 ^ 40
    product = rw nat_abs-*ℤ (mul-le-mul (binomial_most p (n + p) h (omega arith)) (most n (omega arith)))

-- ---- the numbers on the way

-- Coefficients c 0 to c last. After r times the number at place k, where r ≤ k.
module _ (c : ℕ → ℤ) (last : ℕ) where
  pub passed : ℕ → ℕ → ℤ
  passed zero k = c k
  passed (suc p) k = raised p (suc last - k) (λ q. c (k + q))

  -- added up once more
  passed_next : (r k : ℕ) → sumℤ (suc last - k) (λ i. passed r (k + i)) ≡ passed (suc r) k
  unfolding passed
  passed_next zero k = raised_plain (suc last - k) (λ i. c (k + i))
  passed_next (suc p) k =
      sum_same (suc last - k) _ _ (λ i l. raised_same p (omega arith) (λ q. ap c (omega arith)))
      ∙ raised_sum p (suc last - k) (λ q. c (k + q))

  -- a number that is not added to any more
  passed_all : (r : ℕ) → r ≤ last → passed (suc r) r ≡ sumℤ (suc last) (λ k. pos (binomial k r) *ℤ c k)
  unfolding passed raised
  passed_all r h =
      sym
      (ap (λ (n : ℕ). sumℤ n term) (omega arith)
      ∙ sum_split r (suc last - r) term
      ∙ ap₂ ◌+ℤ◌ (sum_same r _ _ lower ∙ sum_zero r) (sum_same (suc last - r) _ _ (λ q l. ap (λ (k : ℕ). pos (binomial k r) *ℤ c (r + q)) (omega arith)))
      ∙ +ℤ_idl _)
    where
      term : ℕ → ℤ
      term k = pos (binomial k r) *ℤ c k

      lower : (k : ℕ) → k < r → term k ≡ pos 0
      lower k l = ap (λ (b : ℕ). pos b *ℤ c k) (binomial_below k r l) ∙ zero-*ℤ (c k)

  -- of coefficients within ±2^40, all below 2^63, the bound of an i64
  passed_most : (r k : ℕ) → r ≤ 6 → r ≤ k → k ≤ last → last ≤ 7 → ((j : ℕ) → j ≤ last → nat_abs (c j) ≤ 2 ^ 40) → nat_abs (passed (suc r) k) < 2 ^ 63
  unfolding passed
  passed_most r k few above below short most =
      omega (arith, raised_most r few (suc last - k) (λ q. c (k + q)) (omega arith) (λ q l. most (k + q) (omega arith)))

-- ---- the loop that adds up to a first place

-- the invariant: the places from k on are added up, and those below are as they were
pub record Adding (first last : ℕ) (b₀ : List ℤ) (k : ℕ) (b : List ℤ) : Type 0 where
  pub least : first ≤ k
  pub most : k ≤ last
  pub size : length b ≡ length b₀
  pub below : (j : ℕ) → j < k → at b j ≡ at b₀ j
  pub added : (j : ℕ) → k ≤ j → j ≤ last → at b j ≡ sum_from b₀ last j

-- the last place is its own sum, and any other the number there and the sum from the next one on
sum_last : (b : List ℤ) (last : ℕ) → sum_from b last last ≡ at b last
unfolding sum_from sumℤ
sum_last b last = ap (λ (n : ℕ). sumℤ n (λ i. at b (last + i))) {x = suc last - last} {y = 1} (omega arith) ∙ +ℤ_idl (at b (last + 0)) ∙ ap (at b) (omega arith)

sum_more : (b : List ℤ) (last k : ℕ) → k < last → sum_from b last k ≡ at b k +ℤ sum_from b last (suc k)
unfolding sum_from
sum_more b last k h =
    ap (λ (n : ℕ). sumℤ n (λ i. at b (k + i))) {x = suc last - k} {y = suc (last - k)} (omega arith)
    ∙ sum_first (last - k) _
    ∙ ap₂ ◌+ℤ◌ (ap (at b) (omega arith))
    (sum_same (last - k) _ _ (λ i l. ap (at b) (omega arith))
    ∙ ap (λ (n : ℕ). sumℤ n (λ i. at b (suc k + i))) {x = last - k} {y = suc last - suc k} (omega arith))

pub none_added : (first last : ℕ) (b : List ℤ) → first ≤ last → Adding first last b last b
none_added first last b l = record {
  least = l;
  most = omega arith;
  size = refl;
  below = λ j h. refl;
  added = λ j h g. let same : j ≡ last = omega arith in rw same (sym (sum_last b last));
}

module _ {first last : ℕ} {b₀ : List ℤ} {k : ℕ} {b : List ℤ} (s : Adding first last b₀ k b) (l : first < k) where
  -- the sum that the code works out
  pub next_sum : at b (k - 1) +ℤ at b (k - 1 + 1) ≡ sum_from b₀ last (k - 1)
  next_sum =
      let here : k - 1 + 1 ≡ k = omega arith in
      let most = s.most in
      ap₂ ◌+ℤ◌ (s.below (k - 1) (omega arith)) (ap (at b) here ∙ s.added k (omega arith) most ∙ ap (sum_from b₀ last) (omega arith))
      ∙ sym (sum_more b₀ last (k - 1) (omega arith))

  pub one_added : {z : ℤ} → last < length b₀ → z ≡ sum_from b₀ last (k - 1) → Adding first last b₀ (k - 1) (set b (k - 1) z)
  one_added {z} inside e =
      let most = s.most in
      record {
        least = omega arith;
        most = omega arith;
        size = length-set b (k - 1) z ∙ s.size;
        below = λ j h. get_or-set_other b (k - 1) j z (pos 0) (λ q. omega arith) ∙ s.below j (omega arith);
        added = λ j h g. place j g (eq-or-lt_of_le h);
      }
    where
      place : (j : ℕ) → j ≤ last → (k - 1 ≡ j) ⊎ (k - 1 < j) → at (set b (k - 1) z) j ≡ sum_from b₀ last j
      place j g (inl q) =
          subst (λ (n : ℕ). at (set b (k - 1) z) n ≡ sum_from b₀ last n) q
          (get_or-set_same b (k - 1) z (pos 0) (omega (arith, s.most, s.size, inside)) ∙ e)
      place j g (inr q) = get_or-set_other b (k - 1) j z (pos 0) (λ p. omega arith) ∙ s.added j (omega arith) g

-- ---- the loop over the first places

-- the invariant: r times were done, to the places 0 to r - 1
pub record Shifted (m : ℕ) (table : List ℤ) (i r : ℕ) (b : List ℤ) : Type 0 where
  pub most : r ≤ 2 * m + 1
  pub size : length b ≡ 8
  pub done : (j : ℕ) → j < r → at b j ≡ at_end m table i j
  pub rest : (k : ℕ) → r ≤ k → k ≤ 2 * m + 1 → at b k ≡ passed (coefficient m table i) (2 * m + 1) r k

-- the coefficients as they are
pub unshifted : (m : ℕ) (table : List ℤ) (i : ℕ) (b : List ℤ) → length b ≡ 8
    → ((k : ℕ) → k < 2 * m + 2 → at b k ≡ coefficient m table i k) → Shifted m table i 0 b
unfolding passed
unshifted m table i b l e = record { most = omega arith; size = l; done = λ j h. absurd (not-suc-le-zero h); rest = λ k l h. e k (omega arith) }

module _ {m : ℕ} {table : List ℤ} {i r : ℕ} {b : List ℤ} (s : Shifted m table i r b) where
  abbrev c : ℕ → ℤ
  c = coefficient m table i

  sum_passed : (k : ℕ) → r ≤ k → sum_from b (2 * m + 1) k ≡ passed c (2 * m + 1) (suc r) k
  unfolding sum_from
  sum_passed k l = sum_same (suc (2 * m + 1) - k) _ _ (λ j h. s.rest (k + j) (omega arith) (omega arith)) ∙ passed_next c (2 * m + 1) r k

  -- what is added up fits, where the coefficients are within ±2^40
  pub sum_fits : Summable m table i → r < 2 * m + 1 → (k : ℕ) → r ≤ k → k ≤ 2 * m + 1 → nat_abs (sum_from b (2 * m + 1) k) < 2 ^ 63
  unfolding within
  sum_fits h l k above below =
      let few = h.most_m in
      rw (sum_passed k above)
      (passed_most c (2 * m + 1) r k (omega arith) above below (omega arith) (λ j g. leb→le (nat_abs (c j)) (2 ^ 40) (h.coefficients j (omega arith))))

  -- one time more
  pub turned : {b' : List ℤ} → r < 2 * m + 1 → length b' ≡ length b → AddedUp r (2 * m + 1) b b' → Shifted m table i (r + 1) b'
  unfolding at_end
  turned {b'} l e a = record {
    most = omega arith;
    size = e ∙ s.size;
    done = λ j h. done_next j (below_suc (omega arith));
    rest = λ k above below.
        a.added k (omega arith) below ∙ sum_passed k (omega arith) ∙ ap (λ (n : ℕ). passed c (2 * m + 1) n k) (omega arith);
  }
    where
      settled : at b' r ≡ at_end m table i r
      settled =
          a.added r (omega arith) (omega arith)
          ∙ sum_passed r (omega arith)
          ∙ passed_all c (2 * m + 1) r (omega arith)
          ∙ ap (λ (n : ℕ). sumℤ n (λ k. pos (binomial k r) *ℤ c k)) (omega arith)

      done_next : (j : ℕ) → (j ≡ r) ⊎ (j < r) → at b' j ≡ at_end m table i j
      done_next j (inl e) = subst (λ (n : ℕ). at b' n ≡ at_end m table i n) (sym e) settled
      done_next j (inr h) = a.below j h ∙ s.done j h
