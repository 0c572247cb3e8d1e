-- Fixed bytes, counts and numbers are read exactly. Assumes nothing.
use Prim.{Unit, tt}
use mathlib.Core.Path.{◌≡◌, refl, sym, ap, subst, ◌∙◌}
use mathlib.Core.Bool.{Bool, true, false}
use mathlib.Core.List.{List, [], ◌∷◌, ◌++◌, append-nil}
use Prim.Native.Nat.{ℕ, zero, suc, ◌+◌, ◌-◌, ◌*◌, ◌<◌, ◌≤◌}
use native.Mathlib.Omega.{arith}
use lib.IntN.{ℤ, pos, negsuc, neg_ℤ, nat_abs}
use lib.ListN.{length}
use lib.Dec.{eqb}
use borrow.Author.Tests.{leb-true, le-leb, eqb-true, eqb-false, eq-eqb, ne_eqb}
use Rattle.rules.specs.Sheets.{natural, decimal, signed, bytes}
use Rattle.rules.specs.SheetReading.{Read, got, stop, then, word, is_digit, is_first, digits, positive, number, count, up_to64, head}
use Rattle.sheet_laws.proofs.Decimal.{
  natural_digit,
  first_bounds,
  Stops,
  digits_over,
  positive_reads,
  positive_complete,
  DigitsOut,
  ended,
  passed,
  digits_out,
}
use Rattle.sheet_laws.proofs.Exact.{
  Fault,
  Out,
  reads,
  faults,
  other,
  Complete,
  Any,
  both,
  Joins,
  both_complete,
  both_out,
  same_complete,
  same_out,
  then_got,
}

-- nothing is both empty and not
pub no_cons : {b : ℕ} {r : List ℕ} → [] ≡ b ∷ r → ⊥
no_cons e = let z : ◌≡◌ {A = ℕ} 0 1 = cc in omega arith

-- ---- fixed bytes

abbrev pub always : Unit {0} → Type 0
always u = Unit {0}

abbrev pub word_n : List ℕ → ℕ → List ℕ → Read (Unit {0})
word_n w m t = word w t

pub word_complete : (w : List ℕ) → Complete (λ u. w) always (word_n w) Any
unfolding Complete word
word_complete [] u z m v f l = refl
word_complete (w ∷ ws) u z m v f l = rw (eq-eqb w w refl, word) (word_complete ws u z (suc (length (ws ++ z))) v f (omega arith))

pub word_out : (w t : List ℕ) → Out (λ u. w) always (word_n w) Any t (word w t)
unfolding word
word_out [] t = reads tt t refl refl tt tt
word_out (w ∷ ws) [] = faults [] refl (record {
  before = [];
  split = refl;
  some = tt;
  valid = tt;
  tail = w ∷ ws;
  begins = refl;
  stops =
      λ b r e m y l. absurd (no_cons e);
})
word_out (w ∷ ws) (b ∷ t) = go (eqb b w) refl (word_out ws t)
  where
    go : (x : Bool) → eqb b w ≡ x → Out (λ u. ws) always (word_n ws) Any t (word ws t)
        → Out (λ u. w ∷ ws) always (word_n (w ∷ ws)) Any (b ∷ t) (word (w ∷ ws) (b ∷ t))
    go false e o = faults (b ∷ t) (rw (e, word)) (record {
      before = [];
      split = refl;
      some = tt;
      valid = tt;
      tail = w ∷ ws;
      begins = refl;
      stops = λ c r h m y l. let i : b ≡ c = cc in rw (subst (λ x. eqb x w ≡ false) i e, word);
    })
    go true e (reads u z p s v f) = let i = eqb-true b w e in reads tt z (rw (e, word) p) (rw i (ap (λ l. w ∷ l) s)) tt tt
    go true e (other k rest p h) = other k rest (rw (e, word) p) h
    go true e (faults rest p f) =
        let i = eqb-true b w e in
        faults rest (rw (e, word) p) (record {
          before = w ∷ f.before;
          split = rw i (ap (λ l. w ∷ l) f.split);
          some = tt;
          valid = tt;
          tail = f.tail;
          begins = ap (λ l. w ∷ l) f.begins;
          stops = λ c r h m y l. rw (eq-eqb w w refl, word) (f.stops c r h m y (omega arith));
        })

-- ---- numbers without a sign

pub data PositiveOut (fits : ℕ → Bool) (t : List ℕ) (over : List ℕ → Read ℕ) (x : Read ℕ) : Type 0 where
  none : x ≡ stop 600 t → ((c : ℕ) (r : List ℕ) → t ≡ c ∷ r → is_first c ≡ false) → PositiveOut fits t over x
  some : DigitsOut fits t over x → PositiveOut fits t over x

pub positive_none : (fits : ℕ → Bool) (over : List ℕ → Read ℕ) (c : ℕ) (y : List ℕ) → is_first c ≡ false → positive fits over (c ∷ y) ≡ stop 600 (c ∷ y)
unfolding positive
positive_none fits over c y e = rw (e, positive)

module _ (fits : ℕ → Bool) (over : List ℕ → Read ℕ) (small : (d : ℕ) → d < 10 → fits d ≡ true) where
  pub positive_out : (t : List ℕ) → PositiveOut fits t over (positive fits over t)
  unfolding positive
  positive_out [] = none refl (λ c r e. absurd (no_cons e))
  positive_out (b ∷ t) = go (is_first b) refl
    where
      go : (x : Bool) → is_first b ≡ x → PositiveOut fits (b ∷ t) over (positive fits over (b ∷ t))
      go false e = none (rw (e, positive)) (λ c r h. let i : b ≡ c = cc in subst (λ x. is_first x ≡ false) i e)
      go true e =
          let m = first_bounds b e in
          let i : 48 + (b - 48) ≡ b = omega arith in
          let f : natural (b - 48) ++ t ≡ b ∷ t = ap (λ l. l ++ t) (natural_digit (b - 48) (omega arith)) ∙ ap (λ c. c ∷ t) i in
          rw (e, positive) (some (subst (λ l. DigitsOut fits l over (digits fits over (b - 48) t)) f
          (digits_out fits over (b - 48) t (omega arith) (small (b - 48) (omega arith)))))

-- ---- counts

abbrev pub Count : ℕ → Type 0
Count n = (1 ≤ n) × (n ≤ 64)

abbrev pub count_n : ℕ → List ℕ → Read ℕ
count_n m t = count t

abbrev pub Stopped : ℕ → List ℕ → Type 0
Stopped n z = Stops z

small_shorter : (n d : ℕ) → up_to64 (n * 10 + d) ≡ true → up_to64 n ≡ true
small_shorter n d e = le-leb n 64 (let h = leb-true (n * 10 + d) 64 e in omega arith)

pub count_complete : Complete natural Count count_n Stopped
unfolding Complete
count_complete n z m v f l = positive_complete up_to64 (λ r. stop 600 r) small_shorter n v.0 (le-leb n 64 v.1) z f

pub count_out : (t : List ℕ) → Out natural Count count_n Stopped t (count t)
count_out t = go (positive_out up_to64 (λ r. stop 600 r) (λ d h. le-leb d 64 (omega arith)) t)
  where
    go : PositiveOut up_to64 t (λ r. stop 600 r) (count t) → Out natural Count count_n Stopped t (count t)
    go (none e f) = faults t e (record {
      before = [];
      split = refl;
      some = 1;
      valid = omega arith;
      tail = natural 1;
      begins = refl;
      stops = λ c r h m y l. positive_none up_to64 (λ r. stop 600 r) c y (f c r h);
    })
    go (some (ended v z e s h k w)) = reads v z e s (h, leb-true v 64 k) w
    go (some (passed v b z e s h k d big)) = faults (b ∷ z) e (record {
      before = natural v;
      split = s;
      some = v;
      valid = (h, leb-true v 64 k);
      tail = [];
      begins = sym (append-nil (natural v));
      stops = λ c r i m y l. let j : b ≡ c = cc in
          positive_reads up_to64 (λ r. stop 600 r) small_shorter v h k (c ∷ y)
          ∙ digits_over up_to64 (λ r. stop 600 r) v c y (subst (λ x. is_digit x ≡ true) j d) (subst (λ x. up_to64 (v * 10 + (x - 48)) ≡ false) j big);
    })

-- ---- numbers

-- what may follow a number: no digit, unless it is 0
unfoldable pub Ends : ℤ → List ℕ → Type 0
Ends (pos zero) z = Unit {0}
Ends (pos (suc n)) z = Stops z
Ends (negsuc n) z = Stops z

pub stops_ends : (a : ℤ) (z : List ℕ) → Stops z → Ends a z
unfolding Ends
stops_ends (pos zero) z h = tt
stops_ends (pos (suc n)) z h = h
stops_ends (negsuc n) z h = h

stops_keeps : (p : List ℕ) (b : ℕ) (r y : List ℕ) → Stops (p ++ (b ∷ r)) → Stops (p ++ (b ∷ y))
unfolding Stops
stops_keeps [] b r y h = h
stops_keeps (c ∷ p) b r y h = h

pub ends_keeps : (a : ℤ) (p : List ℕ) (b : ℕ) (r y : List ℕ) → Ends a (p ++ (b ∷ r)) → Ends a (p ++ (b ∷ y))
unfolding Ends
ends_keeps (pos zero) p b r y h = tt
ends_keeps (pos (suc n)) p b r y h = stops_keeps p b r y h
ends_keeps (negsuc n) p b r y h = stops_keeps p b r y h

module _ (fits : ℕ → Bool) (small : (d : ℕ) → d < 10 → fits d ≡ true) (shorter : (n d : ℕ) → fits (n * 10 + d) ≡ true → fits n ≡ true) where
  unfoldable pub Number : ℤ → Type 0
  Number z = fits (nat_abs z) ≡ true

  abbrev pub number_n : ℕ → List ℕ → Read ℤ
  number_n m t = number fits t

  -- a number with no sign is read as one
  number_plain : (t : List ℕ) (v : ℕ) (z : List ℕ) → positive fits (λ r. stop 4 t) t ≡ got v z → number fits t ≡ got (pos v) z
  unfolding positive number then
  number_plain [] v z e = let w : ◌≡◌ {A = ℕ} 0 1 = cc in absurd (omega arith)
  number_plain (b ∷ t) v z e = go (is_first b) refl
    where
      go : (x : Bool) → is_first b ≡ x → number fits (b ∷ t) ≡ got (pos v) z
      go false i = let f = positive_none fits (λ r. stop 4 (b ∷ t)) b t i in let w : ◌≡◌ {A = ℕ} 0 1 = cc in absurd (omega arith)
      go true i =
          let m = first_bounds b i in
          rw (ne_eqb b 45 (λ j. omega arith), ne_eqb b 48 (λ j. omega arith), number) (rw e)

  pub number_complete : Complete signed Number number_n Ends
  unfolding Complete Number Ends signed natural decimal number then
  number_complete (pos zero) z m v f l = refl
  number_complete (pos (suc n)) z m v f l = number_plain (natural (suc n) ++ z) (suc n) z
      (positive_complete fits (λ r. stop 4 (natural (suc n) ++ z)) shorter (suc n) (omega arith) v z f)
  number_complete (negsuc n) z m v f l = rw (positive_complete fits (λ r. stop 4 (45 ∷ (natural (suc n) ++ z))) shorter (suc n) (omega arith) v z f)

  -- where a number's first byte is neither a minus nor 0
  plain_first : (b : ℕ) (t : List ℕ) → (b ≡ 45 → ⊥) → (b ≡ 48 → ⊥) → number fits (b ∷ t)
      ≡ then (positive fits (λ r. stop 4 (b ∷ t)) (b ∷ t)) (λ n rest. got (pos n) rest)
  unfolding number
  plain_first b t h k = rw (ne_eqb b 45 h, ne_eqb b 48 k, number)

  minus_fault : (t : List ℕ) → ((c : ℕ) (r : List ℕ) → t ≡ c ∷ r → is_first c ≡ false) → Fault signed Number number_n (45 ∷ t) t
  unfolding Number number signed then
  minus_fault t f = record {
    before = 45 ∷ [];
    split = refl;
    some = negsuc 0;
    valid = small 1 (omega arith);
    tail = natural 1;
    begins = refl;
    stops = λ c r h m y l. rw (positive_none fits (λ r. stop 4 (45 ∷ c ∷ y)) c y (f c r h));
  }

  plain_fault : (b : ℕ) (t : List ℕ) → (b ≡ 45 → ⊥) → (b ≡ 48 → ⊥) → is_first b ≡ false → Fault signed Number number_n (b ∷ t) (b ∷ t)
  unfolding Number signed then
  plain_fault b t h k f = record {
    before = [];
    split = refl;
    some = pos 0;
    valid = small 0 (omega arith);
    tail = natural 0;
    begins = refl;
    stops = λ c r e m y l.
        let i : c ≡ b = cc in
        plain_first c y (λ j. h (sym i ∙ j)) (λ j. k (sym i ∙ j))
        ∙ rw (positive_none fits (λ r. stop 4 (c ∷ y)) c y (subst (λ x. is_first x ≡ false) (sym i) f));
  }

  pub number_out : (t : List ℕ) → Out signed Number number_n Ends t (number fits t)
  unfolding Number number signed then Ends natural decimal
  number_out [] = faults [] refl (record {
    before = [];
    split = refl;
    some = pos 0;
    valid = small 0 (omega arith);
    tail = natural 0;
    begins = refl;
    stops =
        λ b r e m y l. absurd (no_cons e);
  })
  number_out (b ∷ t) = go (eqb b 45) refl (eqb b 48) refl
    where
      minus : (x : Read ℕ) → PositiveOut fits t (λ r. stop 4 (b ∷ t)) x → b ≡ 45
          → Out signed Number number_n Ends (b ∷ t) (then x (λ n rest. got (neg_ℤ (pos n)) rest))
      minus x (none e f) i = faults t (rw e) (rw i (minus_fault t f))
      minus x (some (ended zero z e s h k w)) i = absurd (omega arith)
      minus x (some (ended (suc v) z e s h k w)) i = reads (negsuc v) z (rw e) (rw i (ap (λ l. 45 ∷ l) s)) k w
      minus x (some (passed v c z e s h k d big)) i = other 4 (b ∷ t) (rw e) (λ j. omega arith)

      plain : (x : Read ℕ) → PositiveOut fits (b ∷ t) (λ r. stop 4 (b ∷ t)) x → (b ≡ 45 → ⊥) → (b ≡ 48 → ⊥)
          → Out signed Number number_n Ends (b ∷ t) (then x (λ n rest. got (pos n) rest))
      plain x (none e f) h k = faults (b ∷ t) (rw e) (plain_fault b t h k (f b t refl))
      plain x (some (ended zero z e s i k w)) h j = absurd (omega arith)
      plain x (some (ended (suc v) z e s i k w)) h j = reads (pos (suc v)) z (rw e) s k w
      plain x (some (passed v c z e s i k d big)) h j = other 4 (b ∷ t) (rw e) (λ j. omega arith)

      go : (x : Bool) → eqb b 45 ≡ x → (y : Bool) → eqb b 48 ≡ y → Out signed Number number_n Ends (b ∷ t) (number fits (b ∷ t))
      go true e y f = rw (e, number) (minus (positive fits (λ r. stop 4 (b ∷ t)) t) (positive_out fits (λ r. stop 4 (b ∷ t)) small t) (eqb-true b 45 e))
      go false e true f = let i = eqb-true b 48 f in rw i (reads (pos 0) t refl refl (small 0 (omega arith)) tt)
      go false e false f = rw (e, f, number) (plain (positive fits (λ r. stop 4 (b ∷ t)) (b ∷ t)) (positive_out fits (λ r. stop 4 (b ∷ t)) small (b ∷ t))
          (eqb-false b 45 e) (eqb-false b 48 f))

-- ---- the (bytes "again ") of a form: fixed bytes, a count, a space

abbrev pub spell_head : ℕ → List ℕ
spell_head n = (bytes "again ") ++ (natural n ++ (32 ∷ []))

abbrev pub head_n : ℕ → List ℕ → Read ℕ
head_n m t = head t

-- the count and the space
abbrev count_space : ℕ → List ℕ → Read ℕ
count_space = both {B = Unit {0}} (λ n u. n) natural Count count_n Stopped (λ u. 32 ∷ []) always (word_n (32 ∷ [])) Any (λ n. natural n ++ (32 ∷ [])) Count Any

count_space_lem :
    Joins {B = Unit {0}} (λ n u. n) natural Count count_n Stopped (λ u. 32 ∷ []) always (word_n (32 ∷ [])) Any (λ n. natural n ++ (32 ∷ [])) Count Any
unfolding Stops
count_space_lem = record {
  spell = λ n u. refl;
  valid = λ n u v w. v;
  after = λ n u z f. tt;
  next = λ n u z v. refl;
  keeps =
      λ n p b r y h. stops_keeps p b r y h;
  some = tt;
  good = tt;
  complete = count_complete;
}

count_space_complete : Complete (λ n. natural n ++ (32 ∷ [])) Count count_space Any
unfolding Complete
count_space_complete n z m v f l =
    both_complete (λ n u. n) natural Count count_n Stopped (λ u. 32 ∷ []) always (word_n (32 ∷ [])) Any (λ n. natural n ++ (32 ∷ [])) Count Any count_space_lem
    (word_complete (32 ∷ [])) n tt z m v tt tt l

count_space_out : (n : ℕ) (t : List ℕ) → Out (λ n. natural n ++ (32 ∷ [])) Count count_space Any t (count_space n t)
count_space_out n t =
    both_out (λ n u. n) natural Count count_n Stopped (λ u. 32 ∷ []) always (word_n (32 ∷ [])) Any (λ n. natural n ++ (32 ∷ [])) Count Any count_space_lem n t
    (count_out t) (λ t1 l. word_out (32 ∷ []) t1)

-- the fixed bytes before
abbrev head_both : ℕ → List ℕ → Read ℕ
head_both =
    both (λ u n. n) (λ u. (bytes "again ")) always (word_n (bytes "again ")) Any (λ n. natural n ++ (32 ∷ [])) Count count_space Any spell_head Count Any

head_joins :
    Joins (λ u n. n) (λ u. (bytes "again ")) always (word_n (bytes "again ")) Any (λ n. natural n ++ (32 ∷ [])) Count count_space Any spell_head Count Any
head_joins = record {
  spell = λ u n. refl;
  valid = λ u n v w. w;
  after = λ u n z f. tt;
  next = λ u n z v. tt;
  keeps = λ u p b r y h. tt;
  some = 1;
  good =
      omega arith;
  complete = word_complete (bytes "again ");
}

head_same : (m : ℕ) (t : List ℕ) → head_both m t ≡ head t
unfolding head then
head_same m t = go (word (bytes "again ") t) refl
  where
    go : (x : Read (Unit {0})) → word (bytes "again ") t ≡ x → head_both m t ≡ head t
    go (got u t1) e = rw e (then_got (count_space m t1))
    go (stop k r) e = rw e

pub head_complete : Complete spell_head Count head_n Any
unfolding Complete
head_complete =
    same_complete spell_head Count head_both head_n Any head_same
    (λ n z m v f l. both_complete (λ u n. n) (λ u. (bytes "again ")) always (word_n (bytes "again ")) Any (λ n. natural n ++ (32 ∷ [])) Count count_space Any
    spell_head Count Any head_joins count_space_complete tt n z m tt v tt l)

pub head_out : (t : List ℕ) → Out spell_head Count head_n Any t (head t)
head_out t =
    rw (← head_same 0 t)
    (same_out spell_head Count head_both head_n Any head_same t (head_both 0 t)
    (both_out (λ u n. n) (λ u. (bytes "again ")) always (word_n (bytes "again ")) Any (λ n. natural n ++ (32 ∷ [])) Count count_space Any spell_head Count Any
    head_joins 0 t (word_out (bytes "again ") t) (λ t1 l. count_space_out 0 t1)))
