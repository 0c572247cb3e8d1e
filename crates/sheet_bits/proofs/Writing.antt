-- Laws of what is written onto a page: nothing, one thing after another, parts, and a byte that stood there before. Assumes nothing.
use mathlib.Core.Path.{◌≡◌, refl, sym, ap, ◌∙◌, subst}
use mathlib.Core.List.{List, [], ◌∷◌, ◌++◌, append_assoc}
use mathlib.Core.Logic.{◌⊎◌, inl, inr}
use Prim.Native.Nat.{ℕ, zero, suc, ◌+◌, ◌-◌, ◌<◌, ◌≤◌}
use native.Mathlib.Numerals.{add-one}
use native.Mathlib.Nat.{zero-add}
use native.Mathlib.Omega.{arith}
use borrow.Rule.Slice.PartMut.{put_mid}
use lib.Seq.{paste, length-take-le, drop_at, take-set-le, set_split}
use Rattle.std.proofs.lemmas.Slice.{put_mid-paste}
use lib.ListN.{length, set, take, drop, length-append}
use Rattle.std.proofs.lemmas.List.Edits.{paste_none, paste_all, paste-paste, length-paste}
use Rattle.law_lists.specs.Lists.{joined}
use Rattle.law_lists.proofs.Lists.{below_suc}
use Rattle.sheet_bits.specs.declared.Page.{Page}
use Rattle.sheet_bits.specs.Page.{HasRoom, Wrote}

-- a byte that stands after x already
written_set : (out : List ℕ) (at : ℕ) (x : List ℕ) (b : ℕ) → at + length x < length out
    → take at (set out (at + length x) b) ++ (x ++ drop (at + length x) (set out (at + length x) b))
    ≡ take at out ++ ((x ++ (b ∷ [])) ++ drop (at + length (x ++ (b ∷ []))) out)
written_set out at x b room =
    let p : at + length x ≤ length out = omega arith in
    let grown : at + length (x ++ (b ∷ [])) ≡ suc (at + length x) = rw length-append (omega arith) in
    rw (take-set-le at out (at + length x) b (omega arith), set_split out (at + length x) b room, grown)
    (ap (λ (l : List ℕ). take at out ++ (x ++ l))
    (drop_at (take (at + length x) out) (b ∷ drop (suc (at + length x)) out) (at + length x) (length-take-le _ out p))
    ∙ simp append_assoc)

pub wrote_none : (page : Page) → page.at ≤ length page.buffer.now → Wrote page [] page
wrote_none page h =
    record { same_buffer = refl; same_length = refl; place = omega arith; inside = h; is_written = paste_none page.buffer.now page.at [] }

-- the part for them was lent, and came back with bytes
pub wrote_lent : {page after : Page} (bytes : List ℕ) {part : List ℕ} → part ≡ bytes → HasRoom page bytes
    → after.buffer.ghost_name ≡ page.buffer.ghost_name → after.at ≡ page.at + length bytes
    → after.buffer.now ≡ put_mid page.at (after.at - page.at) page.buffer.now part → Wrote page bytes after
wrote_lent {page} {after} bytes {part} e h same place is =
    let is_written : after.buffer.now ≡ paste page.buffer.now page.at bytes (length bytes) =
    is ∙ put_mid-paste page.at (after.at - page.at) page.buffer.now part bytes (length bytes) e (omega arith) refl in
    let same_length : length after.buffer.now ≡ length page.buffer.now =
    ap length is_written ∙ length-paste page.buffer.now page.at bytes (length bytes) h (omega arith) in
    record { same_buffer = same; same_length = same_length; place = place; inside = omega arith; is_written = is_written }

-- and then another routine
pub wrote_both : {before between after : Page} {x y : List ℕ} → Wrote before x between → Wrote between y after → Wrote before (x ++ y) after
wrote_both {before} {x = x} {y} f s = record {
  same_buffer = s.same_buffer ∙ f.same_buffer;
  same_length = s.same_length ∙ f.same_length;
  place = rw length-append (omega (arith, f.place, s.place));
  inside = s.inside;
  is_written =
      s.is_written
      ∙ rw (f.is_written, f.place, length-append) (paste-paste before.buffer.now before.at x y (length x) (length y) refl refl
      (omega (arith, f.place, f.inside, f.same_length)));
}

-- the same bytes, said in another way
pub wrote_as : {before after : Page} {x y : List ℕ} → x ≡ y → Wrote before x after → Wrote before y after
wrote_as {before} {after} e f = subst (λ (bytes : List ℕ). Wrote before bytes after) e f

-- ---- parts one after the other

-- what is before the i-th of n parts, with it, is no longer than all
pub joined_room : {A : Type 0} (n : ℕ) (f : ℕ → List A) (i : ℕ) → i < n → length (joined i f) + length (f i) ≤ length (joined n f)
unfolding joined
joined_room zero f i h = absurd (omega arith)
joined_room (suc n) f i h = go (below_suc h) (joined_room n f i)
  where
    go : (i ≡ n) ⊎ (i < n) → (i < n → length (joined i f) + length (f i) ≤ length (joined n f))
        → length (joined i f) + length (f i) ≤ length (joined n f ++ f n)
    go (inl e) r = rw (e, length-append) (omega arith)
    go (inr l) r = rw length-append (omega (arith, r l))

module _ (f : ℕ → List ℕ) (i : ℕ) {before here : Page} (w : Wrote before (joined i f) here) where
  -- there is room for the i-th of n parts
  pub part_room : (n : ℕ) → i < n → HasRoom before (joined n f) → HasRoom here (f i)
  part_room n l h = omega (arith, joined_room n f i l, w.place, w.same_length)

  -- which is written
  pub wrote_part : {after : Page} {part : List ℕ} → part ≡ f i → Wrote here part after → Wrote before (joined (i + 1) f) after
  unfolding joined
  wrote_part e s = rw (add-one) (wrote_both w (wrote_as e s))

  -- all parts
  pub wrote_parts : {n : ℕ} → i ≤ n → n ≤ i → Wrote before (joined n f) here
  wrote_parts {n} h l = let e : i ≡ n = omega arith in rw e at w

-- a byte is set after which x is still to be written
pub before_set : (out : List ℕ) (at : ℕ) {place : ℕ} (x : List ℕ) (b : ℕ) → place ≡ at + length x → place < length out
    → paste (set out place b) at x (length x) ≡ paste out at (x ++ (b ∷ [])) (length (x ++ (b ∷ [])))
before_set out at x b e h =
    rw e
    (paste_all (set out (at + length x) b) at x (length x) refl
    ∙ written_set out at x b (omega arith)
    ∙ sym (paste_all out at (x ++ (b ∷ [])) (length (x ++ (b ∷ []))) refl))

-- from the start of a buffer
pub wrote_all : {page after : Page} {bytes out : List ℕ} → page.buffer.now ≡ out → page.at ≡ 0 → Wrote page bytes after
    → (after.at ≡ length bytes) × (after.buffer.now ≡ bytes ++ drop (length bytes) out)
wrote_all {bytes = x} {out} e z f = (
  omega (arith, f.place),
  f.is_written ∙ rw (e, z) (paste_all out 0 x (length x) refl ∙ rw zero-add),
)
