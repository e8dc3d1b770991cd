-- Laws of a cursor's moves. Assumes nothing.
use Rattle.std.specs.Prelude.{Err, Ok}
use Rattle.std.proofs.Common.{◌≡◌, ℕ, zero, suc, ◌+◌, ◌-◌, ◌%◌, ◌<◌, ◌≤◌, Bool, true, false, leb, List, length, sym, refl, ap, ◌∙◌, add-zero, le_of_lt, mod-lt, mod-eq_of_lt, add-sub_of_le, sub-eq-zero_of_le, arith, lit<, le-leb, leb-false, leb-true}
use native.Mathlib.Nat.{mod_self, zero-mod, add-mod, add-mod-mod, mod-add-mod, sub-zero}
use borrow.Author.Tests.{lt-leb}
use Rattle.wire.specs.Place.{cursor_at, moved, shortage, need_at, short_at, alignment_of, gap_of, padding_of, seek_to, align_to, after_move}
use Rattle.wire.specs.declared.settings.Version.{Version}
use Rattle.wire.specs.declared.settings.Version.TheVariants.{Xcdr1, Xcdr2}
use Rattle.wire.specs.declared.cursor.Cursor.{Cursor}
use Rattle.wire.specs.declared.cursor.Shortage.{Shortage}
use Rattle.wire.specs.Place.{Place}

pub alignment_own : (v : Version) (n : ℕ) → v ≡ Xcdr1 → n ≡ alignment_of v n
unfolding alignment_of
alignment_own v n e = rw e

-- what has a size has an alignment
pub alignment_some : (v : Version) (n a : ℕ) → 0 < n → a ≡ alignment_of v n → 0 < a
unfolding alignment_of
alignment_some Xcdr1 n a h e = omega arith
alignment_some Xcdr2 n a h e = omega arith

-- where the origin lies ahead, a cut-off difference is 0
pub padding_none : (c : Cursor) (a : ℕ) → c.pos < c.origin → 0 ≡ padding_of c a
unfolding padding_of
padding_none c a h = simp (sub-eq-zero_of_le (le_of_lt h), zero-mod, sub-zero, mod_self)

pub padding_gap : (c : Cursor) (a r : ℕ) → r ≡ gap_of (c.pos - c.origin) a → r ≡ padding_of c a
unfolding padding_of
padding_gap c a r e = e

-- by an alignment that is known
pub gap_by : (from a k : ℕ) → a ≡ k → gap_of from k ≡ gap_of from a
gap_by from a k e = rw e

pub gap_as : (from a b r : ℕ) → a ≡ b → r ≡ gap_of from a → r ≡ gap_of from b
gap_as from a b r e f = rw (← e) f

pub gap_one : (from a : ℕ) → a ≡ 1 → 0 ≡ gap_of from a
gap_one from a e = rw e (let h : (1 - from % 1) % 1 < 1 = mod-lt _ (lit< tt) in omega arith)

pub padding_by : (c : Cursor) (a k : ℕ) → a ≡ k → gap_of (c.pos - c.origin) k ≡ padding_of c a
unfolding padding_of
padding_by c a k e = gap_by (c.pos - c.origin) a k e

pub padding_one : (c : Cursor) (a : ℕ) → a ≡ 1 → 0 ≡ padding_of c a
unfolding padding_of
padding_one c a e = gap_one (c.pos - c.origin) a e

pub alignment_one : (v : Version) → alignment_of v 1 ≡ 1
unfolding alignment_of
alignment_one Xcdr1 = refl
alignment_one Xcdr2 = refl

pub alignment_four : (v : Version) → alignment_of v 4 ≡ 4
unfolding alignment_of
alignment_four Xcdr1 = refl
alignment_four Xcdr2 = refl

pub gap_below : (from a : ℕ) → 0 < a → gap_of from a < a
gap_below from a h = mod-lt _ h

-- where a number starts
pub start_at : (c : Cursor) (v : Version) (n a g r : ℕ) → a ≡ alignment_of v n → g ≡ gap_of (c.pos - c.origin) a → r ≡ c.pos + g → r ≡ c.pos + padding_of c (alignment_of v n)
start_at c v n a g r e f i = i ∙ ap (λ (y : ℕ). c.pos + y) (padding_gap c (alignment_of v n) g (gap_as (c.pos - c.origin) a (alignment_of v n) g e f))

pub rest_below : (x a : ℕ) → 0 < a → x % a ≤ a
rest_below x a h = le_of_lt (mod-lt x h)

-- what is aligned stays so past a multiple of the alignment, and what was aligned is
rest_none : (r a : ℕ) → 0 < a → r < a → (a - r) % a ≡ 0 → r ≡ 0
rest_none zero a h l e = refl
rest_none (suc r) a h l e = absurd (let k : (a - suc r) % a ≡ a - suc r = mod-eq_of_lt (omega arith) in omega (arith, sym k ∙ e))

module _ (c : Cursor) (a : ℕ) (some : 0 < a) (after : c.origin ≤ c.pos) where
  pub still_aligned : (w : ℕ) → w % a ≡ 0 → padding_of c a ≡ 0 → padding_of (moved c w) a ≡ 0
  unfolding padding_of
  still_aligned w e h =
      let z : (c.pos - c.origin) % a ≡ 0 = rest_none _ a some (mod-lt (c.pos - c.origin) some) h in
      let k : c.pos + w - c.origin ≡ c.pos - c.origin + w = omega arith in
      rw (k, add-mod (c.pos - c.origin) w a, z, e, zero-mod a, sub-zero, mod_self a)

  pub padded_aligned : padding_of (moved c (padding_of c a)) a ≡ 0
  unfolding padding_of
  padded_aligned =
      let k : c.pos + (a - (c.pos - c.origin) % a) % a - c.origin ≡ c.pos - c.origin + (a - (c.pos - c.origin) % a) % a = omega arith in
      let z : (c.pos - c.origin + (a - (c.pos - c.origin) % a) % a) % a ≡ 0 =
      add-mod-mod (c.pos - c.origin) (a - (c.pos - c.origin) % a) a ∙ sym (mod-add-mod (c.pos - c.origin) a (a - (c.pos - c.origin) % a))
      ∙ ap (λ (y : ℕ). y % a) (add-sub_of_le (le_of_lt (mod-lt (c.pos - c.origin) some))) ∙ mod_self a in
      rw (k, z, sub-zero, mod_self a)

module _ (s : List ℕ) (c : Cursor) (n : ℕ) where
  pub seek_at : c.pos + n ≤ length s → Ok (moved c n) ≡ seek_to s c n
  unfolding seek_to
  seek_at h = rw (le-leb _ _ h)

  pub seek_short : length s < c.pos + n → Err (short_at s c n) ≡ seek_to s c n
  unfolding seek_to
  seek_short h = rw (lt-leb _ _ h)

  -- .. with the need as it was worked out
  pub seek_lacks : (k : ℕ) → length s < c.pos + n → k ≡ need_at s c.pos n → Err (shortage c c.pos k) ≡ seek_to s c n
  seek_lacks k h e = rw e (seek_short h)

-- two constructors are never equal
apart : (x : Shortage) (d : Cursor) → Err x ≡ Ok d → ⊥
apart x d e = let z : ◌≡◌ {A = ℕ} 0 1 = cc in omega arith

-- what a finished seek tells: the bytes were there, and the cursor is past them
pub seek_inv : (s : List ℕ) (c : Cursor) (n : ℕ) (d : Cursor) → seek_to s c n ≡ Ok d → (c.pos + n ≤ length s) × (moved c n ≡ d)
seek_inv s c n d e = go (leb (c.pos + n) (length s)) refl
  where
    go : (t : Bool) → leb (c.pos + n) (length s) ≡ t → (c.pos + n ≤ length s) × (moved c n ≡ d)
    go true h = (leb-true _ _ h, (let f : (Ok (moved c n)) ≡ (Ok d) = seek_at s c n (leb-true _ _ h) ∙ e in cc))
    go false h = absurd (apart (short_at s c n) d (seek_short s c n (leb-false _ _ h) ∙ e))

-- a finished alignment moves on, not past the end, and keeps the origin
pub align_inv : (s : List ℕ) (v : Version) (c : Cursor) (size : ℕ) (d : Cursor) → align_to s v c size ≡ Ok d → (c.pos ≤ d.pos) × (d.pos ≤ length s) × (d.origin ≡ c.origin)
unfolding align_to
align_inv s v c size d f =
    let k = seek_inv s c (padding_of c (alignment_of v size)) d f in
    (omega (arith, k.0, ap (λ (y : Cursor). y.pos) k.1), omega (arith, k.0, ap (λ (y : Cursor). y.pos) k.1), omega (arith, ap (λ (y : Cursor). y.origin) k.1))

-- what is aligned is aligned again
aligned_none : (c : Cursor) (a : ℕ) → 0 < a → padding_of (moved c (padding_of c a)) a ≡ 0
aligned_none c a h = go (leb c.origin c.pos) refl
  where
    go : (x : Bool) → leb c.origin c.pos ≡ x → padding_of (moved c (padding_of c a)) a ≡ 0
    go true e = padded_aligned c a h (leb-true _ _ e)
    go false e =
        let l : c.pos < c.origin = leb-false _ _ e in
        let z : 0 ≡ padding_of c a = padding_none c a l in
        sym (padding_none (moved c (padding_of c a)) a (omega arith))

-- where no padding is, the alignment stays; and where it stays, none is
pub align_stays : (s : List ℕ) (v : Version) (d : Cursor) (size : ℕ) → d.pos ≤ length s → padding_of d (alignment_of v size) ≡ 0 → align_to s v d size ≡ Ok d
unfolding align_to
align_stays s v d size l y = rw y (sym (seek_at s d 0 (omega arith)) ∙ ap (λ (x : ℕ). (Ok (cursor_at x d.origin))) (add-zero d.pos))

pub align_stayed : (s : List ℕ) (v : Version) (d : Cursor) (size : ℕ) → align_to s v d size ≡ Ok d → padding_of d (alignment_of v size) ≡ 0
unfolding align_to
align_stayed s v d size f = let k = seek_inv s d (padding_of d (alignment_of v size)) d f in omega (arith, ap (λ (x : Cursor). x.pos) k.1)

pub align_twice : (s : List ℕ) (v : Version) (c : Cursor) (size : ℕ) (d : Cursor) → 0 < size → align_to s v c size ≡ Ok d → align_to s v d size ≡ Ok d
unfolding align_to
align_twice s v c size d h f =
    let a : ℕ = alignment_of v size in
    let k = seek_inv s c (padding_of c (alignment_of v size)) d f in
    let z : padding_of (moved c (padding_of c (alignment_of v size))) (alignment_of v size) ≡ 0 = aligned_none c (alignment_of v size) (alignment_some v size (alignment_of v size) h refl) in
    let y : padding_of d (alignment_of v size) ≡ 0 = rw k.1 at z in
    let l : d.pos ≤ length s = omega (arith, k.0, ap (λ (x : Cursor). x.pos) k.1) in
    align_stays s v d size l y

-- what follows a move, by how it went
module _ {A : Type 0} (short : Shortage → A) (next : Cursor → A) {p : Place} where
  pub after_at : {c : Cursor} → p ≡ Ok c → after_move short p next ≡ next c
  unfolding after_move
  after_at e = rw e

  pub after_short : {x : Shortage} → p ≡ Err x → after_move short p next ≡ short x
  unfolding after_move
  after_short e = rw e

-- what is not what a shortage gives came after a finished move
pub move_inv : {A : Type 0} (short : Shortage → A) (a : A) → ((x : Shortage) → short x ≡ a → ⊥) → (p : Place) (next : Cursor → A) → after_move short p next ≡ a → (d : Cursor) × (p ≡ Ok d) × (next d ≡ a)
unfolding after_move
move_inv short a other (Err x) next e = absurd (other x e)
move_inv short a other (Ok d) next e = (d, refl, e)
