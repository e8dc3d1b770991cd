-- Laws of the numbers that are read: one for each way through a read, and what a finished read tells. Assumes nothing.
use Rattle.std.specs.Prelude.{Err, Ok}
use Rattle.wire.specs.declared.cursor.Unread.TheVariants as unread
use Rattle.std.proofs.Common.{◌≡◌, ℕ, ◌+◌, ◌*◌, ◌^◌, ◌<◌, ◌≤◌, List, length, get_or, sym, refl, ap, ◌∙◌, add-zero, arith, lit<}
use Rattle.kinds.specs.Kinds.{align_of}
use Rattle.kinds.proofs.Table.{boolean_align, float128_align}
use Rattle.wire.specs.Place.{cursor_at, moved, alignment_of, padding_of, seek_to, align_to}
use Rattle.wire.specs.Number.{number_at, on_bytes, number_here, on_aligned, read_number, halves_of, float128_here, read_float128, boolean_in, on_byte, read_boolean, after_number}
use Rattle.wire.specs.Code.Reads.{HereIs, ReadIs}
use Rattle.wire.specs.declared.settings.ByteOrder.{ByteOrder}
use Rattle.wire.specs.declared.settings.ByteOrder.TheVariants.{BigEndian, LittleEndian}
use Rattle.wire.specs.declared.settings.Settings.{Settings}
use Rattle.wire.specs.declared.cursor.Cursor.{Cursor}
use Rattle.wire.specs.declared.cursor.Shortage.{Shortage}
use Rattle.wire.specs.Place.{Place}
use Rattle.wire.specs.Number.{Number}
use Rattle.wire.specs.Number.{Float128}
use Rattle.wire.specs.Number.{Boolean}
use Rattle.wire.proofs.Moves.{seek_at, seek_inv, align_inv, align_stays, align_stayed, align_twice, still_aligned, padding_one, alignment_one, alignment_four}
use Rattle.wire.proofs.Digits.{one_byte, be_words, le_words, low_word, high_word}

-- where the cursor stands
module _ (s : List ℕ) (o : ByteOrder) (c : Cursor) (w : ℕ) (r : Place) (is : r ≡ seek_to s c w) where
  pub here_short : (x : Shortage) → r ≡ Err x → HereIs s o c w (Err x)
  unfolding number_here on_bytes
  here_short x e = record { is = rw (sym is ∙ e); small = tt }

  pub here_fits : (d : Cursor) → r ≡ Ok d → c.pos + w ≤ length s
  here_fits d e = (seek_inv s c w d (sym is ∙ e)).0

  pub here_got : (d : Cursor) (v : ℕ) → r ≡ Ok d → v ≡ number_at o 0 s c.pos w → v < 256 ^ w → HereIs s o c w (Ok (v, d))
  unfolding number_here on_bytes
  here_got d v e f h = record { is = rw (sym is ∙ e, f); small = h }

-- the two ways that an alignment goes
module _ (s : List ℕ) (set : Settings) (c : Cursor) (w : ℕ) (r : Place) (is : r ≡ align_to s set.version c w) where
  pub read_short : (x : Shortage) → r ≡ Err x → ReadIs s set c w (Err x)
  unfolding read_number on_aligned
  read_short x e = record { is = rw (sym is ∙ e); small = tt }

  pub read_at : (d : Cursor) (n : Number) → r ≡ Ok d → HereIs s set.order d w n → ReadIs s set c w n
  unfolding read_number on_aligned
  read_at d n e h = record { is = rw (sym is ∙ e) h.is; small = h.small }

-- 16 bytes by their two words: both are in the data
module _ (s : List ℕ) (c : Cursor) (r : Place) (is : r ≡ seek_to s c 16) (d : Cursor) (e : r ≡ Ok d) where
  pub here16_first : c.pos + 8 ≤ length s
  here16_first = omega (arith, (seek_inv s c 16 d (sym is ∙ e)).0)

  pub here16_second : c.pos + 8 + 8 ≤ length s
  here16_second = omega (arith, (seek_inv s c 16 d (sym is ∙ e)).0)

module _ (s : List ℕ) (o : ByteOrder) (c : Cursor) (r : Place) (is : r ≡ seek_to s c 16) where
  pub here16_short : (x : Shortage) → r ≡ Err x → Err x ≡ float128_here s o c
  unfolding float128_here halves_of number_here on_bytes
  here16_short x e = rw (sym is ∙ e)

  halves : (d : Cursor) (high low : ℕ) → r ≡ Ok d → high * 2 ^ 64 + low ≡ number_at o 0 s c.pos 16 → low < 2 ^ 64 → Ok (low, high, d) ≡ float128_here s o c
  unfolding float128_here halves_of number_here on_bytes
  halves d high low e f h = rw (sym is ∙ e, ← f, low_word high low h, high_word high low h)

  pub here16_big : (d : Cursor) (a b : ℕ) → r ≡ Ok d → o ≡ BigEndian → a ≡ number_at o 0 s c.pos 8 → b ≡ number_at o 0 s (c.pos + 8) 8 → b < 256 ^ 8 → Ok (b, a, d) ≡ float128_here s o c
  here16_big d a b e k f g h = halves d a b e (rw k (be_words s c.pos a b (rw k at f) (rw k at g))) h

  pub here16_little : (d : Cursor) (a b : ℕ) → r ≡ Ok d → o ≡ LittleEndian → a ≡ number_at o 0 s c.pos 8 → b ≡ number_at o 0 s (c.pos + 8) 8 → a < 256 ^ 8 → Ok (a, b, d) ≡ float128_here s o c
  here16_little d a b e k f g h = halves d b a e (rw k (le_words s c.pos a b (rw k at f) (rw k at g))) h

-- FLOAT128 is aligned to what the table says
pub float128_some : (a : ℕ) → a ≡ align_of 11 → 0 < a
float128_some a e = rw (e ∙ float128_align) (lit< tt)

module _ (s : List ℕ) (set : Settings) (c : Cursor) (a : ℕ) (wide : a ≡ align_of 11) (r : Place) (is : r ≡ align_to s set.version c a) where
  is16 : r ≡ align_to s set.version c 16
  is16 = rw (wide ∙ float128_align) at is

  pub read16_short : (x : Shortage) → r ≡ Err x → Err x ≡ read_float128 s set c
  unfolding read_float128 halves_of read_number on_aligned
  read16_short x e = rw (sym is16 ∙ e)

  pub read16_at : (d : Cursor) (f : Float128) → r ≡ Ok d → f ≡ float128_here s set.order d → f ≡ read_float128 s set c
  unfolding read_float128 read_number on_aligned float128_here
  read16_at d f e g = rw (sym is16 ∙ e) g

-- a byte that is to be a boolean
module _ (s : List ℕ) (set : Settings) (c : Cursor) (n : Number) (w : ℕ) (wide : w ≡ align_of 1) (is : ReadIs s set c w n) where
  one : n ≡ read_number s set c 1
  one = is.is ∙ ap (read_number s set c) (wide ∙ boolean_align)

  pub boolean_short : (x : Shortage) → n ≡ Err x → Err (unread.Short x) ≡ read_boolean s set c
  unfolding read_boolean on_byte
  boolean_short x e = rw (sym one ∙ e)

  pub boolean_got : (v : ℕ) (d : Cursor) (b : Boolean) → n ≡ Ok (v, d) → b ≡ boolean_in v d → b ≡ read_boolean s set c
  unfolding read_boolean on_byte
  boolean_got v d b e f = rw (sym one ∙ e) f

pub boolean_some : (w : ℕ) → w ≡ align_of 1 → 0 < w
boolean_some w e = rw (e ∙ boolean_align) (lit< tt)

pub boolean_small : (w : ℕ) → w ≡ align_of 1 → w ≤ 8
boolean_small w e = let f = e ∙ boolean_align in omega arith

-- What a finished read tells the loops above: it moved on by the width at least, not past the end, and kept the origin.
pub record Moved (s : List ℕ) (c : Cursor) (w : ℕ) (d : Cursor) : Type 0 where
  pub on : c.pos + w ≤ d.pos
  pub inside : d.pos ≤ length s
  pub kept : d.origin ≡ c.origin

-- a number and a cursor are the same as these only where each is
pub got_inv : {v w : ℕ} {c d : Cursor} → ◌≡◌ {A = Number} (Ok (v, c)) (Ok (w, d)) → (v ≡ w) × (c ≡ d)
got_inv {v} {w} {c} {d} e = let p : ◌≡◌ {A = ℕ × Cursor} (v, c) (w, d) = cc in (ap (λ (x : ℕ × Cursor). x.0) p, ap (λ (x : ℕ × Cursor). x.1) p)

-- two constructors are never equal
pub short_got : (x : Shortage) (v : ℕ) (d : Cursor) → ◌≡◌ {A = Number} (Err x) (Ok (v, d)) → ⊥
short_got x v d e = cc

module _ (s : List ℕ) where
  here_inv : (o : ByteOrder) (p w v : ℕ) (c d : Cursor) (r : Place) → seek_to s c w ≡ r → on_bytes s o p w r ≡ Ok (v, d) → Moved s c w d
  unfolding on_bytes
  here_inv o p w v c d (Err x) f e = absurd (short_got x v d e)
  here_inv o p w v c d (Ok y) f e =
      let g : y ≡ d = (got_inv e).1 in
      let k = seek_inv s c w y f in
      let h : moved c w ≡ d = k.1 ∙ g in
      record { on = omega (arith, ap (λ (z : Cursor). z.pos) h); inside = omega (arith, k.0, ap (λ (z : Cursor). z.pos) h); kept = sym (ap (λ (z : Cursor). z.origin) h) }

  aligned_inv : (o : ByteOrder) (u : Settings) (w v : ℕ) (c d : Cursor) (r : Place) → align_to s u.version c w ≡ r → on_aligned s o w r ≡ Ok (v, d) → Moved s c w d
  unfolding on_aligned number_here
  aligned_inv o u w v c d (Err x) f e = absurd (short_got x v d e)
  aligned_inv o u w v c d (Ok y) f e =
      let a = align_inv s u.version c w y f in
      let b = here_inv o y.pos w v y d (seek_to s y w) refl e in
      record { on = omega (arith, a.0, b.on); inside = b.inside; kept = b.kept ∙ a.2 }

  pub read_inv : (set : Settings) (c : Cursor) (w v : ℕ) (d : Cursor) → read_number s set c w ≡ Ok (v, d) → Moved s c w d
  unfolding read_number
  read_inv set c w v d e = aligned_inv set.order set w v c d (align_to s set.version c w) refl e

-- a read that is done: where it stood, what it read, and the cursor past it
module _ (s : List ℕ) where
  here_exact : (o : ByteOrder) (w v : ℕ) (c d : Cursor) (r : Place) → seek_to s c w ≡ r → on_bytes s o c.pos w r ≡ Ok (v, d) → (v ≡ number_at o 0 s c.pos w) × (moved c w ≡ d)
  unfolding on_bytes
  here_exact o w v c d (Err x) f e = absurd (short_got x v d e)
  here_exact o w v c d (Ok x) f e = let g = got_inv e in (sym g.0, (seek_inv s c w x f).1 ∙ g.1)

  aligned_exact : (o : ByteOrder) (w v p : ℕ) (c d : Cursor) (r : Place) → seek_to s c p ≡ r → on_aligned s o w r ≡ Ok (v, d) → (v ≡ number_at o 0 s (c.pos + p) w) × (moved (moved c p) w ≡ d)
  unfolding on_aligned number_here
  aligned_exact o w v p c d (Err x) f e = absurd (short_got x v d e)
  aligned_exact o w v p c d (Ok x) f e =
      let k : moved c p ≡ x = (seek_inv s c p x f).1 in
      let l = here_exact o w v x d (seek_to s x w) refl e in
      (l.0 ∙ ap (λ (y : Cursor). number_at o 0 s y.pos w) (sym k), ap (λ (y : Cursor). moved y w) k ∙ l.1)

  pub read_exact : (set : Settings) (c : Cursor) (w v p : ℕ) (d : Cursor) → padding_of c (alignment_of set.version w) ≡ p → read_number s set c w ≡ Ok (v, d)
      → (v ≡ number_at set.order 0 s (c.pos + p) w) × (moved (moved c p) w ≡ d)
  unfolding read_number align_to
  read_exact set c w v p d q e = aligned_exact set.order w v p c d (seek_to s c p) refl (rw q at e)

-- a number that is there, past its alignment or with none to pass
module _ (s : List ℕ) (set : Settings) (c : Cursor) (w : ℕ) where
  pub read_past : (d : Cursor) → align_to s set.version c w ≡ Ok d → d.pos + w ≤ length s → read_number s set c w ≡ Ok (number_at set.order 0 s d.pos w, moved d w)
  unfolding read_number on_aligned number_here on_bytes
  read_past d e h = rw (e, ← (seek_at s d w h))

  pub read_aligned : padding_of c (alignment_of set.version w) ≡ 0 → c.pos + w ≤ length s → read_number s set c w ≡ Ok (number_at set.order 0 s c.pos w, moved c w)
  unfolding align_to
  read_aligned z h =
      let k : seek_to s c 0 ≡ (Ok c) = sym (seek_at s c 0 (omega arith)) ∙ ap (λ (p : ℕ). (Ok (cursor_at p c.origin))) (add-zero c.pos) in
      read_past c (rw z k) h

-- what follows a number, by how its read went
module _ {A : Type 0} (short : Shortage → A) (next : ℕ → Cursor → A) {n : Number} where
  pub after_got : {v : ℕ} {c : Cursor} → n ≡ Ok (v, c) → after_number short n next ≡ next v c
  unfolding after_number
  after_got e = rw e

  pub after_none : {x : Shortage} → n ≡ Err x → after_number short n next ≡ short x
  unfolding after_number
  after_none e = rw e

-- what is not what a shortage gives came after a number that was read
pub number_inv : {A : Type 0} (short : Shortage → A) (a : A) → ((x : Shortage) → short x ≡ a → ⊥) → (r : Number) (next : ℕ → Cursor → A) → after_number short r next ≡ a
    → (v : ℕ) × (d : Cursor) × (r ≡ Ok (v, d)) × (next v d ≡ a)
unfolding after_number
number_inv short a other (Err x) next e = absurd (other x e)
number_inv short a other (Ok (v, d)) next e = (v, d, refl, e)

-- a number that is all there, q being where it stands
pub read_there : (s : List ℕ) (set : Settings) (c : Cursor) (w q v : ℕ) → q ≡ c.pos + padding_of c (alignment_of set.version w) → q + w ≤ length s → v ≡ number_at set.order 0 s q w
    → read_number s set c w ≡ Ok (v, cursor_at (q + w) c.origin)
unfolding read_number on_aligned number_here on_bytes align_to
read_there s set c w q v e h f =
    let a : seek_to s c (padding_of c (alignment_of set.version w)) ≡ (Ok (cursor_at q c.origin)) = rw e (sym (seek_at s c (padding_of c (alignment_of set.version w)) (omega arith))) in
    let b : seek_to s (cursor_at q c.origin) w ≡ (Ok (cursor_at (q + w) c.origin)) = sym (seek_at s (cursor_at q c.origin) w h) in
    rw (a, b, f)

-- a byte stands where the cursor does
pub byte_there : (s : List ℕ) (set : Settings) (c : Cursor) → c.pos < length s → read_number s set c 1 ≡ Ok (get_or s c.pos 0, cursor_at (c.pos + 1) c.origin)
unfolding number_at
byte_there s set c h =
    read_there s set c 1 c.pos (get_or s c.pos 0) (let e = padding_one c (alignment_of set.version 1) (alignment_one set.version) in omega (arith, e)) (omega arith) (one_byte set.order s c.pos)

-- what follows a number of four bytes is aligned as that was, unless the cursor was before its origin
module _ (s : List ℕ) (set : Settings) (c : Cursor) (n : ℕ) (d : Cursor) (after : c.origin ≤ c.pos) where
  four_moved : (e : Cursor) → align_to s set.version c 4 ≡ Ok e → (r : Place) → seek_to s e 4 ≡ r → on_bytes s set.order e.pos 4 r ≡ Ok (n, d) → align_to s set.version d 4 ≡ Ok d
  unfolding on_bytes
  four_moved e a (Err x) f g = absurd (short_got x n d g)
  four_moved e a (Ok y) f g =
      let k = seek_inv s e 4 y f in
      let h : y ≡ d = (got_inv g).1 in
      let w : moved e 4 ≡ d = k.1 ∙ h in
      let i = align_inv s set.version c 4 e a in
      let z : padding_of e (alignment_of set.version 4) ≡ 0 = align_stayed s set.version e 4 (align_twice s set.version c 4 e (lit< tt) a) in
      let four = alignment_four set.version in
      let z4 : padding_of e 4 ≡ 0 = rw four at z in
      let y4 : padding_of (moved e 4) 4 ≡ 0 = still_aligned e 4 (lit< tt) (omega (arith, i.0, i.2)) 4 refl z4 in
      align_stays s set.version d 4 (omega (arith, k.0, ap (λ (x : Cursor). x.pos) w)) (rw (four, ← w) y4)

  four_by : (r : Place) → align_to s set.version c 4 ≡ r → on_aligned s set.order 4 r ≡ Ok (n, d) → align_to s set.version d 4 ≡ Ok d
  unfolding on_aligned number_here
  four_by (Err x) a g = absurd (short_got x n d g)
  four_by (Ok e) a g = four_moved e a (seek_to s e 4) refl g

  pub four_aligned : read_number s set c 4 ≡ Ok (n, d) → align_to s set.version d 4 ≡ Ok d
  unfolding read_number
  four_aligned g = four_by (align_to s set.version c 4) refl g

-- a number that is there whole, as the code finds it
pub read_whole : (s : List ℕ) (set : Settings) (c : Cursor) (w q v : ℕ) (d : Cursor) → (q + w ≤ length s → q ≡ c.pos + padding_of c (alignment_of set.version w)) → q + w ≤ length s → v ≡ number_at set.order 0 s q w → v < 256 ^ w → d ≡ cursor_at (q + w) c.origin → ReadIs s set c w (Ok (v, d))
read_whole s set c w q v d starts h is small e = record { is = sym (read_there s set c w q v (starts h) h is ∙ ap ((λ y. Ok (v, y))) (sym e)); small = small }
