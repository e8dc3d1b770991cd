-- What a string that was read tells: where it stands, and where its units are. Assumes nothing.
use Rattle.std.specs.Prelude.{Err, Ok}
use Rattle.wire.specs.declared.cursor.Unread.TheVariants as unread
use Prim.Native.Nat.{ℕ, zero, suc, ◌+◌, ◌-◌, ◌*◌, ◌%◌, ◌/◌, ◌≤◌, ◌<◌}
use mathlib.Core.Path.{◌≡◌, refl, sym, ap, ◌∙◌}
use mathlib.Core.Bool.{Bool, true, false}
use mathlib.Core.List.{List, [], ◌∷◌}
use native.Mathlib.Omega.{arith}
use lib.Dec.{eqb}
use lib.ListN.{length}
use Rattle.ground.specs.Choice.{pick}
use Rattle.wire.specs.Place.{cursor_at, moved, alignment_of, padding_of, seek_to, after_move}
use Rattle.wire.specs.Number.{number_at, read_number, after_number}
use Rattle.wire.specs.declared.settings.ByteOrder.{ByteOrder}
use Rattle.wire.specs.declared.settings.Version.{Version}
use Rattle.wire.specs.declared.settings.Version.TheVariants.{Xcdr1, Xcdr2}
use Rattle.wire.specs.declared.settings.Settings.{Settings}
use Rattle.wire.specs.declared.cursor.Cursor.{Cursor}
use Rattle.wire.specs.declared.cursor.Shortage.{Shortage}
use Rattle.wire.specs.Place.{Place}
use Rattle.wire.specs.Number.{Number}
use Rattle.wire.proofs.Moves.{seek_at, seek_inv}
use Rattle.wire.proofs.Numbers.{read_inv, read_exact}
use Rattle.text.specs.Unicode.{utf8, utf16, rest_good}
use Rattle.text.specs.Text.{Text, short_text, part, text_if, bytes_here, string_type, Units, short, units, unit_then, read_units, on_units, units_here, wide_here, wstring_type}

-- n pieces of this size from `start`, all in the data; the reading moved past them and kept its origin
pub record Stands (s : List ℕ) (c : Cursor) (size start n : ℕ) (d : Cursor) : Type 0 where
  pub after : c.pos + 4 ≤ start
  pub room : start + n * size ≤ d.pos
  pub inside : d.pos ≤ length s
  pub kept : d.origin ≡ c.origin

pub short≢got : (x : Shortage) (start n : ℕ) (d : Cursor) → ◌≡◌ {A = Text} (Err (unread.Short x)) (Ok (start, n, d)) → ⊥
short≢got x start n d e = cc

pub bad≢got : (start n : ℕ) (d : Cursor) → ◌≡◌ {A = Text} (Err unread.Bad) (Ok (start, n, d)) → ⊥
bad≢got start n d e = cc

-- two texts are the same only where their parts are
pub text_parts : {a b m n : ℕ} {c d : Cursor} → ◌≡◌ {A = Text} (Ok (a, m, c)) (Ok (b, n, d)) → (a ≡ b) × (m ≡ n) × (c ≡ d)
text_parts {a} {b} {m} {n} {c} {d} e =
    let p : ◌≡◌ {A = ℕ × ℕ × Cursor} (a, m, c) (b, n, d) = cc in
    (ap (λ (x : ℕ × ℕ × Cursor). x.0) p, ap (λ (x : ℕ × ℕ × Cursor). x.1) p, ap (λ (x : ℕ × ℕ × Cursor). x.2) p)

-- a text that came of it is as it was given
text_if_inv : (good : Bool) (a m start n : ℕ) (c d : Cursor) → text_if good a m c ≡ Ok (start, n, d) → (good ≡ true) × (a ≡ start) × (m ≡ n) × (c ≡ d)
text_if_inv true a m start n c d e = let p = text_parts e in (refl, p.0, p.1, p.2)
text_if_inv false a m start n c d e = absurd (bad≢got start n d e)

-- STRING8: n bytes, well-formed, and the closing byte after them
module _ (s : List ℕ) (start n : ℕ) (d : Cursor) where
  closing_inv : (a m : ℕ) (c : Cursor) (r : Place) → seek_to s c 1 ≡ r → after_move short_text r (λ x. text_if (utf8 (part s a m)) a m x) ≡ Ok (start, n, d)
      → (utf8 (part s a m) ≡ true) × (a ≡ start) × (m ≡ n) × (c.pos + 1 ≤ length s) × (moved c 1 ≡ d)
  unfolding after_move
  closing_inv a m c (Err x) f e = absurd (short≢got x start n d e)
  closing_inv a m c (Ok x) f e =
      let j = text_if_inv (utf8 (part s a m)) a m start n x d e in
      let k = seek_inv s c 1 x f in
      (j.0, j.1, j.2, k.0, k.1 ∙ j.3)

  block_inv : (a m : ℕ) (c : Cursor) (r : Place) → seek_to s c m ≡ r → after_move short_text r (λ x. after_move short_text (seek_to s x 1) (λ y. text_if (utf8 (part s a m)) a m y)) ≡ Ok (start, n, d)
      → (utf8 (part s a m) ≡ true) × (a ≡ start) × (m ≡ n) × (c.pos + m + 1 ≤ length s) × (moved (moved c m) 1 ≡ d)
  unfolding after_move
  block_inv a m c (Err x) f e = absurd (short≢got x start n d e)
  block_inv a m c (Ok x) f e =
      let k = seek_inv s c m x f in
      let l = closing_inv a m x (seek_to s x 1) refl e in
      (l.0, l.1, l.2, omega (arith, l.3, ap (λ (y : Cursor). y.pos) k.1), ap (λ (y : Cursor). moved y 1) k.1 ∙ l.4)

  length8_inv : (set : Settings) (c : Cursor) (r : Number) → read_number s set c 4 ≡ r → after_number short_text r (λ m x. bytes_here s x (m - 1)) ≡ Ok (start, n, d) → Stands s c 1 start n d × (utf8 (part s start n) ≡ true)
  unfolding after_number bytes_here
  length8_inv set c (Err x) f e = absurd (short≢got x start n d e)
  length8_inv set c (Ok (v, x)) f e =
      let b = block_inv x.pos (v - 1) x (seek_to s x (v - 1)) refl e in
      let m = read_inv s set c 4 v x f in
      let p : x.pos + (v - 1) + 1 ≡ d.pos = ap (λ (y : Cursor). y.pos) b.4 in
      let o : x.origin ≡ d.origin = ap (λ (y : Cursor). y.origin) b.4 in (
        record { after = omega (arith, m.on, b.1); room = omega (arith, b.1, b.2, p); inside = omega (arith, b.3, p); kept = sym o ∙ m.kept },
        rw (b.1, b.2) at b.0,
      )

  pub string_inv : (set : Settings) (c : Cursor) → string_type s set c ≡ Ok (start, n, d) → Stands s c 1 start n d × (utf8 (part s start n) ≡ true)
  unfolding string_type
  string_inv set c e = length8_inv set c (read_number s set c 4) refl e

-- units that were read, one by one
units_inv : (u : ℕ) (r : Units) (us : List ℕ) (d : Cursor) → unit_then u r ≡ units us d → (vs : List ℕ) × (r ≡ units vs d) × (us ≡ u ∷ vs)
unfolding unit_then
units_inv u (short x) us d e = absurd (let z : ◌≡◌ {A = ℕ} 0 1 = cc in omega arith)
units_inv u (units vs c) us d e = (vs, (cc), (cc))

-- each moves two bytes at least, and not past the end
module _ (s : List ℕ) (set : Settings) where
  abbrev Room : ℕ → Cursor → Cursor → Type 0
  Room n c d = (c.pos + n * 2 ≤ d.pos) × (d.pos ≤ length s) × (d.origin ≡ c.origin)

  room_one : (n : ℕ) (c : Cursor) (us : List ℕ) (d : Cursor) (r : Number) → read_number s set c 2 ≡ r
      → ((x : Cursor) (vs : List ℕ) → x.pos ≤ length s → read_units s set n x ≡ units vs d → Room n x d)
      → after_number short r (λ u x. unit_then u (read_units s set n x)) ≡ units us d → Room (suc n) c d
  unfolding after_number
  room_one n c us d (Err x) f rest e = absurd (let z : ◌≡◌ {A = ℕ} 0 1 = cc in omega arith)
  room_one n c us d (Ok (u, x)) f rest e =
      let k = units_inv u (read_units s set n x) us d e in
      let m = read_inv s set c 2 u x f in
      let l = rest x k.0 m.inside k.1 in
      (omega (arith, m.on, l.0), l.1, l.2 ∙ m.kept)

  units_room : (n : ℕ) (c : Cursor) (us : List ℕ) (d : Cursor) → c.pos ≤ length s → read_units s set n c ≡ units us d → Room n c d
  unfolding read_units
  units_room zero c us d h e =
      let f : c ≡ d = cc in
      let p : c.pos ≡ d.pos = ap (λ (y : Cursor). y.pos) f in
      (omega arith, omega arith, sym (ap (λ (y : Cursor). y.origin) f))
  units_room (suc n) c us d h e = room_one n c us d (read_number s set c 2) refl (λ x vs g f. units_room n x vs d g f) e

-- an even number of bytes from the origin: there a unit needs no padding
abbrev Even : Cursor → Type 0
Even c = (c.origin ≤ c.pos) × ((c.pos - c.origin) % 2 ≡ 0)

even_2 : (v : Version) (c : Cursor) → Even c → padding_of c (alignment_of v 2) ≡ 0
unfolding padding_of alignment_of
even_2 Xcdr1 c h = rw h.1
even_2 Xcdr2 c h = rw h.1

-- a length ends at such a place
after_4 : (c d : Cursor) → c.origin ≤ c.pos → moved (moved c (padding_of c 4)) 4 ≡ d → Even d
unfolding padding_of
after_4 c d h e =
    let p : c.pos + (4 - (c.pos - c.origin) % 4) % 4 + 4 ≡ d.pos = ap (λ (y : Cursor). y.pos) e in
    let o : c.origin ≡ d.origin = ap (λ (y : Cursor). y.origin) e in
    (omega arith, omega arith)

own_4 : (v : Version) → alignment_of v 4 ≡ 4
unfolding alignment_of
own_4 Xcdr1 = refl
own_4 Xcdr2 = refl

after_length : (s : List ℕ) (set : Settings) (c : Cursor) (n : ℕ) (d : Cursor) → c.origin ≤ c.pos → read_number s set c 4 ≡ Ok (n, d) → Even d
after_length s set c n d h e = after_4 c d h (read_exact s set c 4 n (padding_of c 4) d (rw (own_4 set.version)) e).1

-- the n units from p, two bytes each
unfoldable pub units_at : ByteOrder → List ℕ → ℕ → ℕ → List ℕ
units_at o s zero p = []
units_at o s (suc n) p = number_at o 0 s p 2 ∷ units_at o s n (p + 2)

-- from an even place the units stand side by side
read_unit : (s : List ℕ) (set : Settings) (c : Cursor) (u : ℕ) (d : Cursor) → Even c → read_number s set c 2 ≡ Ok (u, d) → (u ≡ number_at set.order 0 s c.pos 2) × (moved c 2 ≡ d)
read_unit s set c u d h e =
    let k = read_exact s set c 2 u 0 d (even_2 set.version c h) e in
    let z : c.pos + 0 ≡ c.pos = omega arith in
    (k.0 ∙ ap (λ (p : ℕ). number_at set.order 0 s p 2) z, ap (λ (p : ℕ). cursor_at (p + 2) c.origin) (sym z) ∙ k.1)

even_on : (c d : Cursor) → Even c → moved c 2 ≡ d → Even d
even_on c d h e =
    let p : c.pos + 2 ≡ d.pos = ap (λ (y : Cursor). y.pos) e in
    let o : c.origin ≡ d.origin = ap (λ (y : Cursor). y.origin) e in
    (omega arith, omega arith)

-- the units that were read are those that stand there, and the cursor is right behind them
module _ (s : List ℕ) (set : Settings) where
  abbrev Side : ℕ → Cursor → List ℕ → Cursor → Type 0
  Side n c us d = (us ≡ units_at set.order s n c.pos) × (d.pos ≡ c.pos + 2 * n)

  side_one : (n : ℕ) (c : Cursor) (us : List ℕ) (d : Cursor) (r : Number) → Even c → read_number s set c 2 ≡ r
      → ((x : Cursor) (vs : List ℕ) → Even x → read_units s set n x ≡ units vs d → Side n x vs d)
      → after_number short r (λ u x. unit_then u (read_units s set n x)) ≡ units us d → Side (suc n) c us d
  unfolding units_at after_number
  side_one n c us d (Err x) h f rest e = absurd (let z : ◌≡◌ {A = ℕ} 0 1 = cc in omega arith)
  side_one n c us d (Ok (u, x)) h f rest e =
      let k = units_inv u (read_units s set n x) us d e in
      let m = read_unit s set c u x h f in
      let p : c.pos + 2 ≡ x.pos = ap (λ (y : Cursor). y.pos) m.1 in
      let l = rest x k.0 (even_on c x h m.1) k.1 in
      (rw p (cc (k.2, m.0, l.0)), omega (arith, l.1))

  units_are : (n : ℕ) (c : Cursor) (us : List ℕ) (d : Cursor) → Even c → read_units s set n c ≡ units us d → Side n c us d
  unfolding read_units units_at
  units_are zero c us d h e = ((cc), (let f : c ≡ d = cc in omega (arith, ap (λ (y : Cursor). y.pos) f)))
  units_are (suc n) c us d h e = side_one n c us d (read_number s set c 2) h refl (λ x vs g f. units_are n x vs d g f) e

-- STRING16: the units of an accepted one, from the cursor x behind its length
record Accepted (s : List ℕ) (set : Settings) (x : Cursor) (start n : ℕ) (d : Cursor) : Type 0 where
  starts : x.pos ≡ start
  us : List ℕ
  read : read_units s set n x ≡ units us d
  good : utf16 us ≡ true

module _ (s : List ℕ) (set : Settings) (start n : ℕ) (d : Cursor) where
  on_units_inv : (m : ℕ) (x : Cursor) (r : Units) → read_units s set m x ≡ r → on_units x.pos m r ≡ Ok (start, n, d) → Accepted s set x start n d
  unfolding on_units
  on_units_inv m x (short y) f e = absurd (short≢got y start n d e)
  on_units_inv m x (units us y) f e =
      let j = text_if_inv (utf16 us) x.pos m start n y d e in
      record { starts = j.1; us = us; read = rw (j.2, j.3) at f; good = j.0 }

  long_inv : (empty odd : Bool) (m : ℕ) (x : Cursor) → pick empty (Ok (x.pos, 0, x)) (pick odd (Err unread.Bad) (units_here s set x m)) ≡ Ok (start, n, d) → Accepted s set x start n d
  unfolding read_units rest_good units_here
  long_inv true odd m x e =
      let p = text_parts e in
      record { starts = p.0; us = []; read = rw (← p.1) (ap (λ (c : Cursor). units [] c) p.2); good = refl }
  long_inv false true m x e = absurd (bad≢got start n d e)
  long_inv false false m x e = on_units_inv m x (read_units s set m x) refl e

  length16_inv : (c : Cursor) (r : Number) → read_number s set c 4 ≡ r → after_number short_text r (λ m x. wide_here s set x m) ≡ Ok (start, n, d)
      → (v : ℕ) × (x : Cursor) × (read_number s set c 4 ≡ Ok (v, x)) × Accepted s set x start n d
  unfolding after_number wide_here
  length16_inv c (Err x) f e = absurd (short≢got x start n d e)
  length16_inv c (Ok (v, x)) f e = (v, x, f, long_inv (eqb v 0) (eqb (v % 2) 1) (v / 2) x e)

  accepted : (c : Cursor) → wstring_type s set c ≡ Ok (start, n, d) → (v : ℕ) × (x : Cursor) × (read_number s set c 4 ≡ Ok (v, x)) × Accepted s set x start n d
  unfolding wstring_type
  accepted c e = length16_inv c (read_number s set c 4) refl e

  -- it stands in the data
  pub wstring_inv : (c : Cursor) → wstring_type s set c ≡ Ok (start, n, d) → Stands s c 2 start n d
  wstring_inv c e =
      let w = accepted c e in
      let m = read_inv s set c 4 w.0 w.1 w.2 in
      let r = units_room s set n w.1 w.3.us d m.inside w.3.read in
      record { after = omega (arith, m.on, w.3.starts); room = omega (arith, r.0, w.3.starts); inside = r.1; kept = r.2 ∙ m.kept }

  -- the units from its start, two bytes each, are well-formed, and the reading stands right behind them
  pub wstring_units : (c : Cursor) → c.origin ≤ c.pos → wstring_type s set c ≡ Ok (start, n, d) → (utf16 (units_at set.order s n start) ≡ true) × (d.pos ≡ start + 2 * n)
  wstring_units c h e =
      let w = accepted c e in
      let l = units_are s set n w.1 w.3.us d (after_length s set c w.0 w.1 h w.2) w.3.read in
      let u : w.3.us ≡ units_at set.order s n start = rw w.3.starts at l.0 in
      (rw u at w.3.good, omega (arith, l.1, w.3.starts))

-- a string that is all there and well-formed, n being its length with the closing byte
pub string_there : (s : List ℕ) (set : Settings) (c : Cursor) (start n : ℕ) → read_number s set c 4 ≡ Ok (n, cursor_at start c.origin) → 0 < n → start + n ≤ length s → utf8 (part s start (n - 1)) ≡ true
    → string_type s set c ≡ Ok (start, n - 1, cursor_at (start + n) c.origin)
unfolding string_type bytes_here after_number after_move
string_there s set c start n e some h good =
    let a : seek_to s (cursor_at start c.origin) (n - 1) ≡ (Ok (cursor_at (start + (n - 1)) c.origin)) = sym (seek_at s (cursor_at start c.origin) (n - 1) (omega arith)) in
    let b : seek_to s (cursor_at (start + (n - 1)) c.origin) 1 ≡ (Ok (cursor_at (start + (n - 1) + 1) c.origin)) = sym (seek_at s (cursor_at (start + (n - 1)) c.origin) 1 (omega arith)) in
    let k : start + (n - 1) + 1 ≡ start + n = omega arith in
    rw (e, a, b, good, k)
