-- What a row's place says, of order 7: "the data position of the value's first byte after alignment; for a text, of its length". `place_before` is reckoned from
-- where the reading then stands; here it is where the alignment ended, and the bytes from there on spell what was read. Assumes nothing.
use Rattle.std.specs.Prelude.{Err, Ok}
use Rattle.wire.specs.declared.cursor.Unread.TheVariants as unread
use Prim.Native.Nat.{ℕ, ◌+◌, ◌-◌, ◌/◌, ◌%◌}
use mathlib.Core.Path.{◌≡◌, refl, sym, ap, ◌∙◌}
use mathlib.Core.Bool.{Bool, true, false}
use mathlib.Core.List.{List}
use native.Mathlib.Omega.{arith}
use lib.Dec.{eqb}
use borrow.Author.Tests.{eqb-true}
use Rattle.ground.specs.Choice.{pick}
use Rattle.wire.specs.declared.cursor.Cursor.{Cursor}
use Rattle.wire.specs.declared.settings.Settings.{Settings}
use Rattle.wire.specs.declared.cursor.Shortage.{Shortage}
use Rattle.wire.specs.Place.{Place, cursor_at, seek_to, align_to}
use Rattle.wire.specs.Number.{number_at, on_bytes, number_here, on_aligned, read_number}
use Rattle.wire.proofs.Moves.{seek_inv, align_inv, move_inv}
use Rattle.wire.proofs.Numbers.{number_inv, got_inv, short_got}
use Rattle.text.specs.Unicode.{utf8, utf16}
use Rattle.text.specs.Text as textual
use Rattle.text.proofs.Places.{text_parts, short≢got, bad≢got}
use Rattle.text.specs.Text.{Text, short_text, part, text_if, bytes_here, string_type, Units, read_units, on_units, units_here, wide_here, wstring_type}
use Rattle.values.specs.Scalar.{place_before}

-- a number of w bytes that was read: it was aligned to this place, and its value is what the w bytes from there on spell
pub record StoodAt (s : List ℕ) (set : Settings) (c : Cursor) (w v p : ℕ) : Type 0 where
  pub aligned : align_to s set.version c w ≡ Ok (cursor_at p c.origin)
  pub spelled : v ≡ number_at set.order 0 s p w

module _ (s : List ℕ) (set : Settings) (c : Cursor) (w v : ℕ) (d : Cursor) where
  here : (a : Cursor) (q : Place) → q ≡ seek_to s a w → on_bytes s set.order a.pos w q ≡ Ok (v, d) → (place_before w d.pos ≡ a.pos) × (v ≡ number_at set.order 0 s a.pos w)
  unfolding on_bytes place_before
  here a (Err x) f e = absurd (short_got x v d e)
  here a (Ok b) f e =
      let m = seek_inv s a w b (sym f) in
      let k : a.pos + w ≡ b.pos = ap (λ (x : Cursor). x.pos) m.1 in
      let g = got_inv e in
      let l : b.pos ≡ d.pos = ap (λ (x : Cursor). x.pos) g.1 in
      (omega (arith, k, l), sym g.0)

  pub number_stood : read_number s set c w ≡ Ok (v, d) → StoodAt s set c w v (place_before w d.pos)
  unfolding read_number on_aligned number_here
  number_stood = go (align_to s set.version c w) refl
    where
      go : (p : Place) → align_to s set.version c w ≡ p → on_aligned s set.order w p ≡ Ok (v, d) → StoodAt s set c w v (place_before w d.pos)
      go (Err x) f e = absurd (short_got x v d e)
      go (Ok a) f e =
          let h = here a (seek_to s a w) refl e in
          let o : a.origin ≡ c.origin = (align_inv s set.version c w a f).2 in
          record {
            aligned = f ∙ ap (λ (x : ℕ). (Ok (cursor_at x a.origin))) (sym h.0) ∙ ap (λ (x : ℕ). (Ok (cursor_at (place_before w d.pos) x))) o;
            spelled = rw h.0 h.1;
          }

-- ---- a text's length

module _ (start n : ℕ) (d : Cursor) where
  no_text : (x : Shortage) → ◌≡◌ {A = Text} (Err (unread.Short x)) (Ok (start, n, d)) → ⊥
  no_text x e = short≢got x start n d e

  text_if_law : (good : Bool) (a m : ℕ) (c : Cursor) → text_if good a m c ≡ Ok (start, n, d) → (a ≡ start) × (m ≡ n)
  text_if_law true a m c e = let p = text_parts e in (p.0, p.1)
  text_if_law false a m c e = absurd (bad≢got start n d e)

  module _ (s : List ℕ) (x : Cursor) where
    bytes_start : (m : ℕ) → bytes_here s x m ≡ Ok (start, n, d) → (x.pos ≡ start) × (m ≡ n)
    unfolding bytes_here
    bytes_start m e =
        let a = move_inv short_text (Ok (start, n, d)) no_text (seek_to s x m) _ e in
        let b = move_inv short_text (Ok (start, n, d)) no_text (seek_to s a.0 1) _ a.2 in
        text_if_law (utf8 (part s x.pos m)) x.pos m b.0 b.2

    units_start : (m : ℕ) (us : Units) → on_units x.pos m us ≡ Ok (start, n, d) → (x.pos ≡ start) × (m ≡ n)
    unfolding on_units
    units_start m (textual.short y) e = absurd (no_text y e)
    units_start m (textual.units us c) e = text_if_law (utf16 us) x.pos m c e

    wide_start : (set : Settings) (m : ℕ) → wide_here s set x m ≡ Ok (start, n, d) → (x.pos ≡ start) × (m / 2 ≡ n)
    unfolding wide_here units_here
    wide_start set m e = go (eqb m 0) (eqb (m % 2) 1) refl e
      where
        go : (p q : Bool) → eqb m 0 ≡ p → pick p (Ok (x.pos, 0, x)) (pick q (Err unread.Bad) (on_units x.pos (m / 2) (read_units s set (m / 2) x))) ≡ Ok (start, n, d) → (x.pos ≡ start) × (m / 2 ≡ n)
        go true q z e = let p = text_parts e in (p.0, omega (arith, eqb-true m 0 z, p.1))
        go false true z e = absurd (bad≢got start n d e)
        go false false z e = units_start (m / 2) (read_units s set (m / 2) x) e

  module _ (s : List ℕ) (set : Settings) (c : Cursor) where
    -- STRING8: its length v stands at the row's place, and the text has v - 1 bytes
    pub string_stood : string_type s set c ≡ Ok (start, n, d) → (v : ℕ) × StoodAt s set c 4 v (place_before 4 start) × (v - 1 ≡ n)
    unfolding string_type
    string_stood e =
        let m = number_inv short_text (Ok (start, n, d)) no_text (read_number s set c 4) _ e in
        let b = bytes_start s m.1 (m.0 - 1) m.3 in
        (m.0, rw b.0 at (number_stood s set c 4 m.0 m.1 m.2), b.1)

    -- STRING16: its length v stands there, and the text has v / 2 units
    pub wstring_stood : wstring_type s set c ≡ Ok (start, n, d) → (v : ℕ) × StoodAt s set c 4 v (place_before 4 start) × (v / 2 ≡ n)
    unfolding wstring_type
    wstring_stood e =
        let m = number_inv short_text (Ok (start, n, d)) no_text (read_number s set c 4) _ e in
        let b = wide_start s m.1 set m.0 m.3 in
        (m.0, rw b.0 at (number_stood s set c 4 m.0 m.1 m.2), b.1)
