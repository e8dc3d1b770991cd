-- Laws of a value that opens nothing: one for each way that it goes. Assumes nothing.
use Rattle.std.specs.Prelude.{Err, Ok}
use Prim.Native.Nat.{ℕ, ◌+◌, ◌-◌, ◌≤◌, ◌<◌, ◌^◌}
use mathlib.Core.Path.{◌≡◌, refl, sym, ◌∙◌}
use mathlib.Core.Bool.{Bool, true, false}
use mathlib.Core.List.{List, [], ◌∷◌}
use native.Mathlib.Omega.{arith}
use mir.Syntax.{w64}
use mir.Val.{Fits, bool_byte}
use lib.ListN.{length}
use borrow.Author.Tests.{ne_eqb}
use Rattle.wire.specs.declared.cursor.Cursor.{Cursor}
use Rattle.wire.specs.declared.cursor.Shortage.{Shortage}
use Rattle.wire.specs.declared.cursor.Unread.{Unread}
use Rattle.wire.specs.declared.cursor.Unread.TheVariants as unread
use Rattle.wire.specs.declared.settings.Settings.{Settings}
use Rattle.wire.specs.Number.{Number, Float128, Boolean, read_number, read_float128, read_boolean}
use Rattle.wire.specs.Code.Reads.{ReadIs}
use Rattle.kinds.specs.Kinds.{align_of, stored_of, is_primitive}
use Rattle.kinds.proofs.Table.{primitive_align, own_stored}
use Rattle.text.specs.Text.{Text, string_type, wstring_type}
use Rattle.table.specs.declared.rows.Row.{Row}
use Rattle.table.specs.declared.out.Refusal.TheVariants.{Unsupported, NoRoom}
use Rattle.table.specs.declared.out.Trouble.TheVariants as trouble
use Rattle.table.specs.Rows.{row, room, no_room}
use Rattle.table.specs.Code.Rows.{put_row}
use Rattle.table.specs.Code.Outcome.{Out, Done, unread_trouble}
use Rattle.table.proofs.Filling.{filled_none, filled_one, full_fits}
use Rattle.table.proofs.Outcomes.{is_read, is_short, is_refused, no_room_law, some_room}
use Rattle.values.specs.Scalar.{rowed, place_before, bool_word, on_boolean, on_float128, word_of, on_number, on_text, scalar_of, enum_of}

-- a row, where it has a place
module _ (t : List ℕ) (n : ℕ) (f : Bool) (is : f ≡ no_room t n) where
  pub row_next : f ≡ false → length t < 2 ^ 64 → Fits w64 (n + 1)
  row_next e h = omega (arith, full_fits t n f is e)

  module _ (c : Cursor) (r : Row) where
    pub row_full : f ≡ true → Done (rowed (room t n) c r) n t t (Err (trouble.Refused NoRoom))
    unfolding rowed
    row_full e = is_refused (no_room_law t n _ f is e) (filled_none t n)

    pub row_given : f ≡ false → (u : List ℕ) → u ≡ put_row t n r → Done (rowed (room t n) c r) n t u (Ok (c, n + 1))
    unfolding rowed
    row_given e u p = is_read {rs = r ∷ []} (some_room t n _ f is e) refl (rw p (filled_one t n r (full_fits t n f is e)))

-- the word of a boolean
word_is : (v : Bool) → bool_byte v ≡ bool_word v
unfolding bool_word
word_is true = refl
word_is false = refl

module _ (s : List ℕ) (set : Settings) (c : Cursor) (id : ℕ) (t : List ℕ) (n : ℕ) where
  module _ (g : Boolean) (is : g ≡ read_boolean s set c) where
    pub boolean_row : (v : Bool) (d : Cursor) → g ≡ Ok (v, d) → (w : ℕ) → w ≡ bool_byte v → (y : ℕ) → y ≡ stored_of 1 → (p : ℕ) → p ≡ d.pos - 1 → (u : List ℕ) (r : Out) → Done (rowed (room t n) d (row y id w 0 p)) n t u r
        → Done (on_boolean id (room t n) (read_boolean s set c)) n t u r
    unfolding on_boolean place_before
    boolean_row v d e w k y stored p at u r h = rw (← is, e, ← at) (rw (stored ∙ own_stored 1 tt, k ∙ word_is v) at h)

    pub boolean_none : (x : Unread) → g ≡ Err x → Done (on_boolean id (room t n) (read_boolean s set c)) n t t (Err (unread_trouble x))
    unfolding on_boolean
    boolean_none unread.Bad e = is_refused (rw (← is, e)) (filled_none t n)
    boolean_none (unread.Short x) e = is_short (rw (← is, e)) (filled_none t n)

  module _ (g : Float128) (is : g ≡ read_float128 s set c) where
    pub float128_row : (low high : ℕ) (d : Cursor) → g ≡ Ok (low, high, d) → (y : ℕ) → y ≡ stored_of 11 → (p : ℕ) → p ≡ d.pos - 16 → (u : List ℕ) (r : Out) → Done (rowed (room t n) d (row y id low high p)) n t u r
        → Done (on_float128 id (room t n) (read_float128 s set c)) n t u r
    unfolding on_float128 place_before
    float128_row low high d e y stored p at u r h = rw (← is, e) (rw (stored ∙ own_stored 11 tt, at) at h)

    pub float128_short : (x : Shortage) → g ≡ Err x → Done (on_float128 id (room t n) (read_float128 s set c)) n t t (Err (trouble.Short x))
    unfolding on_float128
    float128_short x e = is_short (rw (← is, e)) (filled_none t n)

-- a text
module _ (id kind : ℕ) (t : List ℕ) (n : ℕ) (g : Text) where
  pub text_row : (start size : ℕ) (c : Cursor) → g ≡ Ok (start, size, c) → (y : ℕ) → y ≡ stored_of kind → (p : ℕ) → p ≡ start - 4 → (u : List ℕ) (r : Out) → Done (rowed (room t n) c (row y id start size p)) n t u r → Done (on_text (stored_of kind) id (room t n) g) n t u r
  unfolding on_text place_before
  text_row start size c e y stored p at u r h = rw (e, ← at) (rw stored at h)

  pub text_none : (x : Unread) → g ≡ Err x → Done (on_text (stored_of kind) id (room t n) g) n t t (Err (unread_trouble x))
  unfolding on_text
  text_none unread.Bad e = is_refused (rw e) (filled_none t n)
  text_none (unread.Short x) e = is_short (rw e) (filled_none t n)

-- a number's width and its row's kind are what the table says
module _ (kind w : ℕ) (wide : w ≡ align_of kind) where
  pub width_some : 0 < align_of kind → 0 < w
  width_some h = rw wide h

  pub width_most : align_of kind ≤ 8 → w ≤ 8
  width_most h = rw wide h

  module _ (s : List ℕ) (set : Settings) (c : Cursor) (g : Number) (is : ReadIs s set c w g) where
    pub number_below : (v : ℕ) (d : Cursor) → g ≡ Ok (v, d) → v < 256 ^ w
    number_below v d f = rw f at is.small

    module _ (id : ℕ) (t : List ℕ) (n : ℕ) where
      pub number_row_law : (v : ℕ) (d : Cursor) → g ≡ Ok (v, d) → (x : ℕ) → x ≡ word_of kind v → (y : ℕ) → y ≡ stored_of kind → (p : ℕ) → p ≡ d.pos - w → (u : List ℕ) (r : Out) → Done (rowed (room t n) d (row y id x 0 p)) n t u r
          → Done (on_number kind id (room t n) (read_number s set c (align_of kind))) n t u r
      unfolding on_number place_before
      number_row_law v d f x k y stored p at u r h =
          let z : read_number s set c (align_of kind) ≡ (Ok (v, d)) = rw wide at (sym is.is ∙ f) in
          rw (z, ← k) (rw (stored, at, wide) at h)

      pub number_short : (x : Shortage) → g ≡ Err x → Done (on_number kind id (room t n) (read_number s set c (align_of kind))) n t t (Err (trouble.Short x))
      unfolding on_number
      number_short x f =
          let z : read_number s set c (align_of kind) ≡ (Err x) = rw wide at (sym is.is ∙ f) in
          is_short (rw z) (filled_none t n)

-- by kind
module _ (s : List ℕ) (set : Settings) (kind id : ℕ) (c : Cursor) (t : List ℕ) (n : ℕ) where
  pub scalar_boolean : kind ≡ 1 → (u : List ℕ) (r : Out) → Done (on_boolean id (room t n) (read_boolean s set c)) n t u r → Done (scalar_of s set kind id c (room t n)) n t u r
  unfolding scalar_of
  scalar_boolean e u r h = rw e h

  pub scalar_float128 : kind ≡ 11 → (u : List ℕ) (r : Out) → Done (on_float128 id (room t n) (read_float128 s set c)) n t u r → Done (scalar_of s set kind id c (room t n)) n t u r
  unfolding scalar_of
  scalar_float128 e u r h = rw e h

  pub scalar_char16 : kind ≡ 15 → Done (scalar_of s set kind id c (room t n)) n t t (Err (trouble.Refused Unsupported))
  unfolding scalar_of
  scalar_char16 e = is_refused (rw e) (filled_none t n)

  pub scalar_string : kind ≡ 16 → (g : Text) → g ≡ string_type s set c → (u : List ℕ) (r : Out) → Done (on_text (stored_of 16) id (room t n) g) n t u r → Done (scalar_of s set kind id c (room t n)) n t u r
  unfolding scalar_of
  scalar_string e g f u r h = rw (e, ← f) (rw (own_stored 16 tt) at h)

  pub scalar_wstring : kind ≡ 17 → (g : Text) → g ≡ wstring_type s set c → (u : List ℕ) (r : Out) → Done (on_text (stored_of 17) id (room t n) g) n t u r → Done (scalar_of s set kind id c (room t n)) n t u r
  unfolding scalar_of
  scalar_wstring e g f u r h = rw (e, ← f) (rw (own_stored 17 tt) at h)

  module _ (a : kind ≡ 1 → ⊥) (b : kind ≡ 11 → ⊥) (d : kind ≡ 15 → ⊥) (i : kind ≡ 16 → ⊥) (j : kind ≡ 17 → ⊥) (p : Bool) (is : p ≡ is_primitive kind) where
    pub scalar_number : p ≡ true → (u : List ℕ) (r : Out) → Done (on_number kind id (room t n) (read_number s set c (align_of kind))) n t u r → Done (scalar_of s set kind id c (room t n)) n t u r
    unfolding scalar_of
    scalar_number e u r h = rw (ne_eqb kind 1 a, ne_eqb kind 11 b, ne_eqb kind 15 d, ne_eqb kind 16 i, ne_eqb kind 17 j, ← is, e) h

    pub scalar_none : p ≡ false → Done (scalar_of s set kind id c (room t n)) n t t (Err (trouble.Refused Unsupported))
    unfolding scalar_of
    scalar_none e = is_refused (rw (ne_eqb kind 1 a, ne_eqb kind 11 b, ne_eqb kind 15 d, ne_eqb kind 16 i, ne_eqb kind 17 j, ← is, e)) (filled_none t n)

-- what the code's tests say of a number's width
module _ (kind : ℕ) (p : Bool) (is : p ≡ is_primitive kind) (yes : p ≡ true) (other : kind ≡ 11 → ⊥) where
  pub number_some : 0 < align_of kind
  number_some = (primitive_align kind (sym is ∙ yes) other).0

  pub number_most : align_of kind ≤ 8
  number_most = (primitive_align kind (sym is ∙ yes) other).1

-- an enum that has no base of those
pub enum_none : (s : List ℕ) (set : Settings) (base : ℕ) (c : Cursor) (t : List ℕ) (n : ℕ) → (base ≡ 3 → ⊥) → (base ≡ 4 → ⊥) → (base ≡ 12 → ⊥) → Done (enum_of s set base c (room t n)) n t t (Err (trouble.Refused Unsupported))
unfolding enum_of
enum_none s set base c t n x y z = is_refused (rw (ne_eqb base 3 x, ne_eqb base 4 y, ne_eqb base 12 z)) (filled_none t n)
