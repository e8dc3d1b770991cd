-- A value that opens nothing.
use Rattle.std.specs.Prelude.{ℕ, ◌-◌, Bool, true, false, List, [], ◌∷◌, eqb, Err, Ok}
use Rattle.ground.specs.Choice.{pick, among}
use Rattle.wire.specs.declared.cursor.Cursor.{Cursor}
use Rattle.wire.specs.declared.settings.Settings.{Settings}
use Rattle.wire.specs.declared.cursor.Unread.TheVariants as unread
use Rattle.wire.specs.Number.{Number, Float128, Boolean, read_number, read_float128, read_boolean}
use Rattle.wire.specs.Signed.{extended}
use Rattle.kinds.specs.Kinds.{align_of, stored_of, is_primitive, is_signed}
use Rattle.text.specs.Text.{Text, string_type, wstring_type}
use Rattle.table.specs.declared.rows.Row.{Row}
use Rattle.table.specs.declared.out.Refusal.TheVariants.{InvalidData, Unsupported}
use Rattle.table.specs.Rows.{row}
use Rattle.table.specs.Outcome.{Outcome, read, short, refused, room_for}

-- "Scalar and text rows open after the read"
unfoldable pub rowed : ℕ → Cursor → Row → Outcome
rowed room c r = room_for room (read c (r ∷ []))

-- order 7: "the data position of the value's first byte after alignment". The bytes of what was read end where the reading then stands, so it is that position
-- less their number (proofs/Placing.antt: it is the aligned position, and the bytes there spell the value)
unfoldable pub place_before : ℕ → ℕ → ℕ
place_before size end = end - size

unfoldable pub bool_word : Bool → ℕ
bool_word true = 1
bool_word false = 0

-- "Bool: byte 0 or 1, else 2."
unfoldable pub on_boolean : ℕ → ℕ → Boolean → Outcome
on_boolean id room (Ok (v, c)) = rowed room c (row 1 id (bool_word v) 0 (place_before 1 c.pos))
on_boolean id room (Err unread.Bad) = refused InvalidData
on_boolean id room (Err (unread.Short x)) = short x

-- "FLOAT128 low half a, high half b"
unfoldable pub on_float128 : ℕ → ℕ → Float128 → Outcome
on_float128 id room (Ok (low, high, c)) = rowed room c (row 11 id low high (place_before 16 c.pos))
on_float128 id room (Err x) = short x

-- "Scalars put the value in a: signed extended to 64 bits, floats as bits"
unfoldable pub word_of : ℕ → ℕ → ℕ
word_of kind v = pick (is_signed kind) (extended (align_of kind) v) v

-- any other number: "BYTE is stored as 13." "CHAR8: the byte's number."
unfoldable pub on_number : ℕ → ℕ → ℕ → Number → Outcome
on_number kind id room (Ok (v, c)) = rowed room c (row (stored_of kind) id (word_of kind v) 0 (place_before (align_of kind) c.pos))
on_number kind id room (Err x) = short x

-- "Text 16: a start in the data, b bytes; 17: b 16-bit units." Order 7: "for a text, of its length", which are the four bytes before its start
unfoldable pub on_text : ℕ → ℕ → ℕ → Text → Outcome
on_text kind id room (Ok (start, size, c)) = rowed room c (row kind id start size (place_before 4 start))
on_text kind id room (Err unread.Bad) = refused InvalidData
on_text kind id room (Err (unread.Short x)) = short x

-- a value by its kind. "11: member kinds 15, .."
unfoldable pub scalar_of : List ℕ → Settings → ℕ → ℕ → Cursor → ℕ → Outcome
scalar_of s set kind id c room =
    pick (eqb kind 1) (on_boolean id room (read_boolean s set c))
    (pick (eqb kind 11) (on_float128 id room (read_float128 s set c))
    (pick (eqb kind 15) (refused Unsupported)
    (pick (eqb kind 16) (on_text 16 id room (string_type s set c))
    (pick (eqb kind 17) (on_text 17 id room (wstring_type s set c))
    (pick (is_primitive kind) (on_number kind id room (read_number s set c (align_of kind))) (refused Unsupported))))))

-- "The root and an enum's value have id 0." "11: .. enum base not 3, 4, 12."
unfoldable pub enum_of : List ℕ → Settings → ℕ → Cursor → ℕ → Outcome
enum_of s set base c room = pick (among (3 ∷ 4 ∷ 12 ∷ []) base) (scalar_of s set base 0 c room) (refused Unsupported)
