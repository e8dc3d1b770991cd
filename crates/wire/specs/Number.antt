-- Numbers in the data.
use Rattle.wire.specs.declared.cursor.Unread.{Unread}
use Rattle.wire.specs.declared.cursor.Unread.TheVariants as unread
use Rattle.std.specs.Prelude.{ℕ, zero, suc, ◌+◌, ◌*◌, ◌/◌, ◌%◌, ◌^◌, true, false, List, ◌==◌, slice_index, Bool, Result, Err, Ok}
use Rattle.ground.specs.Choice.{pick}
use Rattle.wire.specs.Place.{seek_to, align_to}
use Rattle.wire.specs.declared.settings.ByteOrder.{ByteOrder}
use Rattle.wire.specs.declared.settings.ByteOrder.TheVariants.{BigEndian, LittleEndian}
use Rattle.wire.specs.declared.settings.Settings.{Settings}
use Rattle.wire.specs.declared.cursor.Cursor.{Cursor}
use Rattle.wire.specs.declared.cursor.Shortage.{Shortage}
use Rattle.wire.specs.Place.{Place}

-- a number that was read, or 16 bytes by their low half and their high half, and the cursor past it; or that the read ran short
abbrev pub Number : Type 0
Number = Result (ℕ × Cursor) Shortage

abbrev pub Float128 : Type 0
Float128 = Result (ℕ × ℕ × Cursor) Shortage

-- a boolean, and the cursor past it; or that the read ran short, or that the byte is none
abbrev pub Boolean : Type 0
Boolean = Result (Bool × Cursor) Unread

-- "Byte order by identifier." The number whose digits, in base 256, are those of v and below them the w bytes from p:
-- of the bytes the first is the highest in big-endian, the last in little
unfoldable pub number_at : ByteOrder → ℕ → List ℕ → ℕ → ℕ → ℕ
number_at BigEndian v s p zero = v
number_at BigEndian v s p (suc w) = number_at BigEndian (v * 256 + slice_index s p) s (p + 1) w
number_at LittleEndian v s p zero = v
number_at LittleEndian v s p (suc w) = number_at LittleEndian (v * 256 + slice_index s (p + w)) s p w

unfoldable pub on_bytes : List ℕ → ByteOrder → ℕ → ℕ → Place → Number
on_bytes s o p w (Err x) = Err x
on_bytes s o p w (Ok c) = Ok (number_at o 0 s p w, c)

-- the number of w bytes where the cursor stands
unfoldable pub number_here : List ℕ → ByteOrder → ℕ → Cursor → Number
number_here s o w c = on_bytes s o c.pos w (seek_to s c w)

unfoldable pub on_aligned : List ℕ → ByteOrder → ℕ → Place → Number
on_aligned s o w (Err x) = Err x
on_aligned s o w (Ok c) = number_here s o w c

-- a number of w bytes, at any width: it is aligned to its own size, then read
unfoldable pub read_number : List ℕ → Settings → Cursor → ℕ → Number
read_number s set c w = on_aligned s set.order w (align_to s set.version c w)

-- "FLOAT128 low half a, high half b": of the number, in both byte orders
unfoldable pub halves_of : Number → Float128
halves_of (Err x) = Err x
halves_of (Ok (v, c)) = Ok (v % 2 ^ 64, v / 2 ^ 64, c)

unfoldable pub float128_here : List ℕ → ByteOrder → Cursor → Float128
float128_here s o c = halves_of (number_here s o 16 c)

-- one number of 16 bytes
unfoldable pub read_float128 : List ℕ → Settings → Cursor → Float128
read_float128 s set c = halves_of (read_number s set c 16)

-- "Bool: byte 0 or 1, else 2."
unfoldable pub boolean_in : ℕ → Cursor → Boolean
boolean_in v c = pick (v == 0) (Ok (false, c)) (pick (v == 1) (Ok (true, c)) (Err unread.Bad))

unfoldable pub on_byte : Number → Boolean
on_byte (Err x) = Err (unread.Short x)
on_byte (Ok (v, c)) = boolean_in v c

unfoldable pub read_boolean : List ℕ → Settings → Cursor → Boolean
read_boolean s set c = on_byte (read_number s set c 1)

-- what follows a number that was read, with the number
unfoldable pub after_number : {A : Type 0} → (Shortage → A) → Number → (ℕ → Cursor → A) → A
after_number short (Err x) next = short x
after_number short (Ok (v, c)) next = next v c
