-- Strings in the data.
use Rattle.std.specs.Prelude.{ℕ, zero, suc, ◌-◌, ◌%◌, ◌/◌, List, [], ◌∷◌, Bool, eqb, take, drop, Result, Err, Ok}
use Rattle.ground.specs.Choice.{pick}
use Rattle.wire.specs.Place.{seek_to, after_move}
use Rattle.wire.specs.Number.{read_number, after_number}
use Rattle.wire.specs.declared.settings.Settings.{Settings}
use Rattle.wire.specs.declared.cursor.Cursor.{Cursor}
use Rattle.wire.specs.declared.cursor.Shortage.{Shortage}
use Rattle.wire.specs.declared.cursor.Unread.{Unread}
use Rattle.wire.specs.declared.cursor.Unread.TheVariants as unread
use Rattle.text.specs.Unicode.{utf8, utf16}

-- a text: its start in the data, how many bytes or units, and the cursor past them; or that it ran short, or is ill-formed
abbrev pub Text : Type 0
Text = Result (ℕ × ℕ × Cursor) Unread

-- what a read that ran short makes of a text
abbrev pub short_text : Shortage → Text
short_text x = Err (unread.Short x)

-- the n bytes from a
abbrev pub part : List ℕ → ℕ → ℕ → List ℕ
part s a n = take n (drop a s)

-- a text, with its start, its size and the cursor past it, if it is well-formed; else it is 2
abbrev pub text_if : Bool → ℕ → ℕ → Cursor → Text
text_if good start n c = pick good (Ok (start, n, c)) (Err unread.Bad)

-- n bytes where the cursor stands, as one block, "one more byte of any value, then UTF-8"
unfoldable pub bytes_here : List ℕ → Cursor → ℕ → Text
bytes_here s c n =
    after_move short_text (seek_to s c n) (λ d.
    after_move short_text (seek_to s d 1) (λ e. text_if (utf8 (part s c.pos n)) c.pos n e))

-- "STRING8: length n, n-1 bytes (0 for n = 0), one more byte of any value, then UTF-8."
unfoldable pub string_type : List ℕ → Settings → Cursor → Text
string_type s set c = after_number short_text (read_number s set c 4) (λ n d. bytes_here s d (n - 1))

-- units that were read, and the cursor past them
pub data Units : Type 0 where
  short : Shortage → Units
  units : List ℕ → Cursor → Units

-- one unit before the others
unfoldable pub unit_then : ℕ → Units → Units
unit_then u (short x) = short x
unit_then u (units us c) = units (u ∷ us) c

-- n units, one after the other, each a number of 2 bytes
unfoldable pub read_units : List ℕ → Settings → ℕ → Cursor → Units
read_units s set zero c = units [] c
read_units s set (suc n) c = after_number short (read_number s set c 2) (λ u d. unit_then u (read_units s set n d))

-- ".., then UTF-16 pairs"
unfoldable pub on_units : ℕ → ℕ → Units → Text
on_units start n (short x) = Err (unread.Short x)
on_units start n (units us c) = text_if (utf16 us) start n c

-- n units where the cursor stands
unfoldable pub units_here : List ℕ → Settings → Cursor → ℕ → Text
units_here s set c n = on_units c.pos n (read_units s set n c)

-- "length 0 is empty, odd is 2, then n/2 units"
unfoldable pub wide_here : List ℕ → Settings → Cursor → ℕ → Text
wide_here s set c n = pick (eqb n 0) (Ok (c.pos, 0, c)) (pick (eqb (n % 2) 1) (Err unread.Bad) (units_here s set c (n / 2)))

-- "STRING16: length 0 is empty, odd is 2, then n/2 units, then UTF-16 pairs."
unfoldable pub wstring_type : List ℕ → Settings → Cursor → Text
wstring_type s set c = after_number short_text (read_number s set c 4) (λ n d. wide_here s set d n)
