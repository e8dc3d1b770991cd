-- Worked examples of the definitions, computed: sequences of the Unicode standard, and document 01's examples. Assumes nothing.
use Rattle.std.specs.Prelude.{Err, Ok}
use Rattle.wire.specs.declared.cursor.Unread.TheVariants as unread
use Prim.Native.Nat.{ℕ}
use mathlib.Core.Path.{◌≡◌, refl}
use mathlib.Core.Bool.{Bool, true, not}
use mathlib.Core.List.{List, [], ◌∷◌}
use Rattle.ground.specs.Choice.{every}
use Rattle.wire.specs.Identifier.{settings}
use Rattle.wire.specs.Place.{cursor_at, shortage, alignment_of, padding_of, seek_to, align_to, after_move}
use Rattle.wire.specs.Number.{number_at, on_bytes, number_here, on_aligned, read_number, after_number}
use Rattle.wire.specs.declared.settings.Mode.TheVariants.{Crate}
use Rattle.wire.specs.declared.settings.ByteOrder.TheVariants.{BigEndian, LittleEndian}
use Rattle.wire.specs.declared.settings.Version.TheVariants.{Xcdr1, Xcdr2}
use Rattle.text.specs.Unicode.{table37, table16, follow, rest_good, utf8, utf16}
use Rattle.text.specs.Text.{Text, bytes_here, string_type, unit_then, read_units, on_units, units_here, wide_here, wstring_type}

abbrev none : (List ℕ → Bool) → List (List ℕ) → Bool
none f xs = every (λ x. not (f x)) xs

utf8_well_formed : every utf8 (
    -- nothing; U+004D, U+0430, U+4E8C, U+10302, of the standard's Table 3-4
    [] ∷
    (0x4D ∷ 0xD0 ∷ 0xB0 ∷ 0xE4 ∷ 0xBA ∷ 0x8C ∷ 0xF0 ∷ 0x90 ∷ 0x8C ∷ 0x82 ∷ []) ∷
    -- the first and the last of two, three and four bytes; the last before the surrogates, and the first after
    (0xC2 ∷ 0x80 ∷ []) ∷ (0xDF ∷ 0xBF ∷ []) ∷
    (0xE0 ∷ 0xA0 ∷ 0x80 ∷ []) ∷ (0xEF ∷ 0xBF ∷ 0xBF ∷ []) ∷
    (0xF0 ∷ 0x90 ∷ 0x80 ∷ 0x80 ∷ []) ∷ (0xF4 ∷ 0x8F ∷ 0xBF ∷ 0xBF ∷ []) ∷
    (0xED ∷ 0x9F ∷ 0xBF ∷ []) ∷ (0xEE ∷ 0x80 ∷ 0x80 ∷ []) ∷ []) ≡ true
unfolding every table37 follow rest_good
utf8_well_formed = refl

utf8_ill_formed : none utf8 (
    -- longer than need be
    (0xC0 ∷ 0xAF ∷ []) ∷ (0xE0 ∷ 0x80 ∷ 0x80 ∷ []) ∷ (0xE0 ∷ 0x9F ∷ 0xBF ∷ []) ∷ (0xF0 ∷ 0x80 ∷ 0x80 ∷ 0x80 ∷ []) ∷
    -- a surrogate; past U+10FFFF
    (0xED ∷ 0xA0 ∷ 0x80 ∷ []) ∷ (0xF4 ∷ 0x90 ∷ 0x80 ∷ 0x80 ∷ []) ∷ (0xF5 ∷ 0x80 ∷ 0x80 ∷ 0x80 ∷ []) ∷
    -- a later byte alone; cut short; broken off
    (0x80 ∷ []) ∷ (0xE4 ∷ 0xBA ∷ []) ∷ (0xF0 ∷ 0x9F ∷ 0x98 ∷ []) ∷ (0xE4 ∷ 0xBA ∷ 0x41 ∷ []) ∷ []) ≡ true
unfolding every table37 follow rest_good
utf8_ill_formed = refl

-- U+10302 and U+004D; ends of the three rows
utf16_well_formed : every utf16 ((0xD800 ∷ 0xDF02 ∷ 0x004D ∷ []) ∷ (0xD7FF ∷ 0xE000 ∷ 0xFFFF ∷ []) ∷ (0xDBFF ∷ 0xDFFF ∷ []) ∷ []) ≡ true
unfolding every table16 follow rest_good
utf16_well_formed = refl

-- either half alone, and the high half before another character
utf16_ill_formed : none utf16 ((0xDF02 ∷ []) ∷ (0xD800 ∷ []) ∷ (0xD800 ∷ 0x0041 ∷ []) ∷ []) ≡ true
unfolding every table16 follow rest_good
utf16_ill_formed = refl

abbrev string8 : List ℕ → Text
string8 s = string_type s (settings Crate LittleEndian Xcdr1) (cursor_at 0 0)

abbrev string16 : List ℕ → Text
string16 s = wstring_type s (settings Crate LittleEndian Xcdr1) (cursor_at 0 0)

-- document 01, 5: "STRING8 `00000000`: 1; with `41` added: empty, start 4."
example5 : (string8 (0x00 ∷ 0x00 ∷ 0x00 ∷ 0x00 ∷ []) ≡ Err (unread.Short (shortage (cursor_at 4 0) 4 1)))
    × (string8 (0x00 ∷ 0x00 ∷ 0x00 ∷ 0x00 ∷ 0x41 ∷ []) ≡ Ok (4, 0, cursor_at 5 0))
unfolding string_type bytes_here after_number after_move read_number on_aligned number_here on_bytes number_at align_to seek_to padding_of alignment_of rest_good
example5 = (refl, refl)

-- ill-formed bytes are 2, and 1 where the closing byte is missing
ill_formed : (string8 (0x02 ∷ 0x00 ∷ 0x00 ∷ 0x00 ∷ 0x80 ∷ 0x00 ∷ []) ≡ Err unread.Bad)
    × (string8 (0x02 ∷ 0x00 ∷ 0x00 ∷ 0x00 ∷ 0x80 ∷ []) ≡ Err (unread.Short (shortage (cursor_at 5 0) 5 1)))
unfolding string_type bytes_here after_number after_move read_number on_aligned number_here on_bytes number_at align_to seek_to padding_of alignment_of table37 follow rest_good
ill_formed = (refl, refl)

-- order 6: a STRING8's bytes are told as one block, and then its closing byte
short_blocks : (string8 (0x04 ∷ 0x00 ∷ 0x00 ∷ 0x00 ∷ 0x41 ∷ []) ≡ Err (unread.Short (shortage (cursor_at 4 0) 4 2)))
    × (string8 (0x04 ∷ 0x00 ∷ 0x00 ∷ 0x00 ∷ 0x41 ∷ 0x42 ∷ 0x43 ∷ []) ≡ Err (unread.Short (shortage (cursor_at 7 0) 7 1)))
unfolding string_type bytes_here after_number after_move read_number on_aligned number_here on_bytes number_at align_to seek_to padding_of alignment_of rest_good
short_blocks = (refl, refl)

-- document 01, 12, its string after the two headers: "`0A000000 01000050 02000000 4100`: start 12, 1 byte."
example12 : string_type (0x0A ∷ 0x00 ∷ 0x00 ∷ 0x00 ∷ 0x01 ∷ 0x00 ∷ 0x00 ∷ 0x50 ∷ 0x02 ∷ 0x00 ∷ 0x00 ∷ 0x00 ∷ 0x41 ∷ 0x00 ∷ []) (settings Crate LittleEndian Xcdr2) (cursor_at 8 0)
    ≡ Ok (12, 1, cursor_at 14 0)
unfolding string_type bytes_here after_number after_move read_number on_aligned number_here on_bytes number_at align_to seek_to padding_of alignment_of table37 follow rest_good
example12 = refl

-- document 01, 6: "STRING16 `01000000`: 2." Length 0 reads nothing more
example6 : (string16 (0x01 ∷ 0x00 ∷ 0x00 ∷ 0x00 ∷ []) ≡ Err unread.Bad) × (string16 (0x00 ∷ 0x00 ∷ 0x00 ∷ 0x00 ∷ []) ≡ Ok (4, 0, cursor_at 4 0))
unfolding wstring_type wide_here after_number read_number on_aligned number_here on_bytes number_at align_to seek_to padding_of alignment_of
example6 = (refl, refl)

-- a pair; a low surrogate alone is 2, and 1 where a unit after it is missing
pairs : (wstring_type (0x00 ∷ 0x00 ∷ 0x00 ∷ 0x04 ∷ 0xD8 ∷ 0x00 ∷ 0xDF ∷ 0x02 ∷ []) (settings Crate BigEndian Xcdr2) (cursor_at 0 0) ≡ Ok (4, 2, cursor_at 8 0))
    × (string16 (0x02 ∷ 0x00 ∷ 0x00 ∷ 0x00 ∷ 0x02 ∷ 0xDF ∷ []) ≡ Err unread.Bad)
    × (string16 (0x04 ∷ 0x00 ∷ 0x00 ∷ 0x00 ∷ 0x02 ∷ 0xDF ∷ []) ≡ Err (unread.Short (shortage (cursor_at 6 0) 6 2)))
unfolding wstring_type wide_here after_number units_here on_units unit_then read_units read_number on_aligned number_here on_bytes number_at align_to seek_to padding_of alignment_of table16 follow rest_good
pairs = (refl, refl, refl)
