-- Document 01's bench examples that are numbers, computed. Assumes nothing.
use Rattle.std.specs.Prelude.{Err, None, Ok, Some}
use Rattle.wire.specs.declared.cursor.Unread.TheVariants as unread
use Rattle.std.proofs.Common.{◌≡◌, ℕ, ◌-◌, ◌*◌, ◌^◌, List, [], ◌∷◌, refl}
use Rattle.wire.specs.declared.settings.Mode.TheVariants.{Crate}
use Rattle.wire.specs.Identifier.{settings, order_of, settings_of}
use Rattle.wire.specs.Place.{cursor_at, shortage, alignment_of, padding_of, seek_to, align_to}
use Rattle.wire.specs.Number.{number_at, on_bytes, number_here, on_aligned, read_number, halves_of, read_float128, boolean_in, on_byte, read_boolean}
use Rattle.wire.specs.Signed.{extended}
use Rattle.wire.specs.declared.settings.Settings.{Settings}
use Rattle.wire.specs.declared.settings.ByteOrder.TheVariants.{BigEndian, LittleEndian}
use Rattle.wire.specs.declared.settings.Version.TheVariants.{Xcdr1, Xcdr2}
use Rattle.wire.specs.declared.cursor.Cursor.{Cursor}
use Rattle.wire.specs.Number.{Number}
use Rattle.wire.specs.Number.{Float128}
use Rattle.wire.specs.Number.{Boolean}

abbrev start : Cursor
start = cursor_at 0 0

abbrev le1 : Settings
le1 = settings Crate LittleEndian Xcdr1

abbrev le2 : Settings
le2 = settings Crate LittleEndian Xcdr2

-- the reads with every definition on the way open
unfoldable reads_number : List ℕ → Settings → Cursor → ℕ → Number
unfolding read_number on_aligned number_here on_bytes number_at align_to seek_to padding_of alignment_of
reads_number s set c w = read_number s set c w

unfoldable reads_boolean : List ℕ → Settings → Cursor → Boolean
unfolding read_boolean on_byte boolean_in read_number on_aligned number_here on_bytes number_at align_to seek_to padding_of alignment_of
reads_boolean s set c = read_boolean s set c

unfoldable reads_float128 : List ℕ → Settings → Cursor → Float128
unfolding read_float128 halves_of read_number on_aligned number_here on_bytes number_at align_to seek_to padding_of alignment_of
reads_float128 s set c = read_float128 s set c

-- example 1's value, and the word of its row
one : reads_number (0xFE ∷ 0xFF ∷ 0xFF ∷ 0xFF ∷ []) le1 start 4 ≡ Ok (4294967294, cursor_at 4 0)
unfolding reads_number
one = refl

one_word : extended 4 4294967294 ≡ 18446744073709551614
unfolding extended
one_word = refl

-- example 2: three bytes are short, and the alignment's position is kept; order 6: read from 0 on, one byte more was needed
two : reads_number (0xFE ∷ 0xFF ∷ 0xFF ∷ []) le1 start 4 ≡ Err (shortage start 0 1)
unfolding reads_number
two = refl

-- example 4: a boolean of 2 is bad
four : reads_boolean (2 ∷ []) le1 start ≡ Err unread.Bad
unfolding reads_boolean
four = refl

-- example 7: after a UINT8 an INT64 stands at 4 in XCDR2; XCDR1 aligns to 8 and is short there
abbrev twelve : List ℕ
twelve = 7 ∷ 0 ∷ 0 ∷ 0 ∷ 1 ∷ 0 ∷ 0 ∷ 0 ∷ 0 ∷ 0 ∷ 0 ∷ 0 ∷ []

seven_two : reads_number twelve le2 (cursor_at 1 0) 8 ≡ Ok (1, cursor_at 12 0)
unfolding reads_number
seven_two = refl

seven_one : reads_number twelve le1 (cursor_at 1 0) 8 ≡ Err (shortage (cursor_at 8 0) 8 4)
unfolding reads_number
seven_one = refl

-- order 6: "any skip counts as a read from where it starts", an alignment too: of the three bytes to 4 there are two
skipped : reads_number (7 ∷ 0 ∷ 0 ∷ []) le2 (cursor_at 1 0) 4 ≡ Err (shortage (cursor_at 1 0) 1 1)
unfolding reads_number
skipped = refl

-- "A position may pass the end; then even a skip of 0 is 1.", and needs the bytes up to there; a need that no word holds is the most that one holds
past : (seek_to twelve (cursor_at 13 0) 0 ≡ Err (shortage (cursor_at 13 0) 13 1)) × (seek_to [] (cursor_at 1 0) (2 ^ 64 - 1) ≡ Err (shortage (cursor_at 1 0) 1 (2 ^ 64 - 1)))
unfolding seek_to
past = (refl, refl)

-- FLOAT128: a is the low half of the number in both byte orders
abbrev sixteen : List ℕ
sixteen = 1 ∷ 2 ∷ 0 ∷ 0 ∷ 0 ∷ 0 ∷ 0 ∷ 0 ∷ 0 ∷ 0 ∷ 0 ∷ 0 ∷ 0 ∷ 0 ∷ 3 ∷ 4 ∷ []

little : reads_float128 sixteen le1 start ≡ Ok (0x0201, 0x0403 * 2 ^ 48, cursor_at 16 0)
unfolding reads_float128
little = refl

big : reads_float128 sixteen (settings Crate BigEndian Xcdr1) start ≡ Ok (0x0304, 0x0102 * 2 ^ 48, cursor_at 16 0)
unfolding reads_float128
big = refl

-- PL_CDR2_BE and CDR_LE, and two that name nothing
pl_cdr2_be : settings_of Crate 0 10 ≡ Some (settings Crate BigEndian Xcdr2)
unfolding settings_of order_of
pl_cdr2_be = refl

cdr_le : settings_of Crate 0 1 ≡ Some (settings Crate LittleEndian Xcdr1)
unfolding settings_of order_of
cdr_le = refl

no_four : settings_of Crate 0 4 ≡ None
unfolding settings_of
no_four = refl

no_first : settings_of Crate 1 0 ≡ None
unfolding settings_of
no_first = refl
