-- Document 01's examples 8, 9, 10 and 12 as far as they are lookups, and what is easy to get wrong, computed. Assumes nothing.
use Rattle.std.specs.Prelude.{Err, None, Ok, Some}
use Prim.Native.Nat.{ℕ}
use mathlib.Core.Path.{◌≡◌, refl}
use mathlib.Core.List.{List, [], ◌∷◌, ◌++◌}
use Rattle.wire.specs.Place.{cursor_at, shortage, alignment_of, padding_of, seek_to, align_to, after_move}
use Rattle.wire.specs.Number.{number_at, on_bytes, number_here, on_aligned, read_number, after_number}
use Rattle.wire.specs.Identifier.{settings}
use Rattle.wire.specs.declared.settings.Mode.TheVariants.{Crate, Standard}
use Rattle.wire.specs.declared.settings.Settings.{Settings}
use Rattle.wire.specs.declared.settings.ByteOrder.TheVariants.{LittleEndian}
use Rattle.wire.specs.declared.settings.Version.TheVariants.{Xcdr1, Xcdr2}
use Rattle.wire.specs.declared.cursor.Cursor.{Cursor}
use Rattle.wire.specs.Place.{Place}
use Rattle.lookup.specs.Search.{Seek, past_value, on_turn, headers_in}
use Rattle.lookup.specs.Xcdr1 as xcdr1
use Rattle.lookup.specs.Xcdr2 as xcdr2
use Rattle.lookup.specs.Member.{located_v1, located_v2, looked_up, locate}
use Rattle.wire.specs.Ends.{keeps_ends_by}
use Rattle.wire.specs.Dheader.{up_to, dheader_at}
use Rattle.lookup.specs.Member.{Located}
use Rattle.wire.specs.Dheader.{Contents}

abbrev le1 : Settings
le1 = settings Crate LittleEndian Xcdr1

abbrev le2 : Settings
le2 = settings Crate LittleEndian Xcdr2

abbrev standard : Settings
standard = settings Standard LittleEndian Xcdr2

-- four bytes, as document 01 writes them
abbrev four : ℕ → ℕ → ℕ → ℕ → List ℕ
four a b c d = a ∷ b ∷ c ∷ d ∷ []

-- a value of id 1 and length 2, 4660
abbrev one : List ℕ
one = four 0x01 0x00 0x02 0x00 ++ four 0x34 0x12 0x00 0x00

-- the same of id 5, with bit 14 set
abbrev flagged : List ℕ
flagged = four 0x05 0x40 0x02 0x00 ++ four 0x34 0x12 0x00 0x00

abbrev end : List ℕ
end = four 0x02 0x3F 0x00 0x00

abbrev data8 : List ℕ
data8 = one ++ end

abbrev data9 : List ℕ
data9 = four 0x02 0x3F 0x02 0x00 ++ four 0xAA 0xAA 0x00 0x00 ++ one

abbrev data10 : List ℕ
data10 = four 0x10 0x00 0x00 0x00 ++ four 0x01 0x00 0x00 0x40 ++ four 0x08 0x00 0x00 0x00 ++ four 0x02 0x00 0x00 0x00 ++ four 0x0A 0x00 0x0B 0x00

abbrev data12 : List ℕ
data12 = four 0x0A 0x00 0x00 0x00 ++ four 0x01 0x00 0x00 0x50 ++ four 0x02 0x00 0x00 0x00 ++ (0x41 ∷ 0x00 ∷ [])

-- a header of id 1 with a NEXTINT of 2, by its last byte, and a value of 16 bytes
abbrev with_nextint : ℕ → List ℕ
with_nextint h = four 0x01 0x00 0x00 h ++ four 0x02 0x00 0x00 0x00 ++ one ++ one

abbrev start : Cursor
start = cursor_at 0 0

-- the definitions with all that they rest on open
unfoldable locates : List ℕ → Settings → ℕ → Cursor → Located
unfolding locate looked_up located_v1 located_v2 xcdr1.seek_to_pid xcdr1.turn_at xcdr1.on_header xcdr1.verdict xcdr1.header_at xcdr2.seek_to_pid xcdr2.turn_at xcdr2.verdict xcdr2.step_back xcdr2.length_from xcdr2.length_of xcdr2.length_by_lc xcdr2.nextint_times headers_in on_turn past_value after_move after_number read_number on_aligned number_here on_bytes number_at align_to seek_to padding_of alignment_of
locates s set id c = locate s set id c

unfoldable seeks1 : List ℕ → ℕ → Seek
unfolding xcdr1.seek_to_pid xcdr1.turn_at xcdr1.on_header xcdr1.verdict xcdr1.header_at headers_in on_turn past_value after_move after_number read_number on_aligned number_here on_bytes number_at align_to seek_to padding_of alignment_of
seeks1 s id = xcdr1.seek_to_pid s le1 id start

unfoldable seeks2 : List ℕ → ℕ → Seek
unfolding xcdr2.seek_to_pid xcdr2.turn_at xcdr2.verdict xcdr2.step_back xcdr2.length_from xcdr2.length_of xcdr2.length_by_lc xcdr2.nextint_times headers_in on_turn past_value after_move after_number read_number on_aligned number_here on_bytes number_at align_to seek_to padding_of alignment_of
seeks2 s id = xcdr2.seek_to_pid s le2 id start

unfoldable seeks_sentinel : List ℕ → Cursor → Place
unfolding xcdr1.seek_to_sentinel xcdr1.sentinel_place xcdr1.seek_to_pid xcdr1.turn_at xcdr1.on_header xcdr1.verdict xcdr1.header_at headers_in on_turn past_value after_move after_number read_number on_aligned number_here on_bytes number_at align_to seek_to padding_of alignment_of
seeks_sentinel s c = xcdr1.seek_to_sentinel s le1 c

unfoldable ends : List ℕ → Contents
unfolding dheader_at up_to keeps_ends_by after_move after_number read_number on_aligned number_here on_bytes number_at align_to seek_to padding_of alignment_of
ends s = dheader_at s le2 start

-- 8: found at 4; the structure's own search ends after the marker, and with the first 8 bytes only it is short there
example_8 :
    (locates data8 le1 1 start ≡ Ok (Some (2, cursor_at 4 4), start))
    × (seeks_sentinel data8 start ≡ Ok (cursor_at 12 0))
    × (seeks_sentinel one start ≡ Err (shortage (cursor_at 8 0) 8 2))
unfolding locates seeks_sentinel
example_8 = (refl, refl, refl)

-- 9: 0x3F02 with length 2 does not end a member's lookup, and does end the structure's own search
example_9 :
    (locates data9 le1 1 start ≡ Ok (Some (2, cursor_at 12 12), start))
    × (seeks_sentinel data9 start ≡ Ok (cursor_at 4 0))
unfolding locates seeks_sentinel
example_9 = (refl, refl)

-- 10: LC 4, found after NEXTINT with length 8
example_10 :
    (ends data10 ≡ Ok (cursor_at 4 0, 20))
    × (locates data10 le2 1 (cursor_at 4 0) ≡ Ok (Some (8, cursor_at 12 0), cursor_at 4 0))
unfolding ends locates
example_10 = (refl, refl)

-- 12: LC 5, stepped back to NEXTINT
example_12 :
    (ends data12 ≡ Ok (cursor_at 4 0, 14))
    × (locates data12 le2 1 (cursor_at 4 0) ≡ Ok (Some (2, cursor_at 8 0), cursor_at 4 0))
unfolding ends locates
example_12 = (refl, refl)

-- XCDR1, an id that is not there: the marker ends the search, or the data does; the member is absent in both
another_id :
    (seeks1 data8 2 ≡ Ok None)
    × (seeks1 one 2 ≡ Err (shortage (cursor_at 8 0) 8 2))
    × (locates data8 le1 2 start ≡ Ok (None, start))
    × (locates one le1 2 start ≡ Ok (None, start))
unfolding seeks1 locates
another_id = (refl, refl, refl, refl)

-- 0x7F02 is cut to 0x3F02, and ends
marker_cut : seeks1 (four 0x02 0x7F 0x00 0x00 ++ one) 1 ≡ Ok None
unfolding seeks1
marker_cut = refl

-- the wanted id is cut to 16 bits in XCDR1 and the header's to 14, so 65541 matches 5 and 16389 nothing; XCDR2 cuts no wanted id
ids_cut :
    (seeks1 (flagged ++ end) 65541 ≡ Ok (Some (2, cursor_at 4 0)))
    × (seeks1 (flagged ++ end) 16389 ≡ Ok None)
    × (seeks2 (four 0x05 0x00 0x00 0x20 ++ end) 65541 ≡ Err (shortage (cursor_at 8 0) 8 4))
unfolding seeks1 seeks2
ids_cut = (refl, refl, refl)

-- a match of length 0 ends an XCDR1 lookup, though the id comes again, and is read in XCDR2
length_0 :
    (locates (four 0x01 0x00 0x00 0x00 ++ one) le1 1 start ≡ Ok (None, start))
    × (locates (four 0x01 0x00 0x00 0x40 ++ four 0x00 0x00 0x00 0x00) le2 1 start ≡ Ok (Some (0, cursor_at 8 0), start))
unfolding locates
length_0 = (refl, refl)

-- the place after the first align comes back; where that is short, so is the member
first_align :
    (locates (four 0x00 0x00 0x00 0x00 ++ one) le1 1 (cursor_at 1 0) ≡ Ok (Some (2, cursor_at 8 8), cursor_at 4 0))
    × (locates (0x00 ∷ 0x00 ∷ []) le1 1 (cursor_at 1 0) ≡ Err (shortage (cursor_at 1 0) 1 2))
unfolding locates
first_align = (refl, refl)

-- no align 4 stands before the structure's own search: a marker at 2 is found
sentinel_unaligned : seeks_sentinel (0x00 ∷ 0x00 ∷ end) (cursor_at 1 0) ≡ Ok (cursor_at 6 0)
unfolding seeks_sentinel
sentinel_unaligned = refl

-- LC 0 to 7, NEXTINT being 2: 5 alone steps back; bit 31 means nothing
length_codes :
    (seeks2 (with_nextint 0x00) 1 ≡ Ok (Some (1, cursor_at 4 0)))
    × (seeks2 (with_nextint 0x90) 1 ≡ Ok (Some (2, cursor_at 4 0)))
    × (seeks2 (with_nextint 0x20) 1 ≡ Ok (Some (4, cursor_at 4 0)))
    × (seeks2 (with_nextint 0xB0) 1 ≡ Ok (Some (8, cursor_at 4 0)))
    × (seeks2 (with_nextint 0x40) 1 ≡ Ok (Some (2, cursor_at 8 0)))
    × (seeks2 (with_nextint 0xD0) 1 ≡ Ok (Some (2, cursor_at 4 0)))
    × (seeks2 (with_nextint 0x60) 1 ≡ Ok (Some (8, cursor_at 8 0)))
    × (seeks2 (with_nextint 0x70) 1 ≡ Ok (Some (16, cursor_at 8 0)))
unfolding seeks2
length_codes = (refl, refl, refl, refl, refl, refl, refl, refl)

-- the same in the standard's mode: 5, 6 and 7 step back, and NEXTINT counts in the member's length
standard_codes :
    (locates (with_nextint 0x00) standard 1 start ≡ Ok (Some (1, cursor_at 4 0), start))
    × (locates (with_nextint 0x40) standard 1 start ≡ Ok (Some (2, cursor_at 8 0), start))
    × (locates (with_nextint 0xD0) standard 1 start ≡ Ok (Some (6, cursor_at 4 0), start))
    × (locates (with_nextint 0x60) standard 1 start ≡ Ok (Some (12, cursor_at 4 0), start))
    × (locates (with_nextint 0x70) standard 1 start ≡ Ok (Some (20, cursor_at 4 0), start))
unfolding locates
standard_codes = (refl, refl, refl, refl, refl)

-- another's value is passed over by the whole product, counted after NEXTINT, with LC 5 too
passed_over :
    (seeks2 (with_nextint 0x70 ++ four 0x05 0x00 0x00 0x00 ++ end) 5 ≡ Ok (Some (1, cursor_at 28 0)))
    × (seeks2 (four 0x01 0x00 0x00 0x50 ++ four 0x04 0x00 0x00 0x00 ++ end ++ four 0x05 0x00 0x00 0x00) 5 ≡ Ok (Some (1, cursor_at 16 0)))
unfolding seeks2
passed_over = (refl, refl)

-- a matching header whose NEXTINT is missing is a failed lookup
no_nextint :
    (seeks2 (four 0x01 0x00 0x00 0x40) 1 ≡ Err (shortage (cursor_at 4 0) 4 4))
    × (locates (four 0x01 0x00 0x00 0x40) le2 1 start ≡ Ok (None, start))
unfolding seeks2 locates
no_nextint = (refl, refl)
