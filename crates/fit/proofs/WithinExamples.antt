-- Why XCDR2 in the crate's mode is left out of `reading_within`: a DHEADER that tells an end past the data's is believed there. Computed from the
-- definitions.
use Prim.Native.Nat.{ℕ}
use mathlib.Core.Path.{◌≡◌, refl}
use mathlib.Core.List.{List, [], ◌∷◌}
use native.Mathlib.Omega.{arith}
use lib.ListN.{length}
use Rattle.wire.specs.declared.settings.ByteOrder.TheVariants.{LittleEndian}
use Rattle.wire.specs.declared.settings.Version.TheVariants.{Xcdr2}
use Rattle.wire.specs.declared.settings.Mode.{Mode}
use Rattle.wire.specs.declared.settings.Mode.TheVariants.{Crate, Standard}
use Rattle.wire.specs.Identifier.{settings}
use Rattle.wire.specs.Place.{cursor_at, alignment_of, padding_of, seek_to, align_to}
use Rattle.wire.specs.Number.{number_at, on_bytes, number_here, on_aligned, read_number, after_number}
use Rattle.wire.specs.Ends.{keeps_ends_by, cut_at}
use Rattle.wire.specs.Dheader.{up_to, dheader_at, delimited_by, contents_at, after_contents}
use Rattle.kinds.specs.Kinds.{opens}
use Rattle.book.specs.Types.{BookType, no_index, type_no}
use Rattle.book.specs.Asked.{is_mutable, is_structure, is_delimited}
use Rattle.table.specs.declared.out.Refusal.TheVariants.{InvalidData}
use Rattle.table.specs.declared.rows.Row.{Row}
use Rattle.table.specs.Rows.{row}
use Rattle.table.specs.Outcome.{Outcome, read, refused, room_for, prepend, and_then, closed}
use Rattle.reader.specs.Structure.{mmembers_of}
use Rattle.reader.specs.Nested.{unheard_if, may_fail_unheard, beginning_of, ending_by, ending_if, has_ending, ending_of, members_if, members_of, contents_of, delimited_of, body_by, body_of, opened_if, nested_at, reading}
use Rattle.fit.specs.Within.{Within, read_within}

-- a Mutable structure with no members, and a DHEADER of 100 with nothing behind it
abbrev types : List BookType
types = record { kind = 22; extensibility = 2; base = 0; bound_flag = 0; bound = 0; element = no_index; members = [] } ∷ []

abbrev data4 : List ℕ
data4 = 100 ∷ 0 ∷ 0 ∷ 0 ∷ []

abbrev read4 : Mode → Outcome
read4 mode = reading types data4 (settings mode LittleEndian Xcdr2) 0 1

by_modes : (read4 Crate ≡ read (cursor_at 104 0) (row 22 0 0 0 0 ∷ [])) × (read4 Standard ≡ refused InvalidData)
unfolding reading nested_at opened_if body_of body_by delimited_of contents_of members_of members_if mmembers_of ending_of has_ending ending_if ending_by beginning_of may_fail_unheard unheard_if is_mutable is_structure is_delimited room_for closed prepend and_then after_contents contents_at delimited_by dheader_at up_to keeps_ends_by cut_at read_number after_number on_aligned number_here on_bytes number_at align_to seek_to padding_of alignment_of opens type_no
by_modes = (refl, refl)

too_far : {rs : List Row} → Within 4 (read (cursor_at 104 0) rs) → ⊥
too_far (read_within l ps) = omega arith

-- so the law does not hold there
pub crate_passes : Within (length data4) (read4 Crate) → ⊥
crate_passes h = too_far (rw by_modes.0 at h)
