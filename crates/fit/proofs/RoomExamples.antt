-- What the statements of `Room` rule out: a reading that leaves rows away where room is short, and one capacity for every message. Computed from the
-- definitions.
use Rattle.std.specs.Prelude.{Ok}
use Prim.Native.Nat.{ℕ, zero, suc, ◌+◌, ◌-◌, ◌<◌}
use mathlib.Core.Path.{◌≡◌, refl, ap}
use mathlib.Core.Bool.{true}
use mathlib.Core.List.{List, [], ◌∷◌}
use native.Mathlib.Omega.{arith}
use lib.ListN.{length}
use Rattle.wire.specs.declared.cursor.Cursor.{Cursor}
use Rattle.wire.specs.declared.settings.Settings.{Settings}
use Rattle.wire.specs.declared.settings.ByteOrder.TheVariants.{BigEndian}
use Rattle.wire.specs.declared.settings.Version.TheVariants.{Xcdr1}
use Rattle.wire.specs.declared.settings.Mode.{Mode}
use Rattle.wire.specs.Identifier.{settings}
use Rattle.wire.specs.Place.{cursor_at, alignment_of, padding_of, seek_to, align_to}
use Rattle.wire.specs.Number.{number_at, on_bytes, number_here, on_aligned, read_number, after_number}
use Rattle.wire.specs.Ends.{keeps_ends_by, cut_at}
use Rattle.wire.specs.Dheader.{delimited_by, contents_at, after_contents}
use Rattle.kinds.specs.Kinds.{is_primitive, opens, unsupported_member, unsupported_element}
use Rattle.book.specs.Types.{BookType, Member, no_index, optional, type_no}
use Rattle.book.specs.Asked.{is_sequence, primitive_element, is_mutable, is_structure, is_delimited}
use Rattle.table.specs.declared.rows.Row.{Row}
use Rattle.table.specs.declared.out.Refusal.TheVariants.{NoRoom}
use Rattle.table.specs.Rows.{row}
use Rattle.table.specs.Outcome.{Outcome, read, refused, number_of, refusal_number, rows_of, room_for, prepend, and_then, or_end_if, closed}
use Rattle.values.specs.Count.{count_at}
use Rattle.reader.specs.Value.{Nest, opened_from, opened_list, elements_of, counted_of, has_dheader, list_value, value_of}
use Rattle.reader.specs.Member.{fmember_by, fmember_of}
use Rattle.reader.specs.Structure.{absorbs, fmembers_of}
use Rattle.reader.specs.Nested.{unheard_if, may_fail_unheard, beginning_of, ending_if, has_ending, ending_of, members_if, members_of, contents_of, delimited_of, body_by, body_of, opened_if, nested_at, reading}
use Rattle.fit.specs.Room.{SameIfRoom}

-- ---- a list of two elements that drops its last one where there is room for one

pub dropping : ℕ → Outcome
dropping zero = refused NoRoom
dropping (suc zero) = read (cursor_at 1 0) (row 13 0 7 0 0 ∷ [])
dropping (suc (suc k)) = read (cursor_at 2 0) (row 13 0 7 0 0 ∷ row 13 1 8 0 1 ∷ [])

pub dropping_differs : SameIfRoom number_of dropping → ⊥
unfolding dropping number_of rows_of
dropping_differs same =
    let z : ◌≡◌ {A = ℕ} 2 1 = ap (λ o. length (rows_of o)) (same 1 2 (omega arith) (λ e. omega arith)) in
    omega arith

-- ---- a structure with one member, a sequence of structures that have none

abbrev member : Member
member = record { id = 1; type = 1; flags = 0; construct = 1; labels = [] }

abbrev types : List BookType
types =
    record { kind = 22; extensibility = 0; base = 0; bound_flag = 0; bound = 0; element = no_index; members = [] }
    ∷ record { kind = 25; extensibility = 0; base = 0; bound_flag = 0; bound = 0; element = 0; members = [] }
    ∷ record { kind = 22; extensibility = 0; base = 0; bound_flag = 0; bound = 0; element = no_index; members = member ∷ [] } ∷ []

-- its data is the sequence's length alone
abbrev counting : ℕ → List ℕ
counting n = 0 ∷ 0 ∷ 0 ∷ n ∷ []

full_in : (k : ℕ) (o : Outcome) → o ≡ refused NoRoom → room_for k o ≡ refused NoRoom
unfolding room_for
full_in zero o e = refl
full_in (suc k) o e = e

full_after : (o : Outcome) (c : Cursor) (rs : List Row) (rest : Cursor → ℕ → Outcome) → o ≡ read c rs → rest c (length rs) ≡ refused NoRoom → and_then o rest ≡ refused NoRoom
unfolding and_then prepend
full_after o c rs rest e f = rw (e, f)

module _ (mode : Mode) where
  abbrev set : Settings
  set = settings mode BigEndian Xcdr1

  one_empty : (d : ℕ) (s : List ℕ) (i : ℕ) (c : Cursor) (k : ℕ) → nested_at types set (suc d) s 0 i c k ≡ room_for k (read c (row 22 i 0 0 c.pos ∷ []))
  unfolding nested_at opened_if body_of body_by delimited_of contents_of members_of members_if fmembers_of ending_of has_ending ending_if beginning_of may_fail_unheard unheard_if is_mutable is_structure is_delimited closed prepend and_then after_contents contents_at keeps_ends_by opens type_no
  one_empty d s i c k = refl

  -- more elements than there is room for
  elements_full : (d : ℕ) (s : List ℕ) (left i : ℕ) (c : Cursor) (k : ℕ) → k < left → opened_from types s set (nested_at types set (suc d)) 0 left i c k ≡ refused NoRoom
  unfolding opened_from and_then room_for
  elements_full d s zero i c k h = absurd (omega arith)
  elements_full d s (suc left) i c zero h = rw (one_empty d s i c 0)
  elements_full d s (suc left) i c (suc k) h =
      full_after (nested_at types set (suc d) s 0 i c (suc k)) c (row 22 i 0 0 c.pos ∷ []) (λ e used. opened_from types s set (nested_at types set (suc d)) 0 left (i + 1) e (suc k - used))
      (one_empty d s i c (suc k)) (elements_full d s left (i + 1) c (suc k - 1) (omega arith))

  count_is : (n : ℕ) → read_number (counting n) set (cursor_at 0 0) 4 ≡ Ok (n, cursor_at 4 0)
  unfolding read_number on_aligned number_here on_bytes number_at align_to seek_to padding_of alignment_of
  count_is n = ap (λ (x : ℕ). Ok (x, cursor_at 4 0)) (omega arith)

  -- the root, whose elements are opened in this way
  module _ (nest : Nest) (n k : ℕ) (full : opened_from types (counting n) set nest 0 n 0 (cursor_at 4 0) (k - 1 - 1) ≡ refused NoRoom) where
    list_full : opened_list types (counting n) set nest 0 1 n (cursor_at 4 0) (k - 1) ≡ refused NoRoom
    unfolding opened_list prepend
    list_full = full_in (k - 1) _ (rw full)

    root_full : opened_if types (counting n) set nest true 2 0 (cursor_at 0 0) k ≡ refused NoRoom
    unfolding opened_if body_of body_by delimited_of contents_of members_of members_if fmembers_of fmember_of fmember_by value_of list_value counted_of elements_of absorbs optional has_dheader primitive_element is_sequence beginning_of may_fail_unheard unheard_if is_mutable is_structure is_delimited closed prepend and_then or_end_if after_contents contents_at delimited_by keeps_ends_by cut_at count_at after_number is_primitive unsupported_member unsupported_element opens type_no
    root_full = full_in k _ (rw (count_is n, list_full))

  -- a message of as many elements as there is room for rows
  counting_full : (n : ℕ) → reading types (counting n) set 2 n ≡ refused NoRoom
  unfolding reading nested_at opened_if room_for opens type_no
  counting_full zero = refl
  counting_full (suc m) = root_full (nested_at types set 15) (suc m) (suc m) (elements_full 14 (counting (suc m)) (suc m) 0 (cursor_at 4 0) (suc m - 1 - 1) (omega arith))

-- the claim of `SomeTable` without the capacity's dependence on the data
abbrev pub OneTable : Type 0
OneTable = (types : List BookType) (set : Settings) (root : ℕ) → (rows : ℕ) × ((s : List ℕ) → number_of (reading types s set root rows) ≡ 13 → ⊥)

-- does not hold: whatever the capacity, there is data that asks for more. (Data in the rules may have any numbers for its elements.)
pub no_one_table : Mode → OneTable → ⊥
unfolding number_of refusal_number
no_one_table mode one =
    let o = one types (settings mode BigEndian Xcdr1) 2 in
    o.1 (counting o.0) (rw (counting_full mode o.0))
