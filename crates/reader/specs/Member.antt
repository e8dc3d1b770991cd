-- A member, plain, optional or looked up. Who asks for it makes no difference.
use Rattle.wire.specs.declared.cursor.Unread.TheVariants as unread
use Rattle.std.specs.Prelude.{ℕ, ◌+◌, ◌/◌, List, [], Bool, true, false, Err, None, Ok, Some}
use Rattle.ground.specs.Choice.{both}
use Rattle.wire.specs.declared.cursor.Cursor.{Cursor}
use Rattle.wire.specs.declared.settings.Settings.{Settings}
use Rattle.wire.specs.declared.settings.Version.{Version}
use Rattle.wire.specs.declared.settings.Version.TheVariants.{Xcdr1, Xcdr2}
use Rattle.wire.specs.declared.settings.Mode.{Mode}
use Rattle.wire.specs.declared.settings.Mode.TheVariants.{Crate, Standard}
use Rattle.wire.specs.Ends.{cut_at}
use Rattle.wire.specs.Number.{Boolean}
use Rattle.wire.specs.Number.{read_boolean}
use Rattle.kinds.specs.Kinds.{element_size_of}
use Rattle.book.specs.Types.{BookType, Member, optional, type_no}
use Rattle.book.specs.Asked.{is_sequence, primitive_element}
use Rattle.lookup.specs.Member.{locate}
use Rattle.lookup.specs.Member.{Located}
use Rattle.table.specs.declared.out.Refusal.TheVariants.{InvalidData}
use Rattle.table.specs.Outcome.{Outcome, read, short, refused, back_to}
use Rattle.reader.specs.Value.{Nest, elements_of, value_of}

-- "A sequence of primitives takes length / size elements", in XCDR2 alone and in the crate's mode alone: order 1, "a list or text reads its own length"
unfoldable pub by_length : Version → Mode → List BookType → BookType → Bool
by_length Xcdr1 mode types t = false
by_length Xcdr2 Crate types t = both (is_sequence t) (primitive_element types t)
by_length Xcdr2 Standard types t = false

-- "length / size elements"
unfoldable pub element_count : List BookType → BookType → ℕ → ℕ
element_count types t length = length / element_size_of (type_no types t.element).kind

module _ (types : List BookType) (s : List ℕ) (set : Settings) (nest : Nest) where
  -- what a found member's value is: elements by the length that was found, or the value as it stands
  unfoldable pub found_by : Bool → Member → ℕ → Cursor → ℕ → Outcome
  found_by true m length c room =
      elements_of types s set nest (type_no types m.type).element m.id (element_count types (type_no types m.type) length) c room
  found_by false m length c room = value_of types s set nest m.type m.id c room

  -- .. by version, mode and type
  unfoldable pub found_value : Member → ℕ → Cursor → ℕ → Outcome
  found_value m length c room = found_by (by_length set.version set.mode types (type_no types m.type)) m length c room

module _ (types : List BookType) (s : List ℕ) (set : Settings) (nest : Nest) where
  -- a found member. "DDS-XTypes 1.3 clause 7.4.3 decides what this paragraph leaves open.": by 7.4.3.4.2 its header tells the member's length, so where ends
  -- are kept its value is read from the data up to there
  unfoldable pub found_of : Member → ℕ → Cursor → ℕ → Outcome
  found_of m length c room = found_value types (cut_at set s (c.pos + length)) set nest m length c room

  -- "A failed lookup stores nothing; position and origin always come back."
  unfoldable pub on_located : Member → ℕ → Located → Outcome
  on_located m room (Err x) = short x
  on_located m room (Ok (None, back)) = read back []
  on_located m room (Ok (Some (length, c), back)) = back_to back (found_of m length c room)

  -- a member by its lookup
  unfoldable pub mmember_of : Member → Cursor → ℕ → Outcome
  mmember_of m c room = on_located m room (locate s set m.id c)

  -- "Other optional members have one bool before them."
  unfoldable pub on_present : Member → ℕ → Boolean → Outcome
  on_present m room (Err (unread.Short x)) = short x
  on_present m room (Err unread.Bad) = refused InvalidData
  on_present m room (Ok (false, c)) = read c []
  on_present m room (Ok (true, c)) = value_of types s set nest m.type m.id c room

  -- XCDR1: "Optional members in Final and Appendable types use it too", the lookup
  unfoldable pub optional_by : Version → Member → Cursor → ℕ → Outcome
  optional_by Xcdr1 m c room = mmember_of m c room
  optional_by Xcdr2 m c room = on_present m room (read_boolean s set c)

  unfoldable pub fmember_by : Bool → Member → Cursor → ℕ → Outcome
  fmember_by true m c room = optional_by set.version m c room
  fmember_by false m c room = value_of types s set nest m.type m.id c room

  -- a member of a Final or Appendable type
  unfoldable pub fmember_of : Member → Cursor → ℕ → Outcome
  fmember_of m c room = fmember_by (optional m) m c room
