-- A value by its type: one level, given how the values in it are opened.
use Rattle.std.specs.Prelude.{ℕ, zero, suc, ◌+◌, ◌-◌, List, [], ◌∷◌, Bool, true, false, not, eqb}
use Rattle.ground.specs.Choice.{pick, both, among}
use Rattle.wire.specs.declared.cursor.Cursor.{Cursor}
use Rattle.wire.specs.declared.settings.Settings.{Settings}
use Rattle.wire.specs.Ends.{keeps_ends, cut_at}
use Rattle.wire.specs.Number.{after_number}
use Rattle.wire.specs.Dheader.{contents_at, after_contents}
use Rattle.kinds.specs.Kinds.{is_primitive, unsupported_member, unsupported_element, opens}
use Rattle.book.specs.Types.{BookType, type_no}
use Rattle.book.specs.Asked.{read_as, is_sequence, primitive_element}
use Rattle.table.specs.declared.out.Refusal.TheVariants.{InvalidData, Unsupported}
use Rattle.table.specs.Rows.{row}
use Rattle.table.specs.Outcome.{Outcome, read, short, refused, room_for, prepend, and_then}
use Rattle.values.specs.Scalar.{scalar_of}
use Rattle.values.specs.List.{primitives_of, bitmasks_or_texts_of}
use Rattle.values.specs.Count.{count_at}

-- how a structure, enum or union is opened: the data that it is read from, its type's number, its id, the place, and the rows there is room for
abbrev pub Nest : Type 0
Nest = List ℕ → ℕ → ℕ → Cursor → ℕ → Outcome

module _ (types : List BookType) (s : List ℕ) (set : Settings) (nest : Nest) where
  -- elements that are opened, from number i on, of which some are left: "each element's id is its position"
  unfoldable pub opened_from : ℕ → ℕ → ℕ → Cursor → ℕ → Outcome
  opened_from ty zero i c room = read c []
  opened_from ty (suc left) i c room = and_then (nest s ty i c room) (λ d used. opened_from ty left (i + 1) d (room - used))

  -- "Sequences and arrays: kind 25, a element's stored kind (a structure, enum or union its own kind), b elements". Order 7: "for a sequence the position after
  -- its length; for an array that after any DHEADER"
  unfoldable pub opened_list : ℕ → ℕ → ℕ → Cursor → ℕ → Outcome
  opened_list ty id count c room =
      room_for room (prepend (row 25 id (type_no types ty).kind count c.pos ∷ []) (opened_from ty count 0 c (room - 1)))

  -- the elements of a list, by their type.
  -- "11: .. element kinds 0, 15, 18, 20, 24 to 27, even for 0 elements, after any DHEADER and length and before the list's row"
  unfoldable pub elements_of : ℕ → ℕ → ℕ → Cursor → ℕ → Outcome
  elements_of ty id count c room =
      pick (unsupported_element (type_no types ty).kind) (refused Unsupported)
      (pick (opens (type_no types ty).kind) (opened_list ty id count c room)
      (pick (is_primitive (type_no types ty).kind) (primitives_of s set (type_no types ty).kind id count c room)
      (bitmasks_or_texts_of s set (read_as (type_no types ty)) id count c room)))

  -- how many elements, then the elements
  unfoldable pub counted_of : BookType → ℕ → Cursor → ℕ → Outcome
  counted_of t id c room =
      after_number short (count_at s set (is_sequence t) t.bound c)
      (λ count d. elements_of t.element id count d room)

-- "Lists of non-primitives .. have a DHEADER in XCDR2; arrays too."
unfoldable pub has_dheader : List BookType → BookType → Bool
has_dheader types t = not (primitive_element types t)

-- nothing is written between the last element and the end that a DHEADER tells (DDS-XTypes 1.3, 7.4.3.5.3, rules 9 and 12): a list that is held to it
-- and does not end exactly there is 2
unfoldable pub list_end_if : Bool → ℕ → Cursor → Outcome
list_end_if false end c = read c []
list_end_if true end c = pick (eqb c.pos end) (read c []) (refused InvalidData)

-- what ends a list: where ends are kept, its DHEADER's
unfoldable pub list_end : List BookType → Settings → BookType → ℕ → Cursor → Outcome
list_end types set t end c = list_end_if (both (keeps_ends set) (has_dheader types t)) end c

module _ (types : List BookType) (s : List ℕ) (set : Settings) (nest : Nest) where
  -- a sequence or an array: what begins it, its elements, and what ends it
  unfoldable pub list_value : BookType → ℕ → Cursor → ℕ → Outcome
  list_value t id c room =
      after_contents short (refused InvalidData) (contents_at s set (has_dheader types t) c)
      (λ d end. and_then (counted_of types (cut_at set s end) set nest t id d room) (λ e used. list_end types set t end e))

  -- a value, by its type. "A NONE member stores nothing." "11: member kinds 15, 18, 20, 24, 27"
  unfoldable pub value_of : ℕ → ℕ → Cursor → ℕ → Outcome
  value_of ty id c room =
      pick (eqb (type_no types ty).kind 0) (read c [])
      (pick (unsupported_member (type_no types ty).kind) (refused Unsupported)
      (pick (opens (type_no types ty).kind) (nest s ty id c room)
      (pick (among (25 ∷ 26 ∷ []) (type_no types ty).kind) (list_value (type_no types ty) id c room)
      (scalar_of s set (read_as (type_no types ty)) id c room))))
