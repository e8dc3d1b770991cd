-- Lists of values that open nothing.
use Rattle.std.specs.Prelude.{ℕ, zero, suc, ◌+◌, ◌-◌, List, [], ◌∷◌, Err, Ok}
use Rattle.ground.specs.Choice.{pick, among}
use Rattle.wire.specs.declared.cursor.Cursor.{Cursor}
use Rattle.wire.specs.declared.settings.Settings.{Settings}
use Rattle.wire.specs.Place.{Place, seek_to}
use Rattle.kinds.specs.Kinds.{stored_of}
use Rattle.table.specs.Rows.{row}
use Rattle.table.specs.Outcome.{Outcome, read, short, room_for, prepend, and_then}
use Rattle.values.specs.Scalar.{scalar_of}

-- "each element's id is its position": the elements from number i on, of which some are left
unfoldable pub elements_from : List ℕ → Settings → ℕ → ℕ → ℕ → Cursor → ℕ → Outcome
elements_from s set kind zero i c room = read c []
elements_from s set kind (suc left) i c room =
    and_then (scalar_of s set kind i c room) (λ d used. elements_from s set kind left (i + 1) d (room - used))

-- "Sequences and arrays: kind 25, a element's stored kind .., b elements"; "a list's row after its length .. and before other elements". Order 7: "for a sequence
-- the position after its length; for an array that after any DHEADER. An XCDR2 Mutable list of primitives tells the position the lookup left.": each is where
-- the reading stands when its elements are to be read, before the first one is aligned
unfoldable pub list_of : List ℕ → Settings → ℕ → ℕ → ℕ → Cursor → ℕ → Outcome
list_of s set kind id count c room = room_for room (prepend (row 25 id (stored_of kind) count c.pos ∷ []) (elements_from s set kind count 0 c (room - 1)))

unfoldable pub on_block : Place → Outcome → Outcome
on_block (Err x) o = short x
on_block (Ok d) o = o

-- "for BYTE and UINT8, after its bytes": they are asked for in one block
unfoldable pub block_of : List ℕ → Settings → ℕ → ℕ → ℕ → Cursor → ℕ → Outcome
block_of s set kind id count c room = on_block (seek_to s c count) (list_of s set kind id count c room)

-- a list of primitives, by their kind: "a list's row after its length (for BYTE and UINT8, after its bytes)"
unfoldable pub primitives_of : List ℕ → Settings → ℕ → ℕ → ℕ → Cursor → ℕ → Outcome
primitives_of s set kind id count c room =
    pick (among (2 ∷ 13 ∷ []) kind) (block_of s set kind id count c room) (list_of s set kind id count c room)

-- a list of bitmasks or of texts, by the kind that they are read as. "ENUM and BITMASK count so", as non-primitives: a list of bitmasks is no list of
-- BYTE or UINT8, though "A bitmask is 13, 6, 7 or 8 by bound"
unfoldable pub bitmasks_or_texts_of : List ℕ → Settings → ℕ → ℕ → ℕ → Cursor → ℕ → Outcome
bitmasks_or_texts_of s set kind id count c room = list_of s set kind id count c room
