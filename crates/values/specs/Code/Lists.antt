-- Both sorts of lists as one: by the kind that the elements are read as, and whether their bytes are asked for in one block.
use Rattle.std.specs.Prelude.{ℕ, Bool, true, false, List, Ok}
use Rattle.wire.specs.declared.cursor.Cursor.{Cursor}
use Rattle.wire.specs.declared.settings.Settings.{Settings}
use Rattle.wire.specs.Place.{Place, seek_to}
use Rattle.table.specs.Outcome.{Outcome}
use Rattle.values.specs.List.{list_of, on_block}

-- the block that is asked for before the row, if one is
unfoldable pub block_at : Bool → List ℕ → Cursor → ℕ → Place
block_at true s c count = seek_to s c count
block_at false s c count = Ok c

unfoldable pub plain_of : Bool → List ℕ → Settings → ℕ → ℕ → ℕ → Cursor → ℕ → Outcome
plain_of bytes s set kind id count c room = on_block (block_at bytes s c count) (list_of s set kind id count c room)
