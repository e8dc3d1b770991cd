-- The search as the code has it: what is asked of what it is told of each header.
use Rattle.std.specs.declared.ops.ControlFlow.TheVariants.{Continue}
use Rattle.std.specs.Prelude.{ℕ, ◌<◌, ◌≤◌, ◌≡◌, List, length, Ok}
use Rattle.wire.specs.declared.cursor.Cursor.{Cursor}
use Rattle.lookup.specs.Search.{Turn}

-- the next header is further on, and inside the data
abbrev pub MovesOn : List ℕ → (Cursor → Turn → Type 0) → Type 0
MovesOn s told = (c d : Cursor) → told c (Ok (Continue d)) → (c.pos < d.pos) × (d.pos ≤ length s)

-- what is told of a header is what the definition says of it
abbrev pub TellsAs : (Cursor → Turn → Type 0) → (Cursor → Turn) → Type 0
TellsAs told turn = (c : Cursor) (t : Turn) → told c t → t ≡ turn c
