-- So many values of one type, opened one after the other: a member's alone, or a list's. It is proved to be what the rules say of both
-- (proofs/RunSteps.antt).
use Rattle.std.specs.Prelude.{ℕ, zero, suc, ◌+◌, ◌-◌, List, []}
use Rattle.wire.specs.declared.cursor.Cursor.{Cursor}
use Rattle.table.specs.Outcome.{Outcome, read, and_then}
use Rattle.reader.specs.Value.{Nest}

-- after i others: the first has this id, and each after it its number in the list
unfoldable pub run_of : Nest → List ℕ → ℕ → ℕ → ℕ → ℕ → Cursor → ℕ → Outcome
run_of nest s ty id zero i c room = read c []
run_of nest s ty id (suc left) i c room = and_then (nest s ty id c room) (λ d used. run_of nest s ty (i + 1) left (i + 1) d (room - used))
