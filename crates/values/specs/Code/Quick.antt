-- The quick way of reading: what it takes is as the rules say, what it does not take it leaves alone.
use Rattle.std.specs.Prelude.{ℕ, zero, suc, ◌+◌, ◌*◌, ◌≤◌, ◌<◌, ◌≡◌, Bool, not, List, [], ◌∷◌, length, eqb, Option, None, Some, Ok}
use Rattle.ground.specs.Choice.{both, ◌‥◌, within, among}
use Rattle.wire.specs.declared.settings.ByteOrder.{ByteOrder}
use Rattle.wire.specs.Place.{cursor_at}
use Rattle.wire.specs.Number.{number_at}
use Rattle.kinds.specs.Kinds.{align_of, stored_of}
use Rattle.table.specs.declared.rows.Row.{Row}
use Rattle.table.specs.Rows.{row, capacity}
use Rattle.table.specs.Outcome.{Outcome}
use Rattle.table.specs.Code.Outcome.{Done}
use Rattle.values.specs.Scalar.{word_of}

-- the numbers of up to 8 bytes; a boolean is judged, and CHAR16 is unsupported
unfoldable pub is_number : ℕ → Bool
is_number kind = both (within (2 ‥ 14) kind) (not (eqb kind 11))

-- what is taken where it stands: a boolean, a number, a text of 8-bit units; so all from 1 to 16 but CHAR16 and, but in a list, FLOAT128
unfoldable pub is_taken : ℕ → Bool
is_taken kind = both (within (1 ‥ 16) kind) (not (among (11 ∷ 15 ∷ []) kind))

-- where no position after it is told, nothing is done; else the value is, with k rows, and the position stands after it
unfoldable pub Quickly : Outcome → ℕ → ℕ → ℕ → List ℕ → List ℕ → Option ℕ → Type 0
Quickly o k n origin before after None = after ≡ before
Quickly o k n origin before after (Some p) = Done o n before after (Ok (cursor_at p origin, n + k))

-- the rows of a list's numbers from number i on, which stand one after the other from p on
unfoldable pub rows_from : List ℕ → ByteOrder → ℕ → ℕ → ℕ → ℕ → List Row
rows_from s o kind zero i p = []
rows_from s o kind (suc left) i p = row (stored_of kind) i (word_of kind (number_at o 0 s p (align_of kind))) 0 p ∷ rows_from s o kind left (i + 1) (p + align_of kind)

-- what a position after a list says, where one is told: the list is not empty, the data has its numbers from p on, and the table a place for each row
unfoldable pub WhereThere : List ℕ → List ℕ → ℕ → ℕ → ℕ → ℕ → Option ℕ → Type 0
WhereThere s t w count p n None = Unit {0}
WhereThere s t w count p n (Some e) = (0 < count) × (e ≡ p + count * w) × (p + count * w ≤ length s) × (n + count ≤ capacity t)
