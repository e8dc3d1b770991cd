-- What reading a value comes to, and how outcomes are put together.
use Rattle.std.specs.Prelude.{ℕ, zero, suc, Bool, true, false, List, [], ◌∷◌, ◌++◌, length}
use Rattle.wire.specs.declared.cursor.Cursor.{Cursor}
use Rattle.wire.specs.declared.cursor.Told.{Told}
use Rattle.wire.specs.declared.cursor.Shortage.{Shortage}
use Rattle.wire.specs.Place.{brought_back}
use Rattle.table.specs.declared.rows.Row.{Row}
use Rattle.table.specs.declared.out.Refusal.{Refusal}
use Rattle.table.specs.declared.out.Refusal.TheVariants.{InvalidData, InvalidType, Unsupported, TooDeep, NoRoom, NoDiscriminator}
use Rattle.table.specs.Rows.{row}

-- read: the place after it, and its rows; short: too few bytes (1); refused: any other number
pub data Outcome : Type 0 where
  read : Cursor → List Row → Outcome
  short : Shortage → Outcome
  refused : Refusal → Outcome

-- "Numbers given back"; the calls' own numbers are `code_of` of crates/sinotayam/specs/Answer.antt, proved to be these
unfoldable pub refusal_number : Refusal → ℕ
refusal_number InvalidData = 2
refusal_number InvalidType = 3
refusal_number Unsupported = 11
refusal_number TooDeep = 12
refusal_number NoRoom = 13
refusal_number NoDiscriminator = 14

unfoldable pub number_of : Outcome → ℕ
number_of (read c rs) = 0
number_of (short x) = 1
number_of (refused k) = refusal_number k

-- order 6: "For answers other than 1 both numbers are 0"
abbrev pub nothing_told : Told
nothing_told = record { position = 0; need = 0 }

-- the position of the read that ran short, and the bytes that it still needed
unfoldable pub told_of : Outcome → Told
told_of (read c rs) = nothing_told
told_of (short x) = x.told
told_of (refused k) = nothing_told

-- ---- how outcomes are put together

-- 13, "NoRoom: the next row has no place"
unfoldable pub room_for : ℕ → Outcome → Outcome
room_for zero o = refused NoRoom
room_for (suc k) o = o

-- rows that stand before those of an outcome
unfoldable pub prepend : List Row → Outcome → Outcome
prepend rs (read c more) = read c (rs ++ more)
prepend rs (short x) = short x
prepend rs (refused k) = refused k

-- one value and then the rest, which is told the place and how many rows were used
unfoldable pub and_then : Outcome → (Cursor → ℕ → Outcome) → Outcome
and_then (read c rs) rest = prepend rs (rest c (length rs))
and_then (short x) rest = short x
and_then (refused k) rest = refused k

-- the same, but where the flag says so a value with too few bytes ends the run as read: "A member whose reading fails keeps no row.", "Refusals keep the
-- position reached."; order 6: "A shortage hidden by a structure that ends early .. is not told."
unfoldable pub or_end_if : Bool → Outcome → (Cursor → ℕ → Outcome) → Outcome
or_end_if flag (read c rs) rest = prepend rs (rest c (length rs))
or_end_if true (short x) rest = read x.at []
or_end_if false (short x) rest = short x
or_end_if flag (refused k) rest = refused k

-- "Kinds 21 to 23: a type index, b all rows beneath, at any depth." Order 7: "for a structure, enum or union the position at opening"
unfoldable pub closed : ℕ → ℕ → ℕ → ℕ → Outcome → Outcome
closed kind id type opening (read c rs) = read c (row kind id type (length rs) opening ∷ rs)
closed kind id type opening (short x) = short x
closed kind id type opening (refused k) = refused k

-- "position and origin always come back"; what is told of a shortage stays
unfoldable pub back_to : Cursor → Outcome → Outcome
back_to c (read d rs) = read c rs
back_to c (short x) = short (brought_back x c)
back_to c (refused k) = refused k

-- ---- the rows that an outcome leaves

-- "A member whose reading fails keeps no row."
unfoldable pub rows_of : Outcome → List Row
rows_of (read c rs) = rs
rows_of (short x) = []
rows_of (refused k) = []
