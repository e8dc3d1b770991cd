-- What a call gives back: a number of document 01's table, rows, and what is told of a shortage.
use Rattle.std.specs.Prelude.{ℕ, zero, suc, ◌+◌, ◌-◌, ◌*◌, ◌%◌, ◌^◌, ◌≡◌, List, [], ◌++◌, length, replicate}
use Rattle.wire.specs.declared.cursor.Told.{Told}
use Rattle.wire.specs.declared.settings.Mode.{Mode}
use Rattle.wire.specs.declared.settings.Mode.TheVariants.{Crate, Standard}
use Rattle.book.specs.Fault.{reason_number}
use Rattle.table.specs.declared.rows.Row.{Row}
use Rattle.table.specs.Rows.{width, words}
use Rattle.table.specs.Outcome.{Outcome, number_of, nothing_told, told_of, rows_of}
use Rattle.sinotayam.specs.declared.answer.Status.{Status}
use Rattle.sinotayam.specs.declared.answer.Status.TheVariants.{Read, NotEnoughData, InvalidData, InvalidType, NotPrepared, BadRoot, TooLong, Unsupported, TooDeep, NoRoom, NoDiscriminator, NotText, Unfit, BadBook}
use Rattle.sinotayam.specs.declared.answer.Answer.{Answer}

-- "Numbers given back"; order 13 takes 4 "out of the table of numbers", and of order 2 "8 becomes 17 to 23": 8 is left for an index of no types
unfoldable pub code_of : Status → ℕ
code_of Read = 0
code_of NotEnoughData = 1
code_of InvalidData = 2
code_of InvalidType = 3
code_of NotPrepared = 8
code_of BadRoot = 9
code_of TooLong = 10
code_of Unsupported = 11
code_of TooDeep = 12
code_of NoRoom = 13
code_of NoDiscriminator = 14
code_of NotText = 15
code_of Unfit = 16
code_of (BadBook why) = reason_number why

-- the mode by its number in a C call: 0 is the crate's, anything else the standard's
unfoldable pub mode_of : ℕ → Mode
mode_of zero = Crate
mode_of (suc n) = Standard

-- what a call comes to: document 01's number, the rows, and what is told of a shortage
pub record Result : Type 0 where
  pub number : ℕ
  pub rows : List Row
  pub told : Told

-- "Every refused reading returns 0 rows"; order 6: "For answers other than 1 both numbers are 0"
abbrev pub refused_by : Status → Result
refused_by n = record { number = code_of n; rows = []; told = nothing_told }

-- 1, and what is told of it
abbrev pub short_by : Told → Result
short_by told = record { number = code_of NotEnoughData; rows = []; told = told }

-- a reading's own number and rows; order 6: "through every caller up to the final answer"
unfoldable pub result_of : Outcome → Result
result_of o = record { number = number_of o; rows = rows_of o; told = told_of o }

-- these rows, and zeros after them to the table's end.
-- "Every refused reading returns 0 rows and the whole table zero. A finished one leaves zero after its last row."
abbrev pub table_of : List ℕ → List Row → List ℕ
table_of lent rs = words rs ++ replicate (length lent - width * length rs) 0

-- the number, the count of rows, what is told, and every word of the lent table
pub record Settled (w : Result) (before after : List ℕ) (r : Answer) : Type 0 where
  pub number : code_of r.status ≡ w.number
  pub count : r.rows ≡ length w.rows
  pub told : r.told ≡ w.told
  pub table : after ≡ table_of before w.rows

-- the number and the count in one word: rows * 256 + number. The count has 56 bits there; more rows would be 2 ^ 61 bytes of table
abbrev pub packed : ℕ → ℕ → ℕ
packed number rows = rows % 2 ^ 56 * 256 + number

-- the word, and every word of the lent table
pub record Returned (w : Result) (before after : List ℕ) (r : ℕ) : Type 0 where
  pub word : r ≡ packed w.number (length w.rows)
  pub table : after ≡ table_of before w.rows

-- and the two words that a C call is lent for what is told
pub record Tells (w : Result) (first second : ℕ) : Type 0 where
  pub position : first ≡ w.told.position
  pub need : second ≡ w.told.need
