-- What demand 3 says of a call that reads a message.
use Rattle.std.specs.Prelude.{ℕ, ◌<◌, ◌/◌, ◌%◌, ◌^◌, ◌≡◌, List, length}
use Rattle.book.specs.Types.{types_of}
use Rattle.shape.specs.Shape.{Opened}
use Rattle.fit.specs.Demand3.{ReadingNumber}
use Rattle.table.specs.declared.rows.Row.{Row}
use Rattle.sinotayam.specs.declared.answer.Answer.{Answer}
use Rattle.sinotayam.specs.Answer.{Result, code_of, table_of}

-- the numbers that are left for data of a type that the check passes: those of a reading, and 10, "TooLong: message over 65,536 bytes (65,532
-- bytes after the four-byte header)"
pub data CallNumber (s : List ℕ) : ℕ → Type 0 where
  of_reading : {n : ℕ} → ReadingNumber n → CallNumber s n
  over_limit : 65532 < length s → CallNumber s 10

-- one of these numbers, and where the reading is finished the rows of one value of the root's type, over the data
pub record Safe (book s : List ℕ) (root : ℕ) (w : Result) : Type 0 where
  pub number : CallNumber s w.number
  pub rows : w.number ≡ 0 → Opened (types_of book) s root 0 w.rows

-- the same of what a call gives back and of the table it leaves: the rows, and zeros after them
pub record SafeCall (book s : List ℕ) (root : ℕ) (before after : List ℕ) (r : Answer) : Type 0 where
  pub number : CallNumber s (code_of r.status)
  pub rows : code_of r.status ≡ 0 → (rs : List Row) × Opened (types_of book) s root 0 rs × (r.rows ≡ length rs) × (after ≡ table_of before rs)

-- and of the word that a C call gives back: the number is its lowest byte, the count of rows stands above it
pub record SafeWord (book s : List ℕ) (root : ℕ) (before after : List ℕ) (r : ℕ) : Type 0 where
  pub number : CallNumber s (r % 256)
  pub rows : r % 256 ≡ 0 → (rs : List Row) × Opened (types_of book) s root 0 rs × (r / 256 ≡ length rs % 2 ^ 56) × (after ≡ table_of before rs)
