-- What order 13 says of a call that reads: a bigger table changes nothing, some table is big enough, and 4 is never answered.
use Rattle.std.specs.Prelude.{ℕ, ◌/◌, ◌%◌, ◌^◌, ◌≡◌, List, length}
use Rattle.table.specs.declared.rows.Row.{Row}
use Rattle.fit.specs.Room.{SameIfRoom, SomeRoom}
use Rattle.sinotayam.specs.declared.answer.Status.{Status}
use Rattle.sinotayam.specs.declared.answer.Answer.{Answer}
use Rattle.sinotayam.specs.Answer.{Result, code_of, table_of}

-- a number of the table `code_of`, in which 4 does not stand
abbrev pub Listed : ℕ → Type 0
Listed n = (status : Status) × (code_of status ≡ n)

-- of what a call comes to by the rows that its table has room for
pub record Steady (answer : ℕ → Result) : Type 0 where
  -- "if a reading answers anything but 13, every larger table gives the same number and rows"
  pub same : SameIfRoom (λ w. w.number) answer
  -- "some capacity, taken as a whole number in the written rules and not tied to a slice, never meets 13"
  pub some : SomeRoom (λ w. w.number) answer
  -- "no public call ever answers 4": whatever the room, the number is one of the table's
  pub listed : (room : ℕ) → Listed (answer room).number

-- of two calls, the second with a larger table: the answers are the same, and both tables hold the same rows, and zeros after them to their ends
pub record SameCall (lent after : List ℕ) (r : Answer) (larger afterLarger : List ℕ) (q : Answer) : Type 0 where
  pub answer : q ≡ r
  pub rows : (rs : List Row) × (r.rows ≡ length rs) × (after ≡ table_of lent rs) × (afterLarger ≡ table_of larger rs)

-- the same of the words that two C calls give back
pub record SameWord (lent after : List ℕ) (r : ℕ) (larger afterLarger : List ℕ) (q : ℕ) : Type 0 where
  pub word : q ≡ r
  pub rows : (rs : List Row) × (r / 256 ≡ length rs % 2 ^ 56) × (after ≡ table_of lent rs) × (afterLarger ≡ table_of larger rs)
