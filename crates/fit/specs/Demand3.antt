-- What demand 3 says of a reading, and what the check's number says of a book and a root.
use Rattle.std.specs.Prelude.{ℕ, ◌≤◌, ◌<◌, ◌≡◌, Bool, true, List, get_or}
use Rattle.book.specs.Types.{BookType, type_count, types_of}
use Rattle.book.specs.Rules.{book_ok}
use Rattle.book.specs.declared.fault.Reason.{Reason}
use Rattle.book.specs.Fault.{reason_number, broken, fault_of}
use Rattle.table.specs.Outcome.{Outcome, number_of, rows_of}
use Rattle.fit.specs.Fit.{Passes}
use Rattle.fit.specs.Ids.{clauses_for}
use Rattle.shape.specs.Shape.{Opened}

-- the check's number, with what it says: 0 passes, "Otherwise 8, 9, then 16."; order 2: "8 becomes 17 to 23"
pub data Checked (book : List ℕ) (root : ℕ) (onlyXcdr2 : Bool) : ℕ → Type 0 where
  fit : book_ok book ≡ true → root < type_count book → Passes (clauses_for onlyXcdr2) (types_of book) root → Checked book root onlyXcdr2 0
  bad_book : {k : ℕ} {why : Reason} → fault_of book ≡ broken k why → Checked book root onlyXcdr2 (reason_number why)
  bad_root : book_ok book ≡ true → type_count book ≤ root → Checked book root onlyXcdr2 9
  unfit : book_ok book ≡ true → root < type_count book → (Passes (clauses_for onlyXcdr2) (types_of book) root → ⊥) → Checked book root onlyXcdr2 16

-- the elements of the data are bytes. A list's elements may be any numbers; those of a slice that a call is lent are such
abbrev pub AreBytes : List ℕ → Type 0
AreBytes s = (i : ℕ) → get_or s i 0 < 256

-- the numbers that are left for a reading of a type that the check passes
pub data ReadingNumber : ℕ → Type 0 where
  finished_reading : ReadingNumber 0
  too_few_bytes : ReadingNumber 1
  invalid_data : ReadingNumber 2
  full_table : ReadingNumber 13
  absent_discriminator : ReadingNumber 14

-- the reading gives one of these numbers, and where it is finished its rows are those of one value of the root's type, with id 0
pub record Untroubled (types : List BookType) (s : List ℕ) (root : ℕ) (o : Outcome) : Type 0 where
  pub number : ReadingNumber (number_of o)
  pub rows : number_of o ≡ 0 → Opened types s root 0 (rows_of o)
