-- A case as bytes, as the program `rows` takes it: "on standard input the book, root u16, message length u32, message (big-endian numbers)".
use Rattle.std.specs.Prelude.{ℕ, ◌+◌, ◌≡◌, List, leb, eqb, length, take, drop, Option, None, Some}
use Rattle.ground.specs.Choice.{pick, both, ◌‥◌, within}
use Rattle.book.specs.Types.{pair, quad}
use Rattle.book.specs.Places.{from}
use Rattle.wire.specs.declared.settings.Mode.TheVariants.{Crate}
use Rattle.table.specs.Rows.{capacity}
use Rattle.sinotayam.specs.declared.answer.Answer.{Answer}
use Rattle.sinotayam.specs.Answer.{Settled}
use Rattle.sinotayam.specs.Entry.{read_of}
use Rattle.cases.specs.declared.input.Case.{Case}

-- a book begins with its own length
abbrev pub book_size : List ℕ → ℕ
book_size s = quad s 0

-- "root u16", right after it
abbrev pub root_of : List ℕ → ℕ
root_of s = pair (from s (book_size s)) 0

-- "message length u32"
abbrev pub message_size : List ℕ → ℕ
message_size s = quad (from s (book_size s)) 2

-- the book, these six bytes, and the message
abbrev pub case_size : List ℕ → ℕ
case_size s = book_size s + 6 + message_size s

-- a case: the book's size, the root and the message's size; or none
abbrev pub Input : Type 0
Input = Option Case

abbrev pub case : ℕ → ℕ → ℕ → Case
case book root message = record { book = book; root = root; message = message }

-- "Input of another length, a book length outside 4 to 65,536 or a message over 65,536 prints `input`."
unfoldable pub input_of : List ℕ → Input
input_of s =
    pick (both (within (4 ‥ 65536) (book_size s)) (both (leb (message_size s) 65536) (eqb (length s) (case_size s))))
    (Some (case (book_size s) (root_of s) (message_size s))) None

-- what is said of a case: the answer of reading its message, and the table; or that it is none, and the table as it was
unfoldable pub Replied : Input → List ℕ → List ℕ → List ℕ → Option Answer → Type 0
Replied None s before after r = (r ≡ None) × (after ≡ before)
Replied (Some c) s before after r =
    (a : Answer) × (r ≡ Some a) × Settled (read_of (take c.book s) c.root (take c.message (drop (c.book + 6) s)) Crate (capacity before)) before after a
