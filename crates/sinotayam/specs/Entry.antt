-- The entry points. "Order: 8, 9, 10, message under 4 bytes (1), unknown identifier (2), then the reading."
use Rattle.std.specs.Prelude.{ℕ, ◌-◌, Bool, true, false, List, leb, ltb, length, get_or, drop, Err, None, Ok, Some}
use Rattle.wire.specs.declared.cursor.Told.{Told}
use Rattle.wire.specs.declared.settings.Mode.{Mode}
use Rattle.wire.specs.Identifier.{Representation, settings_of}
use Rattle.book.specs.Types.{BookType, types_of}
use Rattle.book.specs.Fault.{Verdict, fault_of}
use Rattle.reader.specs.Nested.{reading}
use Rattle.sinotayam.specs.declared.answer.Status.{Status}
use Rattle.sinotayam.specs.declared.answer.Status.TheVariants.{InvalidData, BadBook, BadRoot, TooLong}
use Rattle.sinotayam.specs.Answer.{Result, refused_by, short_by, result_of}

-- this number where the test passes, else what follows
unfoldable pub refused_if : Bool → Status → Result → Result
refused_if true n next = refused_by n
refused_if false n next = next

-- 1 with what is told where the test passes, else what follows
unfoldable pub short_if : Bool → Told → Result → Result
short_if true told next = short_by told
short_if false told next = next

-- order 6: "a message under 4 bytes tells position 0 and 4 minus its length"
abbrev pub under_four : ℕ → Told
under_four size = record { position = 0; need = 4 - size }

-- "unknown identifier (2), then the reading" of the data
unfoldable pub by_identifier : List BookType → ℕ → List ℕ → ℕ → Representation → Result
by_identifier types root s room None = refused_by InvalidData
by_identifier types root s room (Some set) = result_of (reading types s set root room)

-- a message of a type of these: two bytes of identifier, two of options, then the data.
-- 9, "BadRoot: root index not below the number of types", 10, "TooLong: message over 65,536 bytes", "message under 4 bytes (1)"
unfoldable pub message_by : List BookType → ℕ → List ℕ → Mode → ℕ → Result
message_by types root message mode room =
    refused_if (leb (length types) root) BadRoot
    (refused_if (ltb 65536 (length message)) TooLong
    (short_if (ltb (length message) 4) (under_four (length message))
    (by_identifier types root (drop 4 message) room (settings_of mode (get_or message 0 0) (get_or message 1 0)))))

-- data whose identifier is known: "(65,532 bytes after the four-byte header)"
unfoldable pub data_by : List BookType → ℕ → List ℕ → List ℕ → Mode → ℕ → Result
data_by types root id s mode room =
    refused_if (leb (length types) root) BadRoot
    (refused_if (ltb 65532 (length s)) TooLong
    (by_identifier types root s room (settings_of mode (get_or id 0 0) (get_or id 1 0))))

-- 8, "BadBook: a book rule below is broken": order 2, "8 becomes 17 to 23 ..; places after it stay". Where nothing is wrong, what follows
unfoldable pub by_fault : Verdict → Result → Result
by_fault (Ok u) next = next
by_fault (Err f) next = refused_by (BadBook f.reason)

-- what follows has the types of the book
unfoldable pub with_book : List ℕ → (List BookType → Result) → Result
with_book book next = by_fault (fault_of book) (next (types_of book))

-- READING A MESSAGE: book, root, message, the mode, and the rows there is room for
abbrev pub read_of : List ℕ → ℕ → List ℕ → Mode → ℕ → Result
read_of book root message mode room = with_book book (λ types. message_by types root message mode room)

-- READING DATA whose identifier is known
abbrev pub read_data_of : List ℕ → ℕ → List ℕ → List ℕ → Mode → ℕ → Result
read_data_of book root id s mode room = with_book book (λ types. data_by types root id s mode room)
