-- The room that a table has: a bigger one changes nothing, and some table is big enough. Order 13.
use Rattle.std.specs.Prelude.{ℕ, ◌≤◌, ◌≡◌, List}
use Rattle.wire.specs.declared.settings.Settings.{Settings}
use Rattle.book.specs.Types.{BookType}
use Rattle.table.specs.Outcome.{number_of}
use Rattle.reader.specs.Nested.{reading}

-- ---- of an answer that hangs on the rows there is room for, and of the number that it gives

-- "if a reading answers anything but 13, every larger table gives the same number and rows": the whole answer is the same
abbrev pub SameIfRoom : {A : Type 0} → (A → ℕ) → (ℕ → A) → Type 0
SameIfRoom number answer = (few more : ℕ) → few ≤ more → (number (answer few) ≡ 13 → ⊥) → answer more ≡ answer few

-- "some capacity .. never meets 13": there is a number of rows, and neither it nor any larger one answers 13
abbrev pub SomeRoom : {A : Type 0} → (A → ℕ) → (ℕ → A) → Type 0
SomeRoom number answer = (rows : ℕ) × ((more : ℕ) → rows ≤ more → number (answer more) ≡ 13 → ⊥)

-- ---- of a reading, whose room is any whole number and no slice's length

-- A BIGGER TABLE CHANGES NOTHING: whatever the types, the data, the settings (the mode is one of them) and the root
abbrev pub BiggerTable : Type 0
BiggerTable = (types : List BookType) (s : List ℕ) (set : Settings) (root : ℕ) → SameIfRoom number_of (reading types s set root)

-- SOME TABLE IS BIG ENOUGH: "for each book, root and message"
abbrev pub SomeTable : Type 0
SomeTable = (types : List BookType) (s : List ℕ) (set : Settings) (root : ℕ) → SomeRoom number_of (reading types s set root)
