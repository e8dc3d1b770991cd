-- Value rows in the lent table.
use Rattle.std.specs.Prelude.{ℕ, ◌+◌, ◌-◌, ◌*◌, ◌/◌, Bool, List, [], ◌∷◌, ◌++◌, leb, length, get_or}
use Rattle.ground.specs.Choice.{pick}
use Rattle.table.specs.declared.rows.Row.{Row}

-- "A row is four u64: kind, id, a, b.", and by order 7 "Each row gets a fifth word": the place where its value stands in the data
abbrev pub row : ℕ → ℕ → ℕ → ℕ → ℕ → Row
row k i a b p = record { kind = k; id = i; a = a; b = b; place = p }

-- ---- a row's form: how many words it has, and which. All that depends on it, here and in specs/Code, goes by these two definitions

-- "Capacity is now words divided by 5"
abbrev pub width : ℕ
width = 5

-- kind, id, a, b, and the fifth word
unfoldable pub words_of : Row → List ℕ
words_of r = r.kind ∷ r.id ∷ r.a ∷ r.b ∷ r.place ∷ []

-- the words of rows, one row after the other
unfoldable pub words : List Row → List ℕ
words [] = []
words (r ∷ rs) = words_of r ++ words rs

-- "Capacity is now words divided by 5, rounded down"
abbrev pub capacity : List ℕ → ℕ
capacity t = length t / width

-- the rows that a table has room for after its first n
unfoldable pub room : List ℕ → ℕ → ℕ
room t n = capacity t - n

-- .. which is none
unfoldable pub no_room : List ℕ → ℕ → Bool
no_room t n = leb (capacity t) n

-- row n as the table holds it; all 0 past the last whole row
unfoldable pub row_at : List ℕ → ℕ → Row
row_at t n =
    pick (no_room t n) (row 0 0 0 0 0)
    (row (get_or t (width * n) 0) (get_or t (width * n + 1) 0) (get_or t (width * n + 2) 0) (get_or t (width * n + 3) 0) (get_or t (width * n + 4) 0))
