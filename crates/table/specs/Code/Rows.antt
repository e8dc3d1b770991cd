-- What the code's writing leaves in the lent table.
use Rattle.std.specs.Prelude.{ℕ, ◌+◌, ◌-◌, ◌*◌, ◌≡◌, List, ◌++◌, length, take, drop, replicate}
use Rattle.table.specs.declared.rows.Row.{Row}
use Rattle.table.specs.Rows.{row, width, words_of, words}

-- the table with a row at n
unfoldable pub put_row : List ℕ → ℕ → Row → List ℕ
put_row t n r = take (width * n) t ++ (words_of r ++ drop (width * n + width) t)

-- a row that counts so many rows beneath it, and is as it was but for that
unfoldable pub counting : Row → ℕ → Row
counting r b = row r.kind r.id r.a b r.place

-- the first i words, and zeros after them
abbrev pub cleared_from : ℕ → List ℕ → List ℕ
cleared_from i t = take i t ++ replicate (length t - i) 0

-- from the one table to the other: as long, the first n rows kept, and these rows after them
pub record Filled (before after : List ℕ) (n : ℕ) (rs : List Row) : Type 0 where
  pub long : length after ≡ length before
  pub kept : take (width * n) after ≡ take (width * n) before
  pub rows : take (width * length rs) (drop (width * n) after) ≡ words rs
