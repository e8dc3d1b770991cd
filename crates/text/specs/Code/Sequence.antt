-- How the UTF-8 check goes over the bytes: by whole sequences, and past ASCII at once.
use Rattle.std.specs.Prelude.{ℕ, suc, ◌+◌, ◌<◌, ◌≤◌, ◌≡◌, length, drop, List, [], ◌∷◌, Bool, true, false, Option, Some, None}
use Rattle.ground.specs.Choice.{pick, both, Range, ◌‥◌, within}
use Rattle.text.specs.Unicode.{table37, Follow, nothing, ranges, follow, rest_good}
use Rattle.text.specs.declared.utf8.In.{In}

abbrev pub range_of : In → Range
range_of i = i.0 ‥ i.1

-- the bytes begin with one in each of these ranges
unfoldable pub begins : List Range → List ℕ → Bool
begins [] xs = true
begins (r ∷ rs) [] = false
begins (r ∷ rs) (x ∷ xs) = both (within r x) (begins rs xs)

-- how many bytes a row has, its first and one in each of these ranges: none where those that follow the first are not so
unfoldable pub on_row : Follow → List ℕ → Option ℕ
on_row nothing xs = None
on_row (ranges rs) xs = pick (begins rs xs) (Some (suc (length rs))) None

-- so many bytes from `at` on are a row, of which f says what follows the first: none where they are not
pub record Row (s : List ℕ) (at : ℕ) (f : Follow) (n : Option ℕ) : Type 0 where
  pub begun : at < length s
  pub counted : n ≡ on_row f (drop (at + 1) s)

-- how many bytes the row of the table has that the bytes begin with, if they begin with one
unfoldable pub row_length : List ℕ → Option ℕ
row_length [] = None
row_length (x ∷ xs) = on_row (follow table37 x) xs

-- the bytes from r on end well exactly when those from a place before it do
pub record Passed (s : List ℕ) (at r : ℕ) : Type 0 where
  pub beyond : at ≤ r
  pub inside : r ≤ length s
  pub same : rest_good table37 (drop r s) [] ≡ rest_good table37 (drop at s) []
