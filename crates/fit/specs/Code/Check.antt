-- How the check is worked out: the records from the lowest up, each measured once, by the measures of those below it.
-- `fits_passes` and `passes_fits` (proofs/Exact.antt) say that it passes just what specs/Fit.antt describes.
use Rattle.std.specs.Prelude.{ℕ, zero, suc, max, ◌≡◌, Bool, List, [], ◌∷◌, ◌++◌, ltb, leb, length, get_or, take}
use Rattle.ground.specs.Choice.{pick, both}
use Rattle.kinds.specs.Kinds.{opens}
use Rattle.book.specs.Types.{BookType, type_no}
use Rattle.fit.specs.Fit.{Clause, links_of, meets}

-- the measure of a type that is not fit: one more than the longest chain that is allowed
abbrev pub too_long : ℕ
too_long = 17

-- the greatest of m and the measures of these types; a type that has none is not fit
unfoldable pub longest_from : List ℕ → ℕ → List ℕ → ℕ
longest_from lower m [] = m
longest_from lower m (k ∷ ks) = longest_from lower (max m (get_or lower k too_long)) ks

-- a structure, enum or union is one link more
unfoldable pub with_own : BookType → ℕ → ℕ
with_own t m = pick (ltb 16 m) too_long (pick (opens t.kind) (suc m) m)

-- the longest chain from a type, by those of the lower records; `too_long` where it is not fit
unfoldable pub chain_of : List Clause → List BookType → List ℕ → BookType → ℕ
chain_of clauses types lower t = pick (meets clauses types t) (with_own t (longest_from lower 0 (links_of t))) too_long

-- those of the first n records
unfoldable pub chains_of : List Clause → List BookType → ℕ → List ℕ
chains_of clauses types zero = []
chains_of clauses types (suc n) = chains_of clauses types n ++ (chain_of clauses types (chains_of clauses types n) (type_no types n) ∷ [])

-- from the one list to the other: as long, and its first numbers are those chains
pub record Measured (clauses : List Clause) (types : List BookType) (n : ℕ) (before after : List ℕ) : Type 0 where
  pub long : length after ≡ length before
  pub is : take n after ≡ chains_of clauses types n

-- the root's kind, and that no chain from it is longer than 16, nor is anything unfit
unfoldable pub fits : List Clause → List BookType → ℕ → Bool
fits clauses types root = both (opens (type_no types root).kind) (leb (chain_of clauses types (chains_of clauses types root) (type_no types root)) 16)
