-- How the rows of a finished table are walked: a row and the rows after it tell where its value ends.
use Rattle.std.specs.Prelude.{ℕ, zero, suc, ◌+◌, ◌≡◌, List, [], ◌∷◌, ◌++◌, eqb, drop}
use Rattle.ground.specs.Choice.{pick}
use Rattle.kinds.specs.Kinds.{opens}
use Rattle.book.specs.Types.{BookType, Member, type_no}
use Rattle.table.specs.declared.rows.Row.{Row}
use Rattle.shape.specs.Shape.{stored_kind, Value}

-- the rows of a value that is no list: its own, and of kinds 21 to 23 also "b all rows beneath, at any depth"
unfoldable pub extent : Row → ℕ
extent r = pick (opens r.kind) (suc r.b) 1

-- the rows of n such values
unfoldable pub extents : ℕ → List Row → ℕ
extents zero rs = 0
extents (suc n) [] = 0
extents (suc n) (r ∷ rs) = extent r + extents n (drop (extent r) (r ∷ rs))

-- the rows of the value that comes first; "Sequences and arrays: kind 25, .., b elements"
unfoldable pub span : List Row → ℕ
span [] = 0
span (r ∷ rs) = pick (eqb r.kind 25) (suc (extents r.b rs)) (extent r)

-- the rows that stand directly at this level, at most n of them: a row, and then the one after all that belongs to it
unfoldable pub direct : ℕ → List Row → List Row
direct zero rs = []
direct (suc n) [] = []
direct (suc n) (r ∷ rs) = r ∷ direct n (drop (span (r ∷ rs)) (r ∷ rs))

-- a row that may be the first of a member's value: the member's id, its type's stored kind, and of an array its stated size
pub record StartOf (types : List BookType) (m : Member) (r : Row) : Type 0 where
  pub id : r.id ≡ m.id
  pub kind : r.kind ≡ stored_kind (type_no types m.type)
  pub size : (type_no types m.type).kind ≡ 26 → r.b ≡ (type_no types m.type).bound

-- each row belongs to one of these members, in their order and at most once
pub data InOrder (types : List BookType) : List Member → List Row → Type 0 where
  none_left : {ms : List Member} → InOrder types ms []
  without : {m : Member} {ms : List Member} {rs : List Row} → InOrder types ms rs → InOrder types (m ∷ ms) rs
  with : {m : Member} {ms : List Member} {r : Row} {rs : List Row} → StartOf types m r → InOrder types ms rs → InOrder types (m ∷ ms) (r ∷ rs)

-- THE WALK OF A WHOLE LEVEL: the rows of these members, and those of them that a walk visits. Each member is passed by, or one value of it comes
-- next, whose first row is visited; after the last member no row is left
pub data Visits (types : List BookType) (s : List ℕ) : List Member → List Row → List Row → Type 0 where
  all_visited : Visits types s [] [] []
  passes_by : {m : Member} {ms : List Member} {rs vs : List Row} → Visits types s ms rs vs → Visits types s (m ∷ ms) rs vs
  visits : {m : Member} {ms : List Member} {r : Row} {rs more vs : List Row} → Value types s m.type m.id (r ∷ rs) → Visits types s ms more vs → Visits types s (m ∷ ms) (r ∷ rs ++ more) (r ∷ vs)
