-- What the shape of a finished reading's rows says of each row by itself, and of the rows that stand after it in the table.
use Rattle.std.specs.Prelude.{ℕ, ◌≡◌, true, false, List, ◌∷◌, take}
use Rattle.ground.specs.Choice.{among}
use Rattle.kinds.specs.Kinds.{opens}
use Rattle.book.specs.Types.{BookType}
use Rattle.table.specs.declared.rows.Row.{Row}
use Rattle.shape.specs.Range.{scalar_rows, in_range}
use Rattle.shape.specs.Shape.{Inside, InData, Opened}

pub record RowFits (types : List BookType) (s : List ℕ) (r : Row) (after : List Row) : Type 0 where
  -- "Scalars put the value in a", in its kind's range; b is 0 but for FLOAT128
  pub scalar : among scalar_rows r.kind ≡ true → in_range r.kind r.a r.b ≡ true
  -- "Text 16: a start in the data, b bytes; 17: b 16-bit units.": each lies inside the data
  pub text8 : r.kind ≡ 16 → Inside s r.a r.b 1
  pub text16 : r.kind ≡ 17 → Inside s r.a r.b 2
  -- order 7: "each place of a finished reading is at most the data's length", but for what is opened and for a list. (Of a list its row alone does not tell
  -- whether it is an array; the shape says of a sequence that its place is.)
  pub placed : opens r.kind ≡ false → (r.kind ≡ 25 → ⊥) → InData s r.place
  -- "Kinds 21 to 23: a type index, b all rows beneath, at any depth.": with the next b rows it is one value of that type
  pub opened : opens r.kind ≡ true → Opened types s r.a r.id (r ∷ take r.b after)
