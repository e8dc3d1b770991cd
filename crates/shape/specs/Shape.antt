-- THE SHAPE OF THE ROWS OF A FINISHED READING, over the types of a book and the data that was read. One definition for each thing that has
-- rows, at every depth and beneath lists too.
use Rattle.std.specs.Prelude.{ℕ, suc, ◌+◌, ◌*◌, ◌≤◌, ◌≡◌, Bool, true, length, ℤ, eqb}
use mathlib.Core.List.{List, [], ◌∷◌, ◌++◌, Memᴰ}
use Rattle.std.proofs.Math.Option.{some}
use Rattle.ground.specs.Choice.{pick, among}
use Rattle.kinds.specs.Kinds.{stored_of, bitmask_stored}
use Rattle.book.specs.Types.{BookType, Member, bounded, type_no}
use Rattle.table.specs.declared.rows.Row.{Row}
use Rattle.table.specs.Rows.{row}
use Rattle.choice.specs.Discriminator.{discriminator_of}
use Rattle.choice.specs.Select.{selected_of}
use Rattle.std.specs.Prelude.{Ok}
use Rattle.shape.specs.Range.{in_range}

-- x stands in the list
abbrev pub OneOf : {A : Type 0} → A → List A → Type 0
OneOf x xs = Memᴰ x xs

-- a type's stored kind: "A bitmask is 13, 6, 7 or 8 by bound"; by its own kind any other: "BYTE is stored as 13.", "Sequences and arrays: kind 25"
unfoldable pub stored_kind : BookType → ℕ
stored_kind t = pick (eqb t.kind 19) (bitmask_stored (bounded t) t.bound) (stored_of t.kind)

-- "Scalars": 1 BOOLEAN to 14 CHAR8, and 19 BITMASK
unfoldable pub is_scalar : BookType → Bool
is_scalar t = among (1 ∷ 2 ∷ 3 ∷ 4 ∷ 5 ∷ 6 ∷ 7 ∷ 8 ∷ 9 ∷ 10 ∷ 11 ∷ 12 ∷ 13 ∷ 14 ∷ 19 ∷ []) t.kind

-- a text that lies inside the data, with so many bytes to a unit
abbrev pub Inside : List ℕ → ℕ → ℕ → ℕ → Type 0
Inside s start units size = start + units * size ≤ length s

-- order 7: "each place of a finished reading is at most the data's length". In the shape a place that need not be is one "for a structure, enum, union or array
-- opened past the end, which tells the position as it is"
abbrev pub InData : List ℕ → ℕ → Type 0
InData s place = place ≤ length s

mutual
  -- the rows of a value of a type, with an id: one value, or a list of them.
  -- "Sequences and arrays: kind 25, a element's stored kind .., b elements; each element's id is its position."
  pub data Value (types : List BookType) (s : List ℕ) : ℕ → ℕ → List Row → Type 0 where
    one : {ty id : ℕ} {rs : List Row} → Single types s ty id rs → Value types s ty id rs
    -- a sequence has any number of elements
    sequence : {ty id : ℕ} {rs : List Row} (n place : ℕ) → (type_no types ty).kind ≡ 25 → InData s place
        → Elements types s (type_no types ty).element n 0 rs
        → Value types s ty id (row 25 id (stored_kind (type_no types (type_no types ty).element)) n place ∷ rs)
    -- an array has exactly its stated size
    array : {ty id : ℕ} {rs : List Row} (place : ℕ) → (type_no types ty).kind ≡ 26
        → Elements types s (type_no types ty).element (type_no types ty).bound 0 rs
        → Value types s ty id (row 25 id (stored_kind (type_no types (type_no types ty).element)) (type_no types ty).bound place ∷ rs)

  -- a value that is no list: a scalar, a text, or a structure, enum or union
  pub data Single (types : List BookType) (s : List ℕ) : ℕ → ℕ → List Row → Type 0 where
    -- "Scalars put the value in a", in the range of the kind that its row has; FLOAT128 its high half in b, which is 0 for any other
    scalar : {ty id : ℕ} (a b place : ℕ) → is_scalar (type_no types ty) ≡ true → in_range (stored_kind (type_no types ty)) a b ≡ true → InData s place
        → Single types s ty id (row (stored_kind (type_no types ty)) id a b place ∷ [])
    -- "Text 16: a start in the data, b bytes; 17: b 16-bit units."
    text8 : {ty id : ℕ} (start n place : ℕ) → (type_no types ty).kind ≡ 16 → Inside s start n 1 → InData s place → Single types s ty id (row 16 id start n place ∷ [])
    text16 : {ty id : ℕ} (start n place : ℕ) → (type_no types ty).kind ≡ 17 → Inside s start n 2 → InData s place → Single types s ty id (row 17 id start n place ∷ [])
    nested : {ty id : ℕ} {rs : List Row} → Opened types s ty id rs → Single types s ty id rs

  -- so many elements of a type, one after the other; the first has the position i for its id, the next i + 1
  pub data Elements (types : List BookType) (s : List ℕ) : ℕ → ℕ → ℕ → List Row → Type 0 where
    no_element : {ty i : ℕ} → Elements types s ty 0 i []
    element : {ty left i : ℕ} {rs ss : List Row} → Single types s ty i rs → Elements types s ty left (i + 1) ss → Elements types s ty (suc left) i (rs ++ ss)

  -- "Kinds 21 to 23: a type index, b all rows beneath, at any depth."
  pub data Opened (types : List BookType) (s : List ℕ) : ℕ → ℕ → List Row → Type 0 where
    opened : {ty id : ℕ} {rs : List Row} (place : ℕ) → Beneath types s (type_no types ty) rs → Opened types s ty id (row (type_no types ty).kind id ty (length rs) place ∷ rs)

  -- what stands beneath the row of an enum, a structure, a union
  pub data Beneath (types : List BookType) (s : List ℕ) : BookType → List Row → Type 0 where
    -- an enum's value has the kind of its base, INT16, INT32 or INT8, and id 0; it is any number in the base's range
    enum : {t : BookType} (a b place : ℕ) → t.kind ≡ 21 → among (3 ∷ 4 ∷ 12 ∷ []) t.base ≡ true → in_range t.base a b ≡ true → InData s place
        → Beneath types s t (row t.base 0 a b place ∷ [])
    structure : {t : BookType} {rs : List Row} → t.kind ≡ 22 → Members types s t.members rs → Beneath types s t rs
    -- the discriminator, and the one other member that its value selects
    union : {t : BookType} {disc m : Member} {others : List Member} {ds rs : List Row} (value : ℤ) → t.kind ≡ 23 → t.members ≡ disc ∷ others
        → Held types s disc ds → discriminator_of ds ≡ Ok value
        → selected_of types disc (disc ∷ others) value ≡ some m → OneOf m others
        → Held types s m rs → Beneath types s t (ds ++ rs)

  -- members in the type's order, each at most once
  pub data Members (types : List BookType) (s : List ℕ) : List Member → List Row → Type 0 where
    no_member : Members types s [] []
    member : {m : Member} {ms : List Member} {rs ss : List Row} → Held types s m rs → Members types s ms ss → Members types s (m ∷ ms) (rs ++ ss)

  -- a member: no rows, or those of one value of its type, with its id
  pub data Held (types : List BookType) (s : List ℕ) : Member → List Row → Type 0 where
    absent : {m : Member} → Held types s m []
    present : {m : Member} {rs : List Row} → Value types s m.type m.id rs → Held types s m rs
