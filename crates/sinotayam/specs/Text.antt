-- The text call. "The text call takes table, row number, data: for a row of kind 16 or 17 inside the table whose place is inside the data, it
-- hands back that very part of the data (twice b bytes for 17); else an empty part. A companion call on the same three tells which: 0 or 15."
use Rattle.std.specs.Prelude.{ℕ, ◌+◌, List, [], ◌∷◌, eqb, leb, length, take, drop, Option, None, Some}
use Rattle.ground.specs.Choice.{pick, both, among}
use Rattle.table.specs.declared.rows.Row.{Row}
use Rattle.table.specs.Rows.{row_at}

-- where a text stands in the data: its start, and how many bytes
abbrev pub Span : Type 0
Span = Option (ℕ × ℕ)

-- "Text 16: a start in the data, b bytes; 17: b 16-bit units."
unfoldable pub text_bytes : Row → ℕ
text_bytes r = pick (eqb r.kind 17) (r.b + r.b) r.b

-- the place of a row's text in data of so many bytes. The sums are whole numbers, of any size
unfoldable pub span_of : Row → ℕ → Span
span_of r size = pick (both (among (16 ∷ 17 ∷ []) r.kind) (leb (r.a + text_bytes r) size)) (Some (r.a, text_bytes r)) None

unfoldable pub part_at : List ℕ → Span → List ℕ
part_at s (Some (start, n)) = take n (drop start s)
part_at s None = []

-- "A companion call .. tells which: 0 or 15."
unfoldable pub span_number : Span → ℕ
span_number (Some (start, n)) = 0
span_number None = 15

-- a row outside the table is all 0, which is no text
abbrev pub span_in : List ℕ → ℕ → List ℕ → Span
span_in table row s = span_of (row_at table row) (length s)

abbrev pub text_of : List ℕ → ℕ → List ℕ → List ℕ
text_of table row s = part_at s (span_in table row s)

abbrev pub text_number : List ℕ → ℕ → List ℕ → ℕ
text_number table row s = span_number (span_in table row s)
