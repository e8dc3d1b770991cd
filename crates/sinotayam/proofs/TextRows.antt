-- DEMAND 3 AND THE TABLE: each row that a finished reading leaves there by itself, and every text row is one to the text call. Assumes nothing.
use Prim.Native.Nat.{ℕ, zero, suc, ◌+◌, ◌*◌, ◌<◌}
use mathlib.Core.Path.{◌≡◌, refl}
use mathlib.Core.Bool.{Bool, true, false, ◌||◌}
use mathlib.Core.List.{List, [], ◌∷◌}
use native.Mathlib.Nat.{add-zero}
use native.Mathlib.Omega.{arith}
use lib.Dec.{eqb}
use lib.ListN.{length, get_or, drop}
use lib.Seq.{take_at}
use borrow.Author.Tests.{le-leb, eqb-true}
use Rattle.ground.specs.Choice.{among}
use Rattle.book.specs.Types.{BookType, types_of}
use Rattle.table.specs.declared.rows.Row.{Row}
use Rattle.table.specs.Rows.{row, width, words, row_at}
use Rattle.table.specs.Code.Rows.{Filled}
use Rattle.table.proofs.Filling.{length_words, filled_first, filled_rest}
use Rattle.shape.specs.Shape.{Inside, Opened}
use Rattle.shape.specs.Flat.{RowFits}
use Rattle.shape.proofs.Flat.{each_row}
use Rattle.sinotayam.specs.declared.answer.Answer.{Answer}
use Rattle.sinotayam.specs.Answer.{code_of, table_of}
use Rattle.sinotayam.specs.Demand3.{SafeCall}
use Rattle.sinotayam.specs.Text.{text_bytes, span_of, span_number, text_number}

-- the rows of a finished reading are read back from the table that it leaves
row_in : {t : List ℕ} (n : ℕ) (rs : List Row) (i : ℕ) → Filled t t n rs → i < length rs → row_at t (n + i) ≡ get_or rs i (row 0 0 0 0 0)
row_in n [] i f h = absurd (omega arith)
row_in n (r ∷ rs) zero f h = rw add-zero (filled_first f)
row_in {t} n (r ∷ rs) (suc i) f h =
    let e : n + suc i ≡ n + 1 + i = omega arith in
    rw e (row_in (n + 1) rs i (filled_rest f) (omega arith))

filled_table : (before : List ℕ) (rs : List Row) → Filled (table_of before rs) (table_of before rs) 0 rs
filled_table before rs = record { long = refl; kept = refl; rows = take_at (words rs) _ (width * length rs) (length_words rs) }

-- a text that lies inside the data
module _ (r : Row) (s : List ℕ) where
  eight : r.kind ≡ 16 → Inside s r.a r.b 1 → span_number (span_of r (length s)) ≡ 0
  unfolding span_of text_bytes span_number
  eight e i = rw (e, le-leb (r.a + r.b) (length s) (omega arith))

  sixteen : r.kind ≡ 17 → Inside s r.a r.b 2 → span_number (span_of r (length s)) ≡ 0
  unfolding span_of text_bytes span_number
  sixteen e i = rw (e, le-leb (r.a + (r.b + r.b)) (length s) (omega arith))

  fitting : {types : List BookType} {after : List Row} → RowFits types s r after → among (16 ∷ 17 ∷ []) r.kind ≡ true → span_number (span_of r (length s)) ≡ 0
  fitting x = by (eqb r.kind 16) refl (eqb r.kind 17) refl
    where
      by : (f : Bool) → eqb r.kind 16 ≡ f → (g : Bool) → eqb r.kind 17 ≡ g → (f || (g || false)) ≡ true → span_number (span_of r (length s)) ≡ 0
      by true e g k t = let z : r.kind ≡ 16 = eqb-true r.kind 16 e in eight z (x.text8 z)
      by false e true k t = let z : r.kind ≡ 17 = eqb-true r.kind 17 k in sixteen z (x.text16 z)
      by false e false k t = absurd (let z : ◌≡◌ {A = ℕ} 0 1 = cc in omega arith)

-- EVERY ROW OF THE TABLE that a finished reading leaves is what the shape says of it by itself
pub row_fits : {types : List BookType} {s : List ℕ} {ty id : ℕ} {rs : List Row} → Opened types s ty id rs → (before : List ℕ) (i : ℕ) → i < length rs
    → RowFits types s (row_at (table_of before rs) i) (drop (suc i) rs)
row_fits {rs = rs} o before i h =
    let z : 0 + i ≡ i = omega arith in
    let e : row_at (table_of before rs) i ≡ get_or rs i (row 0 0 0 0 0) = rw z at (row_in 0 rs i (filled_table before rs) h) in
    rw e (each_row o i h)

-- .. and each text row is one to the text call
pub texts_told : {types : List BookType} {s : List ℕ} {ty id : ℕ} {rs : List Row} → Opened types s ty id rs → (before : List ℕ) (i : ℕ) → i < length rs
    → among (16 ∷ 17 ∷ []) (row_at (table_of before rs) i).kind ≡ true → text_number (table_of before rs) i s ≡ 0
texts_told {s = s} {rs = rs} o before i h t = fitting (row_at (table_of before rs) i) s (row_fits o before i h) t

-- WHAT THE TABLE HOLDS after a call that answers 0: each of its rows
pub call_rows : (book s : List ℕ) (root : ℕ) (before after : List ℕ) (r : Answer) → SafeCall book s root before after r → code_of r.status ≡ 0 → (i : ℕ) → i < r.rows → (later : List Row) × RowFits (types_of book) s (row_at after i) later
call_rows book s root before after r safe z i h =
    let held = safe.rows z in
    (drop (suc i) held.0, rw held.3 (row_fits held.1 before i (omega (arith, held.2))))
