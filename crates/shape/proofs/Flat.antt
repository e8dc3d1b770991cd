-- The shape of rows drawn out over the table: every row by itself, at whatever depth and beneath whatever list it stands. Assumes nothing.
use Prim.Native.Nat.{ℕ, zero, suc, ◌<◌}
use mathlib.Core.Path.{◌≡◌, refl, sym, ◌∙◌}
use mathlib.Core.Bool.{Bool, true, false, not}
use mathlib.Core.List.{List, [], ◌∷◌, ◌++◌, append_assoc, append-nil}
use native.Mathlib.Omega.{arith}
use lib.Dec.{eqb}
use lib.ListN.{length, get_or, take, drop}
use lib.Seq.{take_at}
use Rattle.ground.specs.Choice.{both, every, among}
use Rattle.ground.proofs.Tests.{apart}
use Rattle.kinds.specs.Kinds.{opens}
use Rattle.book.specs.Types.{BookType, type_no}
use Rattle.table.specs.declared.rows.Row.{Row}
use Rattle.table.specs.Rows.{row}
use Rattle.shape.specs.Shape as shape
use Rattle.shape.specs.Shape.{Opened, Beneath, Inside, InData, stored_kind}
use Rattle.shape.specs.Range.{scalar_rows, in_range}
use Rattle.shape.specs.Flat.{RowFits}
use Rattle.shape.proofs.KindTests.{among_each, scalar_row}

-- a row's kind that is no text's and opens nothing
abbrev simple : ℕ → Bool
simple k = both (not (opens k)) (both (not (eqb k 16)) (not (eqb k 17)))

not_opened : (k : ℕ) → simple k ≡ true → opens k ≡ true → ⊥
not_opened k e o = apart (rw o at e)

not_text8 : (k : ℕ) → simple k ≡ true → k ≡ 16 → ⊥
unfolding opens
not_text8 k e z = apart (rw z at e)

not_text16 : (k : ℕ) → simple k ≡ true → k ≡ 17 → ⊥
unfolding opens
not_text16 k e z = apart (rw z at e)

simple_scalar : (k : ℕ) → among scalar_rows k ≡ true → simple k ≡ true
unfolding opens every
simple_scalar k e = among_each simple scalar_rows tt k e

simple_base : (k : ℕ) → among (3 ∷ 4 ∷ 12 ∷ []) k ≡ true → simple k ≡ true
unfolding opens every
simple_base k e = among_each simple (3 ∷ 4 ∷ 12 ∷ []) tt k e

simple_list : simple 25 ≡ true
unfolding opens
simple_list = refl

-- what is opened is no text, and no scalar
record NoValue (k : ℕ) : Type 0 where
  text8 : k ≡ 16 → ⊥
  text16 : k ≡ 17 → ⊥
  scalar : among scalar_rows k ≡ true → ⊥
  opened : opens k ≡ true

opened_no_value : (k : ℕ) → opens k ≡ true → NoValue k
unfolding opens every
opened_no_value k o =
    record {
      text8 = λ z. apart (rw z at o);
      text16 = λ z. apart (rw z at o);
      scalar = λ z. apart (rw o at (among_each (λ n. not (opens n)) scalar_rows tt k z));
      opened = o;
    }

module _ (types : List BookType) (s : List ℕ) where
  -- the rows of an opened row's own value, and those after them
  record Heads (r : Row) (after : List Row) : Type 0 where
    own : List Row
    more : List Row
    split : after ≡ own ++ more
    count : r.b ≡ length own
    value : Opened types s r.a r.id (r ∷ own)

  record Stands (r : Row) (after : List Row) : Type 0 where
    scalar : among scalar_rows r.kind ≡ true → in_range r.kind r.a r.b ≡ true
    text8 : r.kind ≡ 16 → Inside s r.a r.b 1
    text16 : r.kind ≡ 17 → Inside s r.a r.b 2
    placed : opens r.kind ≡ false → (r.kind ≡ 25 → ⊥) → InData s r.place
    opened : opens r.kind ≡ true → Heads r after

  abbrev EachRow : List Row → Type 0
  EachRow [] = Unit {0}
  EachRow (r ∷ rs) = Stands r rs × EachRow rs

  -- rows that come after do not change this
  longer : (r : Row) (after more : List Row) → Stands r after → Stands r (after ++ more)
  longer r after more x =
      record {
        scalar = x.scalar;
        text8 = x.text8;
        text16 = x.text16;
        placed = x.placed;
        opened =
            λ o.
            let h = x.opened o in
            record {
              own = h.own;
              more = h.more ++ more;
              split = rw h.split (append_assoc h.own h.more more);
              count = h.count;
              value = h.value;
            };
      }

  both_each : (rs ss : List Row) → EachRow rs → EachRow ss → EachRow (rs ++ ss)
  both_each [] ss x y = y
  both_each (r ∷ rs) ss x y = (longer r rs ss x.0, both_each rs ss x.1 y)

  other : (r : Row) (after : List Row) → simple r.kind ≡ true → (among scalar_rows r.kind ≡ true → in_range r.kind r.a r.b ≡ true)
      → ((r.kind ≡ 25 → ⊥) → InData s r.place) → Stands r after
  other r after e range at =
      record {
        scalar = range;
        text8 = λ z. absurd (not_text8 r.kind e z);
        text16 = λ z. absurd (not_text16 r.kind e z);
        placed = λ o n. at n;
        opened = λ o. absurd (not_opened r.kind e o);
      }

  single : (r : Row) → Stands r [] → EachRow (r ∷ [])
  single r x = (x, tt)

  no_value : {t : BookType} {rs : List Row} → Beneath types s t rs → NoValue t.kind
  unfolding opens
  no_value {t} (shape.enum a b p e f g l) = opened_no_value t.kind (rw e)
  no_value {t} (shape.structure e x) = opened_no_value t.kind (rw e)
  no_value {t} (shape.union v e q h d g o x) = opened_no_value t.kind (rw e)

  -- an opened row, by what stands beneath it
  opener : (ty id place : ℕ) (rs : List Row) → Beneath types s (type_no types ty) rs → Stands (row (type_no types ty).kind id ty (length rs) place) rs
  opener ty id place rs b =
      let z = no_value b in
      record {
        scalar = λ e. absurd (z.scalar e);
        text8 = λ e. absurd (z.text8 e);
        text16 = λ e. absurd (z.text16 e);
        placed = λ o n. absurd (apart (sym o ∙ z.opened));
        opened = λ o. record { own = rs; more = []; split = sym (append-nil rs); count = refl; value = shape.opened place b };
      }

  -- by induction over the shape: one case for each of its clauses
  opened_rows : {ty id : ℕ} {rs : List Row} → Opened types s ty id rs → EachRow rs
  opened_rows o =
      elim o as (λ ty id rs x. EachRow rs) (λ ty id rs x. EachRow rs) (λ ty n i rs x. EachRow rs) (λ ty id rs x. EachRow rs) (λ t rs x. EachRow rs) (λ ms rs x. EachRow rs) (λ m rs x. EachRow rs) [
        | shape.one (x → h) ↦ h
        | shape.sequence {rs = rs} n p e l (x → h) ↦ (other _ rs simple_list (λ z. absurd (apart z)) (λ z. l), h)
        | shape.array {rs = rs} p e (x → h) ↦ (other _ rs simple_list (λ z. absurd (apart z)) (λ z. absurd (z refl)), h)
        | shape.scalar {ty = ty} a b p n g l ↦ single _ (other _ [] (simple_scalar (stored_kind (type_no types ty)) (scalar_row (type_no types ty) n)) (λ z. g) (λ z. l))
        | shape.text8 start n p e i l ↦
            single _ (record { scalar = λ z. absurd (apart z); text8 = λ z. i; text16 = λ z. absurd (omega arith); placed = λ o z. l; opened = λ o. absurd ((opened_no_value 16 o).text8 refl) })
        | shape.text16 start n p e i l ↦
            single _ (record { scalar = λ z. absurd (apart z); text8 = λ z. absurd (omega arith); text16 = λ z. i; placed = λ o z. l; opened = λ o. absurd ((opened_no_value 17 o).text16 refl) })
        | shape.nested (x → h) ↦ h
        | shape.no_element ↦ tt
        | shape.element {rs = rs} {ss = ss} (x → h) (y → k) ↦ both_each rs ss h k
        | shape.opened {ty = ty} {id = id} {rs = rs} p (b → h) ↦ (opener ty id p rs b, h)
        | shape.enum {t = t} a b p e f g l ↦ single _ (other _ [] (simple_base t.base f) (λ z. g) (λ z. l))
        | shape.structure e (x → h) ↦ h
        | shape.union {ds = ds} {rs = rs} v e q (x → h) d g o (y → k) ↦ both_each ds rs h k
        | shape.no_member ↦ tt
        | shape.member {rs = rs} {ss = ss} (x → h) (y → k) ↦ both_each rs ss h k
        | shape.absent ↦ tt
        | shape.present (x → h) ↦ h
      ]

  fits_row : (r : Row) (after : List Row) → Stands r after → RowFits types s r after
  fits_row r after x =
      record {
        scalar = x.scalar;
        text8 = x.text8;
        text16 = x.text16;
        placed = x.placed;
        opened =
            λ o.
            let h = x.opened o in
            let e : take r.b after ≡ h.own = rw h.split (take_at h.own h.more r.b (sym h.count)) in
            rw e h.value;
      }

  at_each : (rs : List Row) (i : ℕ) → EachRow rs → i < length rs → RowFits types s (get_or rs i (row 0 0 0 0 0)) (drop (suc i) rs)
  at_each [] i x h = absurd (omega arith)
  at_each (r ∷ rs) zero x h = fits_row r rs x.0
  at_each (r ∷ rs) (suc i) x h = at_each rs i x.1 (omega arith)

-- EVERY ROW OF A FINISHED READING
pub each_row : {types : List BookType} {s : List ℕ} {ty id : ℕ} {rs : List Row} → Opened types s ty id rs → (i : ℕ) → i < length rs → RowFits types s (get_or rs i (row 0 0 0 0 0)) (drop (suc i) rs)
each_row {types} {s} {rs = rs} o i h = at_each types s rs i (opened_rows types s o) h
