-- What the shape of rows says of the rows alone: where a value ends, and what a walk over the rows directly under a structure or union visits. The
-- last statements cite only definitions of `specs/`. Assumes nothing.
use Prim.Native.Nat.{ℕ, zero, suc, ◌+◌, ◌≤◌}
use mathlib.Core.Path.{◌≡◌, refl, sym, ap, ◌∙◌}
use mathlib.Core.Bool.{true, false}
use mathlib.Core.List.Memᴰ
use mathlib.Core.List.{List, [], ◌∷◌, ◌++◌, append_assoc, append-nil}
use native.Mathlib.Omega.{arith}
use lib.Dec.{eqb}
use lib.ListN.{length, drop, length-append}
use lib.Seq.{drop_at}
use Rattle.ground.proofs.Tests.{apart}
use Rattle.kinds.specs.Kinds.{opens, stored_of}
use Rattle.book.specs.Types.{BookType, Member, type_no}
use Rattle.table.specs.declared.rows.Row.{Row}
use Rattle.shape.specs.Shape as shape
use Rattle.shape.specs.Shape.{OneOf, InData, Value, Single, Opened, Elements, Beneath, Members, Held, stored_kind, is_scalar}
use Rattle.shape.specs.Walk.{extent, extents, span, direct, InOrder, none_left, without, with, Visits, all_visited, passes_by, visits}
use Rattle.shape.proofs.KindTests.{scalar_stored, own_stored}

-- ---- where a value ends

-- the row of what is opened
record OpenedRow (t : BookType) : Type 0 where
  opens : opens t.kind ≡ true
  no_list : eqb t.kind 25 ≡ false
  own : t.kind ≡ stored_kind t

opened_row : (t : BookType) (n : ℕ) → t.kind ≡ n → opens n ≡ true → eqb n 25 ≡ false → eqb n 19 ≡ false → stored_of n ≡ n → OpenedRow t
opened_row t n e o l m q = record { opens = rw e o; no_list = rw e l; own = e ∙ sym q ∙ sym (own_stored t n e m) }

beneath_row : {types : List BookType} {s : List ℕ} {t : BookType} {rs : List Row} → Beneath types s t rs → OpenedRow t
unfolding opens stored_of
beneath_row {t = t} (shape.enum a b p e f g l) = opened_row t 21 e refl refl refl refl
beneath_row {t = t} (shape.structure e x) = opened_row t 22 e refl refl refl refl
beneath_row {t = t} (shape.union v e q h d g o x) = opened_row t 23 e refl refl refl refl

-- a value that is no list: its first row tells how many it has, and is no list's
pub record One (id kind : ℕ) (rs : List Row) : Type 0 where
  pub head : Row
  pub others : List Row
  pub is : rs ≡ head ∷ others
  pub named : head.id ≡ id
  pub stored : head.kind ≡ kind
  pub long : extent head ≡ suc (length others)
  pub no_list : eqb head.kind 25 ≡ false

single_one : {types : List BookType} {s : List ℕ} {ty id : ℕ} {rs : List Row} → Single types s ty id rs → One id (stored_kind (type_no types ty)) rs
unfolding extent stored_of opens
single_one {types} {ty = ty} (shape.scalar a b p n g l) =
    let k = scalar_stored (type_no types ty) n in
    record { head = _; others = []; is = refl; named = refl; stored = refl; long = rw k.0; no_list = k.1 }
single_one {types} {ty = ty} (shape.text8 start n p e i l) =
    record { head = _; others = []; is = refl; named = refl; stored = sym (own_stored (type_no types ty) 16 e refl); long = refl; no_list = refl }
single_one {types} {ty = ty} (shape.text16 start n p e i l) =
    record { head = _; others = []; is = refl; named = refl; stored = sym (own_stored (type_no types ty) 17 e refl); long = refl; no_list = refl }
single_one {types} {ty = ty} (shape.nested (shape.opened {rs = rs} p b)) =
    let k = beneath_row b in
    record { head = _; others = rs; is = refl; named = refl; stored = k.own; long = rw k.opens; no_list = k.no_list }

elements_end : {types : List BookType} {s : List ℕ} {ty n i : ℕ} {rs : List Row} → Elements types s ty n i rs → (more : List Row) → extents n (rs ++ more) ≡ length rs
unfolding extents
elements_end shape.no_element more = refl
elements_end (shape.element {left = left} {rs = rs} {ss = ss} x rest) more =
    let o = single_one x in
    let step : extent o.head + extents left (drop (extent o.head) (o.head ∷ ((o.others ++ ss) ++ more))) ≡ length ((o.head ∷ o.others) ++ ss) =
    rw (o.long, append_assoc, drop_at o.others (ss ++ more) (length o.others) refl, length-append o.others ss) (omega (arith, elements_end rest more)) in
    rw o.is step

module _ {types : List BookType} {s : List ℕ} {ty id : ℕ} where
  -- an array has exactly its stated size
  pub array_size : {r : Row} {rs : List Row} → Value types s ty id (r ∷ rs) → (type_no types ty).kind ≡ 26 → (r.b ≡ (type_no types ty).bound) × Elements types s (type_no types ty).element (type_no types ty).bound 0 rs
  unfolding is_scalar
  array_size (shape.one (shape.scalar a b p n g l)) e = absurd (apart (rw e at n))
  array_size (shape.one (shape.text8 start n p z i l)) e = absurd (omega arith)
  array_size (shape.one (shape.text16 start n p z i l)) e = absurd (omega arith)
  array_size (shape.one (shape.nested (shape.opened place (shape.enum a b p z f g l)))) e = absurd (omega arith)
  array_size (shape.one (shape.nested (shape.opened place (shape.structure z x)))) e = absurd (omega arith)
  array_size (shape.one (shape.nested (shape.opened place (shape.union v z q h d g o x)))) e = absurd (omega arith)
  array_size (shape.sequence n p z l x) e = absurd (omega arith)
  array_size (shape.array p z x) e = (refl, x)

  -- a sequence's place is in the data
  pub sequence_place : {r : Row} {rs : List Row} → Value types s ty id (r ∷ rs) → (type_no types ty).kind ≡ 25 → InData s r.place
  unfolding is_scalar
  sequence_place (shape.one (shape.scalar a b p n g l)) e = absurd (apart (rw e at n))
  sequence_place (shape.one (shape.text8 start n p z i l)) e = absurd (omega arith)
  sequence_place (shape.one (shape.text16 start n p z i l)) e = absurd (omega arith)
  sequence_place (shape.one (shape.nested (shape.opened place (shape.enum a b p z f g l)))) e = absurd (omega arith)
  sequence_place (shape.one (shape.nested (shape.opened place (shape.structure z x)))) e = absurd (omega arith)
  sequence_place (shape.one (shape.nested (shape.opened place (shape.union v z q h d g o x)))) e = absurd (omega arith)
  sequence_place (shape.sequence n p z l x) e = l
  sequence_place (shape.array p z x) e = absurd (omega arith)

-- a value: its first row has its id, its stored kind and an array's size, and whatever rows come after it, its end is found
pub record Whole (types : List BookType) (ty id : ℕ) (rs : List Row) : Type 0 where
  pub head : Row
  pub others : List Row
  pub is : rs ≡ head ∷ others
  pub named : head.id ≡ id
  pub stored : head.kind ≡ stored_kind (type_no types ty)
  pub size : (type_no types ty).kind ≡ 26 → head.b ≡ (type_no types ty).bound
  pub ends : (more : List Row) → span (rs ++ more) ≡ length rs

one_ends : {id kind : ℕ} {rs : List Row} (o : One id kind rs) (more : List Row) → span (rs ++ more) ≡ length rs
unfolding span
one_ends o more =
    let step : span (o.head ∷ (o.others ++ more)) ≡ length (o.head ∷ o.others) = rw o.no_list o.long in
    rw o.is step

pub value_whole : {types : List BookType} {s : List ℕ} {ty id : ℕ} {rs : List Row} → Value types s ty id rs → Whole types ty id rs
unfolding span stored_of
value_whole {types} {s} {ty} {id} (shape.one x) =
    let o = single_one x in
    let v : Value types s ty id (o.head ∷ o.others) = rw o.is at (shape.one x) in
    record { head = o.head; others = o.others; is = o.is; named = o.named; stored = o.stored; size = λ e. (array_size v e).0; ends = λ more. one_ends o more }
value_whole {types} {ty = ty} (shape.sequence n p e l x) =
    record { head = _; others = _; is = refl; named = refl; stored = sym (own_stored (type_no types ty) 25 e refl); size = λ z. absurd (omega arith); ends = λ more. ap suc (elements_end x more) }
value_whole {types} {ty = ty} (shape.array p e x) =
    record { head = _; others = _; is = refl; named = refl; stored = sym (own_stored (type_no types ty) 26 e refl); size = λ z. refl; ends = λ more. ap suc (elements_end x more) }

-- ---- in the type's order and at most once

-- one step of the walk leads from a value's first row to what comes after the value
step_over : {types : List BookType} {ty id : ℕ} {rs : List Row} (w : Whole types ty id rs) (ss : List Row) → drop (span (w.head ∷ (w.others ++ ss))) (w.head ∷ (w.others ++ ss)) ≡ ss
step_over w ss =
    let own : span (w.head ∷ (w.others ++ ss)) ≡ length (w.head ∷ w.others) = rw w.is at (w.ends ss) in
    rw own (drop_at (w.head ∷ w.others) ss (length (w.head ∷ w.others)) refl)

direct_step : {types : List BookType} {rs : List Row} {m : Member} {ms : List Member} (n : ℕ) (ss : List Row) → Whole types m.type m.id rs
    → InOrder types ms (direct n ss) → InOrder types (m ∷ ms) (direct (suc n) (rs ++ ss))
unfolding direct
direct_step {types} {m = m} {ms = ms} n ss w more =
    let step : InOrder types (m ∷ ms) (w.head ∷ direct n (drop (span (w.head ∷ (w.others ++ ss))) (w.head ∷ (w.others ++ ss)))) =
    rw (step_over w ss) (with (record { id = w.named; kind = w.stored; size = w.size }) more) in
    rw w.is step

members_order : {types : List BookType} {s : List ℕ} {ms : List Member} {rs : List Row} → Members types s ms rs → (n : ℕ) → InOrder types ms (direct n rs)
unfolding direct
members_order x zero = none_left
members_order shape.no_member (suc n) = none_left
members_order {types = types} {s = s} (shape.member {m = m} {ms = ms} {ss = ss} shape.absent x) (suc n) = without (members_order {types = types} {s = s} {ms = ms} {rs = ss} x (suc n))
members_order (shape.member {ss = ss} (shape.present v) x) (suc n) = direct_step n ss (value_whole v) (members_order x n)

-- ---- every member's value, and nothing left over

none_direct : (n : ℕ) → direct n [] ≡ []
unfolding direct
none_direct zero = refl
none_direct (suc n) = refl

visit_step : {types : List BookType} {s : List ℕ} {rs : List Row} {m : Member} {ms : List Member} (n : ℕ) (ss : List Row) → Value types s m.type m.id rs
    → ((k : ℕ) → length ss ≤ k → Visits types s ms ss (direct k ss)) → length (rs ++ ss) ≤ n → Visits types s (m ∷ ms) (rs ++ ss) (direct n (rs ++ ss))
unfolding direct
visit_step {rs = rs} zero ss v more h = let w = value_whole v in absurd (omega (arith, simp length-append at h, ap length w.is))
visit_step {types} {s} {rs} {m} {ms} (suc n) ss v more h =
    let w = value_whole v in
    let step : Visits types s (m ∷ ms) (w.head ∷ w.others ++ ss) (w.head ∷ direct n (drop (span (w.head ∷ (w.others ++ ss))) (w.head ∷ (w.others ++ ss)))) =
    rw (step_over w ss) (visits (rw w.is at v) (more n (omega (arith, simp length-append at h, ap length w.is)))) in
    rw w.is step

members_visited : {types : List BookType} {s : List ℕ} {ms : List Member} {rs : List Row} → Members types s ms rs → (n : ℕ) → length rs ≤ n → Visits types s ms rs (direct n rs)
members_visited shape.no_member n h = rw (none_direct n) all_visited
members_visited (shape.member shape.absent x) n h = passes_by (members_visited x n h)
members_visited (shape.member {ss = ss} (shape.present v) x) n h = visit_step n ss v (λ k g. members_visited x k g) h

-- members none of which is there
pub none_held : (types : List BookType) (s : List ℕ) (ms : List Member) → Members types s ms []
none_held types s [] = shape.no_member
none_held types s (m ∷ ms) = shape.member shape.absent (none_held types s ms)

-- a union's rows are those of its members too, all but two of which are absent
one_held : (types : List BookType) (s : List ℕ) (ms : List Member) (m : Member) (rs : List Row) → OneOf m ms → Held types s m rs → Members types s ms rs
one_held types s [] m rs o h = elim o [ ]
one_held types s (x ∷ xs) m rs (Memᴰ.head e) h = rw append-nil at (shape.member (rw e at h) (none_held types s xs))
one_held types s (x ∷ xs) m rs (Memᴰ.tail o) h = shape.member shape.absent (one_held types s xs m rs o h)

beneath_members : {types : List BookType} {s : List ℕ} {t : BookType} {rs : List Row} → Beneath types s t rs → (t.kind ≡ 21 → ⊥) → Members types s t.members rs
beneath_members (shape.enum a b p e f g l) n = absurd (n e)
beneath_members (shape.structure e x) n = x
beneath_members {types} {s} (shape.union {m = m} {others = others} {rs = rs} v e q h d g o x) n = rw q (shape.member h (one_held types s others m rs o x))

-- WHAT IS SAID OF A FINISHED READING'S ROWS, at every depth (each value in the shape is again one of these):
module _ {types : List BookType} {s : List ℕ} {ty id : ℕ} where
  -- b of an opened row is the number of rows beneath it
  pub rows_beneath : {r : Row} {rs : List Row} → Opened types s ty id (r ∷ rs) → r.b ≡ length rs
  rows_beneath (shape.opened p x) = refl

  -- the rows directly under a structure or union each belong to a member of its type, in the type's order and at most once
  pub rows_in_order : {r : Row} {rs : List Row} → Opened types s ty id (r ∷ rs) → ((type_no types ty).kind ≡ 21 → ⊥) → (n : ℕ) → InOrder types (type_no types ty).members (direct n rs)
  rows_in_order (shape.opened p x) e n = members_order (beneath_members x e) n

  -- with as many steps as there are rows beneath it, or more, the walk visits the first row of every member's value, and leaves nothing over
  pub rows_visited : {r : Row} {rs : List Row} → Opened types s ty id (r ∷ rs) → ((type_no types ty).kind ≡ 21 → ⊥) → (n : ℕ) → r.b ≤ n → Visits types s (type_no types ty).members rs (direct n rs)
  rows_visited (shape.opened p x) e n h = members_visited (beneath_members x e) n h

  -- the table can be walked: whatever rows come after a value, its end is found from its own
  pub value_ends : {rs : List Row} → Value types s ty id rs → (more : List Row) → span (rs ++ more) ≡ length rs
  value_ends v more = (value_whole v).ends more
