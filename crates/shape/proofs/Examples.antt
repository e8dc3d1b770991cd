-- What the shape of rows rules out. Assumes nothing.
use Prim.Native.Nat.{ℕ, suc, ◌+◌, ◌-◌, ◌*◌, ◌^◌, ◌≤◌}
use mathlib.Core.Bool.{true, not}
use mathlib.Core.Path.{◌≡◌, refl, sym, ap, ◌∙◌}
use mathlib.Core.List.{List, [], ◌∷◌}
use native.Mathlib.Omega.{arith}
use lib.ListN.{length}
use Rattle.ground.specs.Choice.{every}
use Rattle.ground.proofs.Tests.{apart}
use Rattle.kinds.specs.Kinds.{opens, stored_of, align_of, is_signed}
use Rattle.book.specs.Types.{BookType, Member, no_index, type_no}
use Rattle.table.specs.declared.rows.Row.{Row}
use Rattle.table.specs.Rows.{row}
use Rattle.shape.specs.Range.{is_extended, in_range}
use Rattle.shape.specs.Shape as shape
use Rattle.shape.specs.Shape.{Value, Opened, stored_kind}
use Rattle.shape.specs.Walk.{extent, span, direct, InOrder, none_left, without, with}
use Rattle.shape.proofs.Walking.{rows_beneath, rows_in_order, array_size, sequence_place}
use Rattle.shape.proofs.Flat.{each_row}

abbrev type : ℕ → ℕ → ℕ → List Member → BookType
type kind base element ms = record { kind = kind; extensibility = 0; base = base; bound_flag = 0; bound = 0; element = element; members = ms }

abbrev plain : ℕ → BookType
plain kind = type kind 0 no_index []

-- a member with its id and its type
abbrev member : ℕ → ℕ → Member
member id ty = record { id = id; type = ty; flags = 0; construct = 1; labels = [] }

abbrev members_from : ℕ → List ℕ → List Member
members_from id [] = []
members_from id (ty ∷ tys) = member id ty ∷ members_from (suc id) tys

-- a structure, a union, an enum and a sequence, by the numbers of the types in them
abbrev structure : List ℕ → BookType
structure tys = type 22 0 no_index (members_from 0 tys)

abbrev array : ℕ → ℕ → BookType
array n ty = record { kind = 26; extensibility = 0; base = 0; bound_flag = 1; bound = n; element = ty; members = [] }

abbrev tail : {A : Type 0} → List A → List A
tail [] = []
tail (x ∷ xs) = xs

-- ---- what the shape rules out, for a structure of one INT32 member with id 0

abbrev small : List BookType
small = plain 4 ∷ structure (0 ∷ []) ∷ []

-- a row that tells one row too many beneath it
wrong_count : (s : List ℕ) → Opened small s 1 0 (row 22 0 1 1 0 ∷ []) → ⊥
wrong_count s o = let z : ◌≡◌ {A = ℕ} 1 0 = rows_beneath o in omega arith

-- rows that no member is left for
nothing_left : {types : List BookType} (rs : List Row) {qs : List Row} → InOrder types [] qs → qs ≡ rs → (length rs ≡ 0 → ⊥) → ⊥
nothing_left rs none_left e n = n (ap length (sym e))

-- a member's row twice: the second belongs to no member
twice : (s : List ℕ) (x y : ℕ) → Opened small s 1 0 (row 22 0 1 2 0 ∷ row 4 0 x 0 0 ∷ row 4 0 y 0 0 ∷ []) → ⊥
unfolding direct span extent opens type_no
twice s x y o = go (rows_in_order o (λ e. omega arith) 2) refl
  where
    go : {qs : List Row} → InOrder small (member 0 0 ∷ []) qs → qs ≡ row 4 0 x 0 0 ∷ row 4 0 y 0 0 ∷ [] → ⊥
    go none_left e = let z : ◌≡◌ {A = ℕ} 0 2 = ap length e in omega arith
    go (without more) e = nothing_left (row 4 0 x 0 0 ∷ row 4 0 y 0 0 ∷ []) more e (λ z. omega arith)
    go (with f more) e = nothing_left (row 4 0 y 0 0 ∷ []) more (ap tail e) (λ z. omega arith)

-- a member's row under another stored kind
other_kind : (s : List ℕ) (x : ℕ) → Opened small s 1 0 (row 22 0 1 1 0 ∷ row 8 0 x 0 0 ∷ []) → ⊥
unfolding direct span extent opens type_no stored_kind stored_of
other_kind s x o = go (rows_in_order o (λ e. omega arith) 1) refl
  where
    kind_in : List Row → ℕ
    kind_in [] = 0
    kind_in (r ∷ rs) = r.kind

    go : {qs : List Row} → InOrder small (member 0 0 ∷ []) qs → qs ≡ row 8 0 x 0 0 ∷ [] → ⊥
    go none_left e = let z : ◌≡◌ {A = ℕ} 0 1 = ap length e in omega arith
    go (without more) e = nothing_left (row 8 0 x 0 0 ∷ []) more e (λ z. omega arith)
    go (with f more) e = let z : ◌≡◌ {A = ℕ} 4 8 = sym f.kind ∙ ap kind_in e in omega arith

-- the rows of two members in the other order
out_of_order : (s : List ℕ) (x y : ℕ) → Opened (plain 4 ∷ structure (0 ∷ 0 ∷ []) ∷ []) s 1 0 (row 22 0 1 2 0 ∷ row 4 1 x 0 0 ∷ row 4 0 y 0 0 ∷ []) → ⊥
unfolding direct span extent opens type_no
out_of_order s x y o = go (rows_in_order o (λ e. omega arith) 2) refl
  where
    id_in : List Row → ℕ
    id_in [] = 0
    id_in (r ∷ rs) = r.id

    go : {types : List BookType} {qs : List Row} → InOrder types (member 0 0 ∷ member 1 0 ∷ []) qs → qs ≡ row 4 1 x 0 0 ∷ row 4 0 y 0 0 ∷ [] → ⊥
    go none_left e = let z : ◌≡◌ {A = ℕ} 0 2 = ap length e in omega arith
    go (with f more) e = let z : ◌≡◌ {A = ℕ} 0 1 = sym f.id ∙ ap id_in e in omega arith
    go (without none_left) e = let z : ◌≡◌ {A = ℕ} 0 2 = ap length e in omega arith
    go (without (without more)) e = nothing_left (row 4 1 x 0 0 ∷ row 4 0 y 0 0 ∷ []) more e (λ z. omega arith)
    go (without (with f more)) e = nothing_left (row 4 0 y 0 0 ∷ []) more (ap tail e) (λ z. omega arith)

-- a text that ends one byte past the data
text_outside : (s : List ℕ) → length s ≡ 2 → Opened (plain 16 ∷ structure (0 ∷ []) ∷ []) s 1 0 (row 22 0 1 1 0 ∷ row 16 0 2 1 0 ∷ []) → ⊥
text_outside s e o = let z : 2 + 1 * 1 ≤ length s = (each_row o 1 (omega arith)).text8 refl in omega arith

-- an array of three that tells two elements
short_array : (s : List ℕ) (rs : List Row) → Value (plain 4 ∷ array 3 0 ∷ []) s 1 0 (row 25 0 4 2 0 ∷ rs) → ⊥
unfolding type_no
short_array s rs v = let z : ◌≡◌ {A = ℕ} 2 3 = (array_size v refl).0 in omega arith

-- ---- places

abbrev sequence : ℕ → BookType
sequence ty = type 25 0 ty []

-- a number's, a text's and a sequence's that is one past the data
number_past : (s : List ℕ) (x : ℕ) → length s ≡ 2 → Opened small s 1 0 (row 22 0 1 1 0 ∷ row 4 0 x 0 3 ∷ []) → ⊥
unfolding opens
number_past s x e o = let z : 3 ≤ length s = (each_row o 1 (omega arith)).placed refl (λ k. omega arith) in omega arith

text_past : (s : List ℕ) → length s ≡ 2 → Opened (plain 16 ∷ structure (0 ∷ []) ∷ []) s 1 0 (row 22 0 1 1 0 ∷ row 16 0 2 0 3 ∷ []) → ⊥
unfolding opens
text_past s e o = let z : 3 ≤ length s = (each_row o 1 (omega arith)).placed refl (λ k. omega arith) in omega arith

sequence_past : (s : List ℕ) (n : ℕ) (rs : List Row) → length s ≡ 2 → Value (plain 4 ∷ sequence 0 ∷ []) s 1 0 (row 25 0 4 n 3 ∷ rs) → ⊥
unfolding type_no
sequence_past s n rs e v = let z : 3 ≤ length s = sequence_place v refl in omega arith

-- but a structure's may be, and an array's
structure_past : (s : List ℕ) (p : ℕ) → Opened (structure [] ∷ []) s 0 0 (row 22 0 0 0 p ∷ [])
unfolding type_no
structure_past s p = shape.opened p (shape.structure refl shape.no_member)

array_past : (s : List ℕ) (p : ℕ) → Value (plain 4 ∷ array 0 0 ∷ []) s 1 0 (row 25 0 4 0 p ∷ [])
unfolding type_no stored_kind stored_of
array_past s p = shape.array p refl shape.no_element

-- the ends of each range: BOOLEAN, INT8, INT64, FLOAT32, FLOAT128, UINT8; and a word b that is not 0
ranges : every (λ b. b) (
    in_range 1 1 0
    ∷ not (in_range 1 2 0)
    ∷ in_range 12 127 0
    ∷ not (in_range 12 128 0)
    ∷ not (in_range 12 (2 ^ 64 - 129) 0)
    ∷ in_range 12 (2 ^ 64 - 128) 0
    ∷ in_range 12 (2 ^ 64 - 1) 0
    ∷ not (in_range 12 (2 ^ 64) 0)
    ∷ in_range 5 (2 ^ 64 - 1) 0
    ∷ not (in_range 5 (2 ^ 64) 0)
    ∷ in_range 9 (2 ^ 32 - 1) 0
    ∷ not (in_range 9 (2 ^ 32) 0)
    ∷ in_range 11 (2 ^ 64 - 1) (2 ^ 64 - 1)
    ∷ not (in_range 11 (2 ^ 64) 0)
    ∷ in_range 13 255 0
    ∷ not (in_range 13 256 0)
    ∷ not (in_range 13 255 1)
    ∷ []
    ) ≡ true
unfolding every in_range is_extended is_signed align_of
ranges = refl

-- a BOOLEAN that is neither 0 nor 1
boolean_two : (s : List ℕ) → Opened (plain 1 ∷ structure (0 ∷ []) ∷ []) s 1 0 (row 22 0 1 1 0 ∷ row 1 0 2 0 0 ∷ []) → ⊥
unfolding in_range
boolean_two s o = apart ((each_row o 1 (omega arith)).scalar refl)
