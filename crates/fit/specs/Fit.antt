-- THE DESCRIPTION OF A TYPE THAT THE CHECK PASSES: document 01's paragraph "The type check", clause by clause, over the types of a book.
-- "Over the root and all that members and elements reach from it, passes exactly when: root kind is 21 to 23; nothing meets the list for 11;
-- union discriminators are 2, 3, 4, 6, 7, 12, 13, 21 or bitmasks stored as 13, 6 or 7; and the longest chain of structures, enums and
-- unions is at most 16."
use Rattle.std.specs.Prelude.{ℕ, suc, ◌≤◌, ◌≡◌, Bool, true, false, not, ◌||◌, List, [], ◌∷◌, eqb}
use Rattle.ground.specs.Choice.{pick, both, every, among}
use Rattle.kinds.specs.Kinds.{opens, unsupported_member, unsupported_element, bitmask_stored}
use Rattle.book.specs.Types.{BookType, Member, bounded, type_no}
use Rattle.book.specs.Rules.{is_enum, is_union, is_list}
use Rattle.shape.specs.Shape.{OneOf}

-- ---- what is reached

unfoldable pub member_types : List Member → List ℕ
member_types [] = []
member_types (m ∷ ms) = m.type ∷ member_types ms

-- the types that a type's members and its element have; "enum members have type 65,535", none
unfoldable pub links_of : BookType → List ℕ
links_of t = pick (is_list t) (t.element ∷ []) (pick (is_enum t) [] (member_types t.members))

-- "the root and all that members and elements reach from it"
pub data Reach (types : List BookType) : ℕ → ℕ → Type 0 where
  here : {k : ℕ} → Reach types k k
  there : {k next far : ℕ} → OneOf next (links_of (type_no types k)) → Reach types next far → Reach types k far

-- ---- what is asked of each type that is reached

-- a clause asks something of one type among the types of a book
abbrev pub Clause : Type 0
Clause = List BookType → BookType → Bool

-- "11: member kinds 15, 18, 20, 24, 27"
unfoldable pub member_supported : List BookType → Member → Bool
member_supported types m = not (unsupported_member (type_no types m.type).kind)

-- .. asked of each member; enum members have no type
unfoldable pub members_supported : Clause
members_supported types t = pick (is_enum t) true (every (member_supported types) t.members)

-- "element kinds 0, 15, 18, 20, 24 to 27, even for 0 elements"
unfoldable pub element_supported : Clause
element_supported types t = pick (is_list t) (not (unsupported_element (type_no types t.element).kind)) true

-- "enum base not 3, 4, 12"
unfoldable pub base_supported : Clause
base_supported types t = pick (is_enum t) (among (3 ∷ 4 ∷ 12 ∷ []) t.base) true

-- "union discriminators are 2, 3, 4, 6, 7, 12, 13, 21 or bitmasks stored as 13, 6 or 7"
unfoldable pub chooses : BookType → Bool
chooses t =
    among (2 ∷ 3 ∷ 4 ∷ 6 ∷ 7 ∷ 12 ∷ 13 ∷ 21 ∷ []) t.kind
    || both (eqb t.kind 19) (among (13 ∷ 6 ∷ 7 ∷ []) (bitmask_stored (bounded t) t.bound))

-- a union's first member is its discriminator
unfoldable pub first_chooses : List BookType → List Member → Bool
first_chooses types [] = false
first_chooses types (m ∷ ms) = chooses (type_no types m.type)

-- .. asked of unions alone
unfoldable pub discriminator_fits : Clause
discriminator_fits types t = pick (is_union t) (first_chooses types t.members) true

-- THE CLAUSES OF THE CHECK. "nothing meets the list for 11": members, elements, enum bases; "union discriminators are .."
unfoldable pub check_clauses : List Clause
check_clauses = members_supported ∷ element_supported ∷ base_supported ∷ discriminator_fits ∷ []

-- a type meets every one of these clauses
unfoldable pub meets : List Clause → Clause
meets clauses types t = every (λ clause. clause types t) clauses

-- ---- chains

-- a chain of n structures, enums and unions, from a type on, each reached from the one before it. A list is no link of a chain, and is passed
-- through; that a structure or union may be passed through too only makes chains that leave it out, and none that is longer
pub data Chain (types : List BookType) : ℕ → ℕ → Type 0 where
  last : {k : ℕ} → opens (type_no types k).kind ≡ true → Chain types k 1
  opened : {k next n : ℕ} → opens (type_no types k).kind ≡ true → OneOf next (links_of (type_no types k)) → Chain types next n → Chain types k (suc n)
  passed : {k next n : ℕ} → OneOf next (links_of (type_no types k)) → Chain types next n → Chain types k n

-- ---- the description

-- a type from which nothing is reached that fails one of the clauses, and no chain is longer than this
pub record Fit (clauses : List Clause) (types : List BookType) (longest ty : ℕ) : Type 0 where
  -- "Over the root and all that members and elements reach from it"
  pub each : (k : ℕ) → Reach types ty k → meets clauses types (type_no types k) ≡ true
  -- "the longest chain of structures, enums and unions is at most .."
  pub chains : (n : ℕ) → Chain types ty n → n ≤ longest

-- A ROOT PASSES by these clauses: the type check's are `check_clauses`. Another check has its own list, and the proofs take any
pub record Passes (clauses : List Clause) (types : List BookType) (root : ℕ) : Type 0 where
  -- "root kind is 21 to 23"
  pub kind : opens (type_no types root).kind ≡ true
  -- ".. is at most 16"
  pub fit : Fit clauses types 16 root
