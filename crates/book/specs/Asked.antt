-- What a type says of how its values are read: what is asked of it again and again.
use Rattle.std.specs.Prelude.{ℕ, Bool, List, [], ◌∷◌, eqb}
use Rattle.ground.specs.Choice.{pick, among}
use Rattle.kinds.specs.Kinds.{is_primitive, bitmask_stored}
use Rattle.book.specs.Types.{BookType, bounded, type_no}

-- "0 Final, 1 Appendable, 2 Mutable"
unfoldable pub is_mutable : BookType → Bool
is_mutable t = eqb t.extensibility 2

-- "22 STRUCTURE", where it is no enum and else a union
unfoldable pub is_structure : BookType → Bool
is_structure t = eqb t.kind 22

-- "XCDR2 Appendable structures and unions read a DHEADER first", "Mutable structures and unions read a DHEADER first"
unfoldable pub is_delimited : BookType → Bool
is_delimited t = among (1 ∷ 2 ∷ []) t.extensibility

-- "A bitmask is 13, 6, 7 or 8 by bound": it is read as the kind that it is stored as
unfoldable pub read_as : BookType → ℕ
read_as t = pick (eqb t.kind 19) (bitmask_stored (bounded t) t.bound) t.kind

-- "25 SEQUENCE"
unfoldable pub is_sequence : BookType → Bool
is_sequence t = eqb t.kind 25

-- "Lists of non-primitives (ENUM and BITMASK count so) have a DHEADER in XCDR2; arrays too. CHAR16 counts as primitive."
unfoldable pub primitive_element : List BookType → BookType → Bool
primitive_element types t = is_primitive (type_no types t.element).kind
