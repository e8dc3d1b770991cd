-- The rules of a book, document 01's section "Type book", in reading order: the head; of each record its length, its own bytes field by
-- field, then its members field by field; and last that nothing is left. Each rule is one definition. A rule is a test of the types as
-- data; only the head's and the lengths' look at bytes. What no rule names is allowed.
use Rattle.std.specs.Prelude.{ℕ, zero, suc, ◌+◌, ◌-◌, ◌*◌, List, [], ◌∷◌, ◌++◌, Bool, true, not, ◌&&◌, ◌||◌, length, drop, eqb, ltb, leb}
use Rattle.ground.specs.Choice.{pick, both, every, ◌‥◌, within}
use Rattle.book.specs.Types.{Member, BookType, default, bounded, no_index, byte, pair, quad, type_count, type_of, past_type, types_of, type_no}

-- The kinds that rules name
abbrev pub is_enum : BookType → Bool
is_enum t = eqb t.kind 21

abbrev pub is_union : BookType → Bool
is_union t = eqb t.kind 23

abbrev pub is_array : BookType → Bool
is_array t = eqb t.kind 26

abbrev pub is_list : BookType → Bool
is_list t = eqb t.kind 25 || is_array t

-- THE HEAD
-- "length u32 of the whole book (equal to the slice, at most 65,536)"
unfoldable pub size_ok : List ℕ → Bool
size_ok book = eqb (quad book 0) (length book) && leb (length book) 65536

-- "version 1"
unfoldable pub version_ok : List ℕ → Bool
version_ok book = eqb (byte book 4) 1

-- "type count u16 (1 to 64)"
unfoldable pub type_count_ok : List ℕ → Bool
type_count_ok book = within (1 ‥ 64) (type_count book)

unfoldable pub head_ok : List ℕ → Bool
head_ok book = size_ok book && version_ok book && type_count_ok book

-- A RECORD'S LENGTH
-- the bytes of a member: "id u32, type u16, flags u8 .., try-construct u8 .., label count u8 .., labels i32"
abbrev pub member_size : Member → ℕ
member_size m = 9 + 4 * length m.labels

-- the members take these bytes, and exactly these
unfoldable pub filled : List Member → ℕ → Bool
filled [] room = eqb room 0
filled (m ∷ ms) room = both (leb (member_size m) room) (filled ms (room - member_size m))

-- "A record: its whole length u16 (these two bytes counted)": it lies in the book
unfoldable pub inside_ok : List ℕ → Bool
inside_ok s = leb (pair s 0) (length s)

-- it holds the 14 bytes of its own
unfoldable pub own_size_ok : List ℕ → Bool
own_size_ok s = leb 14 (pair s 0)

-- and its members fill the rest
unfoldable pub record_length_ok : List ℕ → Bool
record_length_ok s = both (inside_ok s) (both (own_size_ok s) (filled (type_of s).members (pair s 0 - 14)))

-- A RECORD'S OWN BYTES: CODES
-- "Kinds: 0 NONE, .., 27 MAP. A code or flag not listed breaks the book."
unfoldable pub kind_ok : BookType → Bool
kind_ok t = leb t.kind 27

-- "extensibility u8 (0 Final, 1 Appendable, 2 Mutable)"
unfoldable pub extensibility_ok : BookType → Bool
extensibility_ok t = leb t.extensibility 2

-- "Base is at most 27, and 0 outside ENUM."
unfoldable pub base_ok : BookType → Bool
base_ok t = leb t.base 27 && (eqb t.base 0 || is_enum t)

-- "bound flag u8 (0/1)"
unfoldable pub bound_flag_ok : BookType → Bool
bound_flag_ok t = leb t.bound_flag 1

unfoldable pub codes_ok : BookType → Bool
codes_ok t = kind_ok t && extensibility_ok t && base_ok t && bound_flag_ok t

-- THE BOUND
-- "26 has a bound."
unfoldable pub array_bound_ok : BookType → Bool
array_bound_ok t = not (is_array t) || bounded t

-- "Bound is 0 where its flag is 0."
unfoldable pub bound_ok : BookType → Bool
bound_ok t = bounded t || eqb t.bound 0

unfoldable pub bounds_ok : BookType → Bool
bounds_ok t = array_bound_ok t && bound_ok t

-- THE ELEMENT
-- "type indexes are below their own record's; 65,535 means none. Exactly 25 and 26 have an element"
unfoldable pub element_ok : ℕ → BookType → Bool
element_ok k t = pick (is_list t) (ltb t.element k) (eqb t.element no_index)

-- THE MEMBER COUNT
-- "member count u16 (at most 64)"
unfoldable pub member_count_ok : BookType → Bool
member_count_ok t = leb (length t.members) 64

-- "Only 21 to 23 have members"
unfoldable pub member_kind_ok : BookType → Bool
member_kind_ok t = eqb (length t.members) 0 || within (21 ‥ 23) t.kind

-- "An enum has a member, and so has a union"
unfoldable pub some_member_ok : BookType → Bool
some_member_ok t = not (is_enum t || is_union t) || leb 1 (length t.members)

unfoldable pub count_ok : BookType → Bool
count_ok t = member_count_ok t && member_kind_ok t && some_member_ok t

-- the own bytes of record k
unfoldable pub own_ok : ℕ → BookType → Bool
own_ok k t = codes_ok t && bounds_ok t && element_ok k t && count_ok t

-- A MEMBER, of type t, record k, with those before it
unfoldable pub other_id : ℕ → Member → Bool
other_id id m = not (eqb m.id id)

-- "Ids differ within a type."
unfoldable pub id_ok : List Member → Member → Bool
id_ok before m = every (other_id m.id) before

-- "type indexes are below their own record's; 65,535 means none." "enum members have type 65,535, others a real one."
unfoldable pub link_ok : ℕ → BookType → Member → Bool
link_ok k t m = pick (is_enum t) (eqb m.type no_index) (ltb m.type k)

-- "flags u8 (1 optional, 2 default label)"
unfoldable pub flags_ok : Member → Bool
flags_ok m = leb m.flags 3

-- "try-construct u8 (0 UseDefault, 1 Discard, 2 Trim)"
unfoldable pub construct_ok : Member → Bool
construct_ok m = leb m.construct 2

-- "label count u8 (at most 16)"
unfoldable pub label_count_ok : Member → Bool
label_count_ok m = leb (length m.labels) 16

-- "a union, whose first has id 0, no label, no default flag, and a type of kind 1 to 15, 19 or 21": four rules, asked of that member alone
unfoldable pub first_of_union : BookType → List Member → Bool
first_of_union t before = is_union t && eqb (length before) 0

-- "id 0"
unfoldable pub first_id_ok : Bool → Member → Bool
first_id_ok first m = not first || eqb m.id 0

-- "a type of kind 1 to 15, 19 or 21"
unfoldable pub first_kind_ok : List BookType → Bool → Member → Bool
first_kind_ok types first m =
    let kind = (type_no types m.type).kind in
    not first || (within (1 ‥ 15) kind || eqb kind 19 || eqb kind 21)

-- "no default flag"
unfoldable pub first_default_ok : Bool → Member → Bool
first_default_ok first m = not first || not (default m)

-- "no label"
unfoldable pub first_label_ok : Bool → Member → Bool
first_label_ok first m = not first || eqb (length m.labels) 0

-- a member's bytes, field by field: id, type, flags, try-construct, label count
unfoldable pub member_ok : List BookType → ℕ → BookType → List Member → Member → Bool
member_ok types k t before m =
    let first = first_of_union t before in
    (id_ok before m && first_id_ok first m) && (link_ok k t m && first_kind_ok types first m) && (flags_ok m && first_default_ok first m)
    && construct_ok m
    && (label_count_ok m && first_label_ok first m)

unfoldable pub members_ok : List BookType → ℕ → BookType → List Member → List Member → Bool
members_ok types k t before [] = true
members_ok types k t before (m ∷ ms) = both (member_ok types k t before m) (members_ok types k t (before ++ m ∷ []) ms)

-- TYPE k OF ALL: its own bytes before its members
unfoldable pub type_ok : List BookType → ℕ → BookType → Bool
type_ok types k t = both (own_ok k t) (members_ok types k t [] t.members)

-- the record of type k, which s starts with
unfoldable pub record_ok : List BookType → ℕ → List ℕ → Bool
record_ok types k s = both (record_length_ok s) (type_ok types k (type_of s))

-- "records that fill it exactly": n records from number k on, and nothing after them
unfoldable pub records_ok : List BookType → ℕ → ℕ → List ℕ → Bool
records_ok types k zero s = eqb (length s) 0
records_ok types k (suc n) s = both (record_ok types k s) (records_ok types (suc k) n (past_type s))

-- A BOOK
unfoldable pub book_ok : List ℕ → Bool
book_ok book = both (head_ok book) (records_ok (types_of book) 0 (type_count book) (drop 7 book))
