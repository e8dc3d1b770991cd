-- Books as theorems: example 1's book is right and spells its two types; each rule has a smallest book that breaks it alone, and what is told
-- of it; so have each field that breaks two rules and each two neighbouring places, where the earlier is told; and example 1's book cut after
-- each byte. The program `examples` runs the same books, and those at the bounds.
use Prim.Native.Nat.{ℕ, zero, suc, ◌+◌, ◌*◌, ◌/◌, ◌%◌}
use mathlib.Core.Path.{◌≡◌, refl}
use mathlib.Core.Bool.{Bool, true, false, not}
use mathlib.Core.List.{List, [], ◌∷◌, ◌++◌}
use lib.Dec.{eqb, ltb}
use lib.ListN.{length, take, drop, set, replicate}
use Rattle.ground.specs.Choice.{pick, both, every}
use Rattle.book.specs.Types.{Member, BookType, default, bounded, labels_of, member_of, past_member, members_of, type_of, past_type, types_from, types_of, type_count, no_type, type_no}
use Rattle.book.specs.Rules.{size_ok, version_ok, type_count_ok, head_ok, filled, inside_ok, own_size_ok, record_length_ok, kind_ok, extensibility_ok, base_ok, bound_flag_ok, codes_ok, array_bound_ok, bound_ok, bounds_ok, element_ok, member_count_ok, member_kind_ok, some_member_ok, count_ok, own_ok}
use Rattle.book.specs.Rules.{other_id, id_ok, link_ok, flags_ok, construct_ok, label_count_ok, first_of_union, first_id_ok, first_kind_ok, first_default_ok, first_label_ok, member_ok, members_ok, type_ok, record_ok, records_ok, book_ok}
use Rattle.book.specs.declared.fault.Reason.TheVariants.{Head, RecordLength, CodeRange, TypeLink, Bound, MemberList, FirstMember}
use Rattle.std.specs.Prelude.{Ok}
use Rattle.book.specs.Fault.{reason_number, Verdict, fault_word, broken, the_head, unless, ◌then◌, head_fault, own_fault, member_fault, members_fault, record_fault, records_fault, fault_of}

-- THE RULES ONE BY ONE, each asked of the whole book, in reading order
-- a rule of every record, with its number, its bytes and its type
abbrev records : (ℕ → List ℕ → BookType → Bool) → ℕ → ℕ → List ℕ → Bool
records f k zero s = true
records f k (suc n) s = both (f k s (type_of s)) (records f (suc k) n (past_type s))

-- a rule of every member, with those before it
abbrev members : (List Member → Member → Bool) → List Member → List Member → Bool
members f before [] = true
members f before (m ∷ ms) = both (f before m) (members f (before ++ m ∷ []) ms)

-- the bytes after n records
abbrev rest : ℕ → List ℕ → List ℕ
rest zero s = s
rest (suc n) s = rest n (past_type s)

module _ (book : List ℕ) where
  abbrev each : (ℕ → List ℕ → BookType → Bool) → Bool
  each f = records f 0 (type_count book) (drop 7 book)

  abbrev own : (BookType → Bool) → Bool
  own f = each (λ k s t. f t)

  abbrev all : (ℕ → BookType → List Member → Member → Bool) → Bool
  all f = each (λ k s t. members (f k t) [] t.members)

  abbrev first : (Bool → Member → Bool) → Bool
  first f = all (λ k t before m. f (first_of_union t before) m)

  abbrev rules : List Bool
  rules =
      size_ok book
      ∷ version_ok book
      ∷ type_count_ok book
      ∷ each (λ k s t. record_length_ok s)
      ∷ own kind_ok
      ∷ own extensibility_ok
      ∷ own base_ok
      ∷ own bound_flag_ok
      ∷ own array_bound_ok
      ∷ own bound_ok
      ∷ each (λ k s t. element_ok k t)
      ∷ own member_count_ok
      ∷ own member_kind_ok
      ∷ own some_member_ok
      ∷ all (λ k t before m. id_ok before m)
      ∷ first first_id_ok
      ∷ all (λ k t before m. link_ok k t m)
      ∷ first (first_kind_ok (types_of book))
      ∷ all (λ k t before m. flags_ok m)
      ∷ first first_default_ok
      ∷ all (λ k t before m. construct_ok m)
      ∷ all (λ k t before m. label_count_ok m)
      ∷ first first_label_ok
      ∷ eqb (length (rest (type_count book) (drop 7 book))) 0
      ∷ []

-- the test with this number fails, and no other
abbrev alone : ℕ → List Bool → Bool
alone i [] = false
alone zero (v ∷ vs) = both (not v) (every (λ w. w) vs)
alone (suc i) (v ∷ vs) = both v (alone i vs)

-- BOOKS
-- document 01's example 1: INT32, and a structure of one
abbrev example1 : List ℕ
example1 =
    0 ∷ 0 ∷ 0 ∷ 0x2C ∷ 1 ∷ 0 ∷ 2 ∷ 0 ∷ 0x0E ∷ 4 ∷ 0 ∷ 0 ∷ 0 ∷ 0 ∷ 0 ∷ 0 ∷ 0 ∷ 0xFF ∷ 0xFF ∷ 0 ∷ 0
    ∷ 0 ∷ 0x17 ∷ 0x16 ∷ 0 ∷ 0 ∷ 0 ∷ 0 ∷ 0 ∷ 0 ∷ 0 ∷ 0xFF ∷ 0xFF ∷ 0 ∷ 1 ∷ 0 ∷ 0 ∷ 0 ∷ 7 ∷ 0 ∷ 0 ∷ 0 ∷ 1 ∷ 0 ∷ []

-- a u16 below 65,536
abbrev two : ℕ → List ℕ → List ℕ
two n bytes = n / 256 ∷ n % 256 ∷ bytes

-- a book of n types
abbrev book : ℕ → List ℕ → List ℕ
book n bytes = 0 ∷ 0 ∷ two (7 + length bytes) (1 ∷ two n bytes)

-- a record: its kind, both bytes of its element's index, its members
abbrev a_type : ℕ → ℕ → ℕ → List ℕ → List ℕ
a_type kind e count ms = two (14 + length ms) (kind ∷ 0 ∷ 0 ∷ 0 ∷ 0 ∷ 0 ∷ 0 ∷ 0 ∷ e ∷ e ∷ two count ms)

-- a member: its id, both bytes of its type's index, its labels, all 0
abbrev a_member : ℕ → ℕ → ℕ → List ℕ
a_member id t n = 0 ∷ 0 ∷ 0 ∷ id ∷ t ∷ t ∷ 0 ∷ 1 ∷ n ∷ replicate (4 * n) 0

abbrev int32 : List ℕ
int32 = a_type 4 0xFF 0 []

-- these after an INT32
abbrev over : List ℕ → List ℕ
over bytes = book 2 (int32 ++ bytes)

abbrev plain : List ℕ
plain = book 1 int32

abbrev sequence : List ℕ
sequence = over (a_type 25 0 0 [])

abbrev enum : List ℕ
enum = book 1 (a_type 21 0xFF 1 (a_member 0 0xFF 0))

abbrev union : List ℕ
union = over (a_type 23 0xFF 1 (a_member 0 0 0))

-- an ARRAY of bound 0
abbrev array : List ℕ
array = set (set sequence 23 26) 26 1

-- INT32, and a byte after it
abbrev longer : List ℕ
longer = book 1 (int32 ++ 0 ∷ [])

-- a structure of two, with the ids 7 and 8; one whose member, with the id 0, holds a label, and one with 18
abbrev two_members : List ℕ
two_members = over (a_type 22 0xFF 2 (a_member 7 0 0 ++ a_member 8 0 0))

abbrev labelled : List ℕ
labelled = over (a_type 22 0xFF 1 (a_member 0 0 1))

abbrev labels18 : List ℕ
labels18 = over (a_type 22 0xFF 1 (a_member 0 0 18))

-- n times INT32; n members, with the ids n - 1 to 0
abbrev types : ℕ → List ℕ
types zero = []
types (suc n) = int32 ++ types n

abbrev fields : ℕ → List ℕ
fields zero = []
fields (suc n) = a_member n 0 0 ++ fields n

abbrev right : List (List ℕ)
right =
    example1
    ∷ plain
    ∷ sequence
    ∷ enum
    ∷ union
    ∷ set (set sequence 23 26) 26 1
    ∷ over (a_type 22 0xFF 0 [])
    ∷ over (a_type 22 0xFF 64 (fields 64))
    ∷ over (a_type 22 0xFF 1 (a_member 7 0 16))
    ∷ book 64 (types 64)
    ∷ []

data Bad : Type 0 where
  breaks : ℕ → Verdict → List ℕ → Bad

-- a rule's number in `rules`, what is told, and a book that breaks that rule
abbrev bad : List Bad
bad =
    breaks 0 (broken the_head Head) (set plain 3 22)
    ∷ breaks 1 (broken the_head Head) (set plain 4 2)
    ∷ breaks 2 (broken the_head Head) (book 0 [])
    ∷ breaks 2 (broken the_head Head) (book 65 (types 65))
    ∷ breaks 3 (broken 0 RecordLength) (set plain 8 15)
    ∷ breaks 3 (broken 0 RecordLength) (set (book 1 (take 13 int32)) 8 13)
    ∷ breaks 3 (broken 0 RecordLength) (set longer 8 15)
    ∷ breaks 3 (broken 1 RecordLength) (set example1 34 2)
    ∷ breaks 3 (broken 1 RecordLength) (set example1 43 1)
    ∷ breaks 4 (broken 0 CodeRange) (set plain 9 28)
    ∷ breaks 5 (broken 0 CodeRange) (set plain 10 3)
    ∷ breaks 6 (broken 0 CodeRange) (set plain 11 4)
    ∷ breaks 6 (broken 0 CodeRange) (set enum 11 28)
    ∷ breaks 7 (broken 0 CodeRange) (set plain 12 2)
    ∷ breaks 8 (broken 1 Bound) (set sequence 23 26)
    ∷ breaks 9 (broken 0 Bound) (set plain 16 1)
    ∷ breaks 10 (broken 0 TypeLink) (set plain 18 0xFE)
    ∷ breaks 10 (broken 1 TypeLink) (set sequence 32 1)
    ∷ breaks 10 (broken 1 TypeLink) (set (set sequence 31 0xFF) 32 0xFF)
    ∷ breaks 10 (broken 1 TypeLink) (set (set array 31 0xFF) 32 0xFF)
    ∷ breaks 11 (broken 1 MemberList) (over (a_type 22 0xFF 65 (fields 65)))
    ∷ breaks 12 (broken 1 MemberList) (set example1 23 18)
    ∷ breaks 13 (broken 0 MemberList) (set plain 9 21)
    ∷ breaks 13 (broken 0 MemberList) (set plain 9 23)
    ∷ breaks 14 (broken 1 MemberList) (set two_members 47 7)
    ∷ breaks 15 (broken 1 FirstMember) (set union 38 1)
    ∷ breaks 16 (broken 1 TypeLink) (set example1 40 1)
    ∷ breaks 16 (broken 1 TypeLink) (set (set example1 39 0xFF) 40 0xFF)
    ∷ breaks 16 (broken 1 TypeLink) (set example1 23 21)
    ∷ breaks 17 (broken 1 FirstMember) (set union 9 16)
    ∷ breaks 18 (broken 1 CodeRange) (set example1 41 4)
    ∷ breaks 19 (broken 1 FirstMember) (set union 41 2)
    ∷ breaks 20 (broken 1 CodeRange) (set example1 42 3)
    ∷ breaks 21 (broken 1 MemberList) labels18
    ∷ breaks 21 (broken 1 MemberList) (over (a_type 22 0xFF 1 (a_member 0 0 17)))
    ∷ breaks 22 (broken 1 FirstMember) (set labelled 23 23)
    ∷ breaks 23 (broken the_head Head) longer
    ∷ []

-- a book and what is told of it
data Tells : Type 0 where
  tells : Verdict → List ℕ → Tells

-- "where one field breaks two, the earlier reason". A union's first member has none before it, so its id breaks one rule at most
abbrev one_field : List Tells
one_field =
    -- bound flag: 2 of an ARRAY
    tells (broken 1 CodeRange) (set array 26 2)
    -- a union's first: the type its own record, which is a union
    ∷ tells (broken 1 TypeLink) (set union 40 1)
    -- flags 6
    ∷ tells (broken 1 CodeRange) (set union 41 6)
    -- 18 labels
    ∷ tells (broken 1 MemberList) (set labels18 23 23)
    ∷ []

-- "The first broken rule in reading order is told, a record's own bytes before its members": of two neighbouring places that break rules of other
-- reasons the earlier is told, whichever number is less
abbrev neighbours : List Tells
neighbours =
    -- head and a record's length
    tells (broken the_head Head) (set (set plain 4 2) 8 15)
    -- a record's length and its kind
    ∷ tells (broken 0 RecordLength) (set (set plain 8 15) 9 28)
    -- base and bound flag, of an ARRAY without a bound
    ∷ tells (broken 1 CodeRange) (set (set sequence 23 26) 25 4)
    -- bound flag and bound
    ∷ tells (broken 0 CodeRange) (set (set plain 12 2) 16 1)
    -- bound and element
    ∷ tells (broken 0 Bound) (set (set plain 16 1) 18 0xFE)
    -- element and member count
    ∷ tells (broken 0 TypeLink) (set (set plain 18 0xFE) 20 1)
    -- member count and a member that does not fit
    ∷ tells (broken 0 MemberList) (set plain 20 1)
    -- kind and, some places on, a member that does not fit
    ∷ tells (broken 1 CodeRange) (set (set example1 23 28) 34 2)
    -- a record's own bytes and its members
    ∷ tells (broken 1 CodeRange) (set (set example1 24 3) 40 1)
    -- a member that does not fit and its id: two of id 7, the second with a label that is not there; a union's first
    ∷ tells (broken 1 RecordLength) (set (set two_members 47 7) 52 1)
    ∷ tells (broken 1 RecordLength) (set (set union 38 1) 43 1)
    -- id and type
    ∷ tells (broken 1 MemberList) (set (set two_members 47 7) 49 1)
    ∷ tells (broken 1 FirstMember) (set (set union 38 1) 40 1)
    -- type and flags
    ∷ tells (broken 1 TypeLink) (set (set example1 40 1) 41 4)
    ∷ tells (broken 1 FirstMember) (set (set union 9 16) 41 4)
    -- flags and try-construct
    ∷ tells (broken 1 FirstMember) (set (set union 41 2) 42 3)
    -- try-construct and label count
    ∷ tells (broken 1 CodeRange) (set labels18 42 3)
    -- label count and the next member, which does not fit
    ∷ tells (broken 1 MemberList) (set labels18 34 2)
    ∷ tells (broken 1 FirstMember) (set (set labelled 23 23) 34 2)
    -- label count and bytes left in the record
    ∷ tells (broken 1 MemberList) (set labels18 43 17)
    -- a byte left in a record and the next record's length
    ∷ tells (broken 0 RecordLength) (set example1 8 15)
    -- a record and the next
    ∷ tells (broken 0 MemberList) (set (set example1 9 21) 24 3)
    -- the last record and a byte left in the book
    ∷ tells (broken 0 CodeRange) (set longer 9 28)
    ∷ []

-- books that end within the head, and where a record should begin
abbrev short : List Tells
short =
    tells (broken the_head Head) []
    ∷ tells (broken the_head Head) (0 ∷ 0 ∷ 0 ∷ [])
    ∷ tells (broken the_head Head) (0 ∷ 0 ∷ 0 ∷ 4 ∷ [])
    ∷ tells (broken the_head Head) (0 ∷ 0 ∷ 0 ∷ 6 ∷ 1 ∷ 0 ∷ [])
    ∷ tells (broken 0 RecordLength) (book 1 [])
    ∷ tells (broken 0 RecordLength) (book 1 (14 ∷ []))
    ∷ tells (broken 1 RecordLength) (book 2 int32)
    ∷ []

-- example 1's book cut after n bytes: as it is, its length is not the slice's; with its length put right, the record that is cut is told
abbrev cut_told : ℕ → Verdict
cut_told n = pick (ltb n 7) (broken the_head Head) (pick (ltb n 21) (broken 0 RecordLength) (broken 1 RecordLength))

abbrev cuts : ℕ → List Tells
cuts zero = []
cuts (suc n) = tells (broken the_head Head) (take n example1) ∷ tells (cut_told n) (set (take n example1) 3 n) ∷ cuts n

-- what is told is this
abbrev is_told : Verdict → List ℕ → Bool
is_told f b = eqb (fault_word (fault_of b)) (fault_word f)

-- breaks that rule alone, is refused, and is told so
abbrev refused : Bad → Bool
refused (breaks i f b) = both (alone i (rules b)) (both (not (book_ok b)) (is_told f b))

abbrev holds : Tells → Bool
holds (tells f b) = is_told f b

abbrev is_right_book : List ℕ → Bool
is_right_book b = both (book_ok b) (is_told (Ok tt) b)

types1 :
    types_of example1
    ≡ record { kind = 4; extensibility = 0; base = 0; bound_flag = 0; bound = 0; element = 65535; members = [] }
    ∷ record {
      kind = 22;
      extensibility = 0;
      base = 0;
      bound_flag = 0;
      bound = 0;
      element = 65535;
      members = record { id = 7; type = 0; flags = 0; construct = 1; labels = [] } ∷ [];
    }
    ∷ []
unfolding types_of types_from type_of past_type member_of members_of past_member labels_of
types1 = refl

-- THE TABLE
judged : every (λ t. t) (every is_right_book right ∷ every refused bad ∷ every holds one_field ∷ every holds neighbours ∷ every holds short ∷ every holds (cuts 44) ∷ []) ≡ true
unfolding default bounded labels_of member_of past_member members_of type_of past_type types_from types_of no_type type_no size_ok version_ok type_count_ok head_ok filled inside_ok own_size_ok record_length_ok kind_ok extensibility_ok base_ok bound_flag_ok codes_ok array_bound_ok bound_ok bounds_ok element_ok member_count_ok member_kind_ok some_member_ok count_ok own_ok every other_id id_ok link_ok flags_ok construct_ok label_count_ok first_of_union first_id_ok first_kind_ok first_default_ok first_label_ok member_ok members_ok type_ok record_ok records_ok book_ok reason_number fault_word unless ◌then◌ head_fault own_fault member_fault members_fault record_fault records_fault fault_of
judged = refl
