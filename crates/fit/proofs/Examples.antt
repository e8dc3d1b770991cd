-- The check at work: types that it passes, one for each kind; types that fail by one clause alone; chains of 16 and 17; a diamond of 64 records,
-- whose paths no walk could follow one by one; example 1's book. All are computed from the definitions.
use Prim.Native.Nat.{ℕ, zero, suc, ◌-◌}
use mathlib.Core.Path.{◌≡◌, refl}
use mathlib.Core.Bool.{Bool, true, false, not}
use mathlib.Core.List.{List, [], ◌∷◌, ◌++◌}
use lib.ListN.{length}
use Rattle.ground.specs.Choice.{every}
use Rattle.kinds.specs.Kinds.{opens, unsupported_member, unsupported_element, bitmask_stored, stored_by_bound}
use Rattle.book.specs.Types.{BookType, Member, no_index, optional, default, bounded, labels_of, member_of, past_member, members_of, type_of, past_type, types_from, types_of, no_type, type_no}
use Rattle.book.specs.Rules.{size_ok, version_ok, type_count_ok, head_ok, filled, inside_ok, own_size_ok, record_length_ok, kind_ok, extensibility_ok, base_ok, bound_flag_ok, codes_ok, array_bound_ok, bound_ok, element_ok, member_count_ok, member_kind_ok, some_member_ok, own_ok, bounds_ok, count_ok}
use Rattle.book.specs.Rules.{other_id, id_ok, link_ok, flags_ok, construct_ok, label_count_ok, first_of_union, first_id_ok, first_kind_ok, first_default_ok, first_label_ok, member_ok, members_ok, type_ok, record_ok, records_ok, book_ok}
use Rattle.book.specs.Fault.{reason_number, fault_number, unless, ◌then◌, head_fault, fault_of}
use Rattle.book.specs.Asked.{is_mutable, is_structure}
use Rattle.fit.specs.Fit.{member_types, links_of, member_supported, members_supported, element_supported, base_supported, chooses, first_chooses, discriminator_fits, check_clauses, meets}
use Rattle.fit.specs.Ids.{required, has_headers, ids_fit, clauses_for}
use Rattle.fit.specs.Check.{check_of}
use Rattle.fit.specs.Code.Check.{longest_from, with_own, chain_of, chains_of, fits}

-- ---- types to try

abbrev type : ℕ → ℕ → ℕ → List Member → BookType
type kind base element ms = record { kind = kind; extensibility = 0; base = base; bound_flag = 0; bound = 0; element = element; members = ms }

abbrev plain : ℕ → BookType
plain kind = type kind 0 no_index []

-- a member with its id and its type
abbrev member : ℕ → ℕ → Member
member id ty = record { id = id; type = ty; flags = 0; construct = 1; labels = [] }

abbrev members_from : ℕ → List ℕ → List Member
members_from id [] = []
members_from id (ty ∷ tys) = member id ty ∷ members_from (suc id) tys

-- a structure, a union, an enum and a sequence, by the numbers of the types in them
abbrev structure : List ℕ → BookType
structure tys = type 22 0 no_index (members_from 0 tys)

abbrev union : List ℕ → BookType
union tys = type 23 0 no_index (members_from 0 tys)

abbrev enum : ℕ → BookType
enum base = type 21 base no_index (member 0 no_index ∷ [])

abbrev sequence : ℕ → BookType
sequence ty = type 25 0 ty []

abbrev array : ℕ → ℕ → BookType
array n ty = record { kind = 26; extensibility = 0; base = 0; bound_flag = 1; bound = n; element = ty; members = [] }

abbrev bitmask : ℕ → BookType
bitmask n = record { kind = 19; extensibility = 0; base = 0; bound_flag = 1; bound = n; element = no_index; members = [] }

-- the last type of a book as the root
abbrev fits_last : List BookType → Bool
fits_last types = fits check_clauses types (length types - 1)

abbrev map : {A : Type 0} → (ℕ → A) → List ℕ → List A
map f [] = []
map f (x ∷ xs) = f x ∷ map f xs

-- ---- types that pass

-- a member of each kind: NONE, numbers, texts, a bitmask, an enum, a structure, a union, a sequence, an array
abbrev passing : List (List BookType)
passing =
    map (λ k. plain k ∷ structure (0 ∷ []) ∷ []) (0 ∷ 1 ∷ 2 ∷ 3 ∷ 4 ∷ 5 ∷ 6 ∷ 7 ∷ 8 ∷ 9 ∷ 10 ∷ 11 ∷ 12 ∷ 13 ∷ 14 ∷ 16 ∷ 17 ∷ 19 ∷ [])
    ++ map (λ base. enum base ∷ []) (3 ∷ 4 ∷ 12 ∷ [])
    ++ map (λ k. plain k ∷ union (0 ∷ 0 ∷ []) ∷ []) (2 ∷ 3 ∷ 4 ∷ 6 ∷ 7 ∷ 12 ∷ 13 ∷ 19 ∷ [])
    ++ map (λ n. bitmask n ∷ union (0 ∷ []) ∷ []) (1 ∷ 8 ∷ 9 ∷ 16 ∷ 17 ∷ 32 ∷ [])
    ++ map (λ k. plain k ∷ sequence 0 ∷ array 3 0 ∷ structure (1 ∷ 2 ∷ []) ∷ []) (1 ∷ 2 ∷ 11 ∷ 14 ∷ 16 ∷ 17 ∷ 19 ∷ [])
    ++ (enum 4 ∷ union (0 ∷ 0 ∷ []) ∷ sequence 1 ∷ structure (0 ∷ 1 ∷ 2 ∷ []) ∷ [])
    ∷ (structure [] ∷ [])
    ∷ []

-- ---- types that fail, each by one clause alone

abbrev failing : List (List BookType)
failing =
    -- "root kind is 21 to 23"
    map (λ k. plain k ∷ []) (0 ∷ 4 ∷ 16 ∷ 19 ∷ [])
    ++ (plain 4 ∷ sequence 0 ∷ [])
    -- "11: member kinds 15, 18, 20, 24, 27"
    ∷ map (λ k. plain k ∷ structure (0 ∷ []) ∷ []) (15 ∷ 18 ∷ 20 ∷ 24 ∷ 27 ∷ [])
    -- "element kinds 0, 15, 18, 20, 24 to 27, even for 0 elements"
    ++ map (λ k. plain k ∷ array 0 0 ∷ structure (1 ∷ []) ∷ []) (0 ∷ 15 ∷ 18 ∷ 20 ∷ 24 ∷ 27 ∷ [])
    ++ (plain 4 ∷ sequence 0 ∷ sequence 1 ∷ structure (2 ∷ []) ∷ [])
    -- "enum base not 3, 4, 12"
    ∷ map (λ base. enum base ∷ []) (0 ∷ 1 ∷ 2 ∷ 5 ∷ 6 ∷ 7 ∷ 8 ∷ 13 ∷ 27 ∷ [])
    -- "union discriminators are .."
    ++ map (λ k. plain k ∷ union (0 ∷ []) ∷ []) (1 ∷ 5 ∷ 8 ∷ 9 ∷ 10 ∷ 11 ∷ 14 ∷ [])
    ++ map (λ n. bitmask n ∷ union (0 ∷ []) ∷ []) (0 ∷ 33 ∷ 64 ∷ [])
    -- what is reached by way of a list
    ++ (enum 5 ∷ sequence 0 ∷ structure (1 ∷ []) ∷ [])
    ∷ (plain 18 ∷ structure (0 ∷ []) ∷ array 2 1 ∷ structure (2 ∷ []) ∷ [])
    ∷ []

-- ---- chains

-- n structures, each with a member of the type before it
abbrev nested_in : ℕ → ℕ → List BookType
nested_in k zero = []
nested_in k (suc n) = structure (k ∷ []) ∷ nested_in (suc k) n

-- n times a sequence of the type before it, and a structure with that sequence
abbrev listed_in : ℕ → ℕ → List BookType
listed_in k zero = []
listed_in k (suc n) = sequence k ∷ structure (suc k ∷ []) ∷ listed_in (suc (suc k)) n

-- a diamond: 15 rows of four structures, each with a member of all four in the row below: 4 ^ 15 paths to a number
abbrev rows_on : ℕ → ℕ → List BookType
rows_on k zero = []
rows_on k (suc n) =
    let one = structure (k ∷ suc k ∷ suc (suc k) ∷ suc (suc (suc k)) ∷ []) in
    one ∷ one ∷ one ∷ one ∷ rows_on (suc (suc (suc (suc k)))) n

abbrev diamond : List BookType
diamond = plain 4 ∷ plain 4 ∷ plain 4 ∷ plain 4 ∷ rows_on 0 15

-- ---- all of them

abbrev fails_last : List BookType → Bool
fails_last types = not (fits_last types)

abbrev examples : List Bool
examples =
    every fits_last passing
    ∷ every fails_last failing
    -- what is unfit and not reached does no harm
    ∷ fits check_clauses (enum 5 ∷ plain 15 ∷ plain 4 ∷ structure (2 ∷ []) ∷ []) 3
    -- a chain of 16 passes, of 17 fails; an enum is counted, and a list is not
    ∷ fits_last (enum 4 ∷ nested_in 0 15)
    ∷ fails_last (enum 4 ∷ nested_in 0 16)
    ∷ fits_last (structure [] ∷ listed_in 0 15)
    ∷ fails_last (structure [] ∷ listed_in 0 16)
    ∷ fits_last diamond
    ∷ []

each_holds : every (λ b. b) examples ≡ true
unfolding fits chains_of chain_of with_own longest_from meets check_clauses member_types links_of member_supported members_supported element_supported base_supported chooses first_chooses discriminator_fits opens unsupported_member unsupported_element bitmask_stored stored_by_bound bounded every type_no no_type
each_holds = refl

-- ---- example 1's book, as bytes: a head fault, BadRoot, Unfit, passes

abbrev book1 : List ℕ
book1 =
    0 ∷ 0 ∷ 0 ∷ 0x2C ∷ 1 ∷ 0 ∷ 2 ∷ 0 ∷ 0x0E ∷ 4 ∷ 0 ∷ 0 ∷ 0 ∷ 0 ∷ 0 ∷ 0 ∷ 0 ∷ 0xFF ∷ 0xFF ∷ 0 ∷ 0
    ∷ 0 ∷ 0x17 ∷ 0x16 ∷ 0 ∷ 0 ∷ 0 ∷ 0 ∷ 0 ∷ 0 ∷ 0 ∷ 0xFF ∷ 0xFF ∷ 0 ∷ 1 ∷ 0 ∷ 0 ∷ 0 ∷ 7 ∷ 0 ∷ 0 ∷ 0 ∷ 1 ∷ 0 ∷ []

answers : map (λ root. check_of book1 root false) (0 ∷ 1 ∷ 2 ∷ []) ++ check_of [] 0 false ∷ [] ≡ 16 ∷ 0 ∷ 9 ∷ 17 ∷ []
unfolding check_of clauses_for ids_fit has_headers required optional is_mutable is_structure fits chains_of chain_of with_own longest_from meets check_clauses member_types links_of member_supported members_supported element_supported base_supported chooses first_chooses discriminator_fits opens unsupported_member unsupported_element bitmask_stored stored_by_bound bounded every type_no no_type labels_of member_of past_member members_of type_of past_type types_from types_of default size_ok version_ok type_count_ok head_ok filled inside_ok own_size_ok record_length_ok kind_ok extensibility_ok base_ok bound_flag_ok codes_ok array_bound_ok bound_ok bounds_ok element_ok member_count_ok member_kind_ok some_member_ok count_ok own_ok other_id id_ok link_ok flags_ok construct_ok label_count_ok first_of_union first_id_ok first_kind_ok first_default_ok first_label_ok member_ok members_ok type_ok record_ok records_ok book_ok fault_of head_fault unless ◌then◌ fault_number reason_number
answers = refl
