-- The check of ids at work, for any encoding and for XCDR2 only: what each type answers, computed from the definitions.
use Prim.Native.Nat.{ℕ, ◌+◌, ◌-◌}
use mathlib.Core.Path.{◌≡◌, refl}
use mathlib.Core.Bool.{Bool, true, false}
use mathlib.Core.List.{List, [], ◌∷◌}
use lib.Dec.{eqb}
use lib.ListN.{length}
use Rattle.ground.specs.Choice.{pick, every}
use Rattle.kinds.specs.Kinds.{opens, unsupported_member, unsupported_element, bitmask_stored, stored_by_bound}
use Rattle.book.specs.Types.{BookType, Member, no_index, optional, default, bounded, labels_of, member_of, past_member, members_of, type_of, past_type, types_from, types_of, no_type, type_no}
use Rattle.book.specs.Rules.{size_ok, version_ok, type_count_ok, head_ok, filled, inside_ok, own_size_ok, record_length_ok, kind_ok, extensibility_ok, base_ok, bound_flag_ok, codes_ok, array_bound_ok, bound_ok, element_ok, member_count_ok, member_kind_ok, some_member_ok, own_ok, bounds_ok, count_ok}
use Rattle.book.specs.Rules.{other_id, id_ok, link_ok, flags_ok, construct_ok, label_count_ok, first_of_union, first_id_ok, first_kind_ok, first_default_ok, first_label_ok, member_ok, members_ok, type_ok, record_ok, records_ok, book_ok}
use Rattle.book.specs.Asked.{is_mutable, is_structure}
use Rattle.fit.specs.Fit.{member_types, links_of, member_supported, members_supported, element_supported, base_supported, chooses, first_chooses, discriminator_fits, check_clauses, meets}
use Rattle.fit.specs.Ids.{required, has_headers, id_fits, other_low, low_differ, ids_fit, clauses_for}
use Rattle.fit.specs.Check.{check_of}
use Rattle.fit.specs.Code.Check.{longest_from, with_own, chain_of, chains_of, fits}

-- ---- types to try: type 0 is an INT32, and members are of type 0

-- kind, extensibility, enum base, element, members
abbrev type : ℕ → ℕ → ℕ → ℕ → List Member → BookType
type kind ext base element ms = record { kind = kind; extensibility = ext; base = base; bound_flag = 0; bound = 0; element = element; members = ms }

abbrev int32 : BookType
int32 = type 4 0 0 no_index []

abbrev member : ℕ → ℕ → ℕ → Member
member id ty flags = record { id = id; type = ty; flags = flags; construct = 1; labels = [] }

abbrev plain : List ℕ → List Member
plain [] = []
plain (id ∷ ids) = member id 0 0 ∷ plain ids

abbrev final : ℕ
final = 0

abbrev appendable : ℕ
appendable = 1

abbrev mutable : ℕ
mutable = 2

abbrev structure : ℕ → List Member → BookType
structure ext ms = type 22 ext 0 no_index ms

abbrev union : ℕ → List Member → BookType
union ext ms = type 23 ext 0 no_index ms

-- a structure whose one member is of this type
abbrev holder : ℕ → BookType
holder ty = structure final (member 1 ty 0 ∷ [])

abbrev sequence : ℕ → BookType
sequence ty = type 25 0 0 ty []

abbrev array : ℕ → BookType
array ty = record { kind = 26; extensibility = 0; base = 0; bound_flag = 1; bound = 3; element = ty; members = [] }

-- literals, which have no type
abbrev enum : List Member → BookType
enum ms = type 21 mutable 4 no_index ms

-- ---- the table

-- the last type is the root: what the check says of it
abbrev says : Bool → List BookType → ℕ → Bool
says only types number = eqb (pick (fits (clauses_for only) types (length types - 1)) 0 16) number

-- a structure of this extensibility with members of these ids
abbrev of_ids : Bool → ℕ → List ℕ → ℕ → Bool
of_ids only ext ids number = says only (int32 ∷ structure ext (plain ids) ∷ []) number

abbrev any : Bool
any = false

abbrev xcdr2 : Bool
xcdr2 = true

abbrev alike : List Member
alike = plain (5 ∷ 65541 ∷ [])

abbrev table : List Bool
table =
    -- the site's type, and one that differs
    of_ids any mutable (5 ∷ 65541 ∷ []) 16
    ∷ of_ids any mutable (5 ∷ 6 ∷ []) 0
    -- two that do not stand side by side
    ∷ of_ids any mutable (5 ∷ 6 ∷ 7 ∷ 65542 ∷ []) 16
    -- the greatest
    ∷ of_ids any mutable (16383 ∷ []) 0
    ∷ of_ids any mutable (16384 ∷ []) 16
    ∷ of_ids any mutable ((65536 + 16383) ∷ []) 0
    ∷ of_ids any mutable ((65536 + 16384) ∷ []) 16
    ∷ of_ids any mutable (0x3F02 ∷ []) 0
    ∷ of_ids any mutable ((268435456 + 5) ∷ []) 0
    -- Final and Appendable types without optional members: whatever the ids
    ∷ of_ids any final (5 ∷ 65541 ∷ []) 0
    ∷ of_ids any final (16384 ∷ 268435456 ∷ []) 0
    ∷ of_ids any appendable (5 ∷ 65541 ∷ 16384 ∷ []) 0
    ∷ of_ids xcdr2 final (268435456 ∷ []) 0
    -- with one optional member: it itself, or any other
    ∷ says any (int32 ∷ structure final (member 5 0 1 ∷ member 65541 0 0 ∷ []) ∷ []) 16
    ∷ says any (int32 ∷ structure final (member 5 0 0 ∷ member 65541 0 0 ∷ member 7 0 1 ∷ []) ∷ []) 16
    ∷ says any (int32 ∷ structure appendable (member 16384 0 0 ∷ member 7 0 1 ∷ []) ∷ []) 16
    ∷ says any (int32 ∷ structure final (member 5 0 0 ∷ member 7 0 1 ∷ []) ∷ []) 0
    ∷ says xcdr2 (int32 ∷ structure final (member 268435456 0 0 ∷ member 7 0 1 ∷ []) ∷ []) 16
    -- in a type that is not reached
    ∷ says any (int32 ∷ structure mutable alike ∷ holder 0 ∷ []) 0
    -- XCDR2 only
    ∷ of_ids xcdr2 mutable (268435455 ∷ []) 0
    ∷ of_ids xcdr2 mutable (268435456 ∷ []) 16
    ∷ of_ids xcdr2 mutable (5 ∷ 65541 ∷ []) 0
    ∷ of_ids xcdr2 mutable (5 ∷ 16384 ∷ []) 0
    -- an enum's literals, whose low bits are alike
    ∷ says any (enum (member 5 no_index 0 ∷ member 65541 no_index 1 ∷ []) ∷ []) 0
    ∷ says xcdr2 (enum (member 5 no_index 0 ∷ member 268435456 no_index 1 ∷ []) ∷ []) 0
    -- unions, their discriminator's flag too
    ∷ says any (int32 ∷ union mutable (plain (0 ∷ 5 ∷ 65541 ∷ [])) ∷ []) 16
    ∷ says any (int32 ∷ union mutable (plain (0 ∷ 65536 ∷ [])) ∷ []) 16
    ∷ says any (int32 ∷ union mutable (plain (0 ∷ 5 ∷ 6 ∷ [])) ∷ []) 0
    ∷ says any (int32 ∷ union final (plain (0 ∷ 5 ∷ 65541 ∷ [])) ∷ []) 0
    ∷ says any (int32 ∷ union final (member 0 0 1 ∷ alike) ∷ []) 16
    ∷ says xcdr2 (int32 ∷ union mutable (plain (0 ∷ 268435456 ∷ [])) ∷ []) 16
    -- through members, lists and unions
    ∷ says any (int32 ∷ structure mutable alike ∷ holder 1 ∷ []) 16
    ∷ says any (int32 ∷ structure mutable alike ∷ sequence 1 ∷ holder 2 ∷ []) 16
    ∷ says any (int32 ∷ structure mutable alike ∷ array 1 ∷ holder 2 ∷ []) 16
    ∷ says any (int32 ∷ structure mutable alike ∷ union final (member 0 0 0 ∷ member 1 1 0 ∷ []) ∷ []) 16
    ∷ says any (int32 ∷ union mutable (member 0 0 0 ∷ alike) ∷ sequence 1 ∷ holder 2 ∷ []) 16
    ∷ says xcdr2 (int32 ∷ structure mutable alike ∷ sequence 1 ∷ holder 2 ∷ []) 0
    ∷ []

each_answers : every (λ b. b) table ≡ true
unfolding fits chains_of chain_of with_own longest_from meets clauses_for check_clauses ids_fit has_headers required optional is_mutable is_structure id_fits other_low low_differ member_types links_of member_supported members_supported element_supported base_supported chooses first_chooses discriminator_fits opens unsupported_member unsupported_element bitmask_stored stored_by_bound bounded every type_no no_type
each_answers = refl

-- ---- the site's type as a book's bytes: an INT32, and M{5: INT32, 65541: INT32}

abbrev site : List ℕ
site =
    0 ∷ 0 ∷ 0 ∷ 0x35 ∷ 1 ∷ 0 ∷ 2 ∷ 0 ∷ 0x0E ∷ 4 ∷ 0 ∷ 0 ∷ 0 ∷ 0 ∷ 0 ∷ 0 ∷ 0 ∷ 0xFF ∷ 0xFF ∷ 0 ∷ 0
    ∷ 0 ∷ 0x20 ∷ 0x16 ∷ 2 ∷ 0 ∷ 0 ∷ 0 ∷ 0 ∷ 0 ∷ 0 ∷ 0xFF ∷ 0xFF ∷ 0 ∷ 2 ∷ 0 ∷ 0 ∷ 0 ∷ 5 ∷ 0 ∷ 0 ∷ 0 ∷ 1 ∷ 0 ∷ 0 ∷ 1 ∷ 0 ∷ 5 ∷ 0 ∷ 0 ∷ 0 ∷ 1 ∷ 0 ∷ []

site_answers : check_of site 1 any ∷ check_of site 1 xcdr2 ∷ [] ≡ 16 ∷ 0 ∷ []
unfolding check_of fits chains_of chain_of with_own longest_from meets clauses_for check_clauses ids_fit has_headers required optional is_mutable is_structure id_fits other_low low_differ member_types links_of member_supported members_supported element_supported base_supported chooses first_chooses discriminator_fits opens unsupported_member unsupported_element bitmask_stored stored_by_bound bounded every type_no no_type labels_of member_of past_member members_of type_of past_type types_from types_of default size_ok version_ok type_count_ok head_ok filled inside_ok own_size_ok record_length_ok kind_ok extensibility_ok base_ok bound_flag_ok codes_ok array_bound_ok bound_ok bounds_ok element_ok member_count_ok member_kind_ok some_member_ok count_ok own_ok other_id id_ok link_ok flags_ok construct_ok label_count_ok first_of_union first_id_ok first_kind_ok first_default_ok first_label_ok member_ok members_ok type_ok record_ok records_ok book_ok
site_answers = refl
