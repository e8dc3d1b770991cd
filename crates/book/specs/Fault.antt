-- WHAT IS WRONG WITH A BOOK, order 2 of document 02: "Give the record's number (65,535 for the book's head) and a reason: head, record length,
-- code out of range, type link, bound, member list, union's first member. The first broken rule in reading order is told, a record's own
-- bytes before its members; where one field breaks two, the earlier reason. Bytes left after the last record are a head fault, told last."
-- The rules are those of Rules.antt, each asked here once, in reading order.
use Rattle.std.specs.Prelude.{ℕ, zero, suc, ◌+◌, ◌-◌, ◌*◌, List, [], ◌∷◌, ◌++◌, Bool, true, false, length, drop, eqb, leb, Result, Ok, Err}
use Rattle.book.specs.Types.{Member, BookType, pair, type_count, type_of, past_type, types_of}
use Rattle.book.specs.Rules.{size_ok, version_ok, type_count_ok, member_size, inside_ok, own_size_ok, kind_ok, extensibility_ok, base_ok, bound_flag_ok, array_bound_ok, bound_ok, element_ok, member_count_ok, member_kind_ok, some_member_ok}
use Rattle.book.specs.Rules.{id_ok, link_ok, flags_ok, construct_ok, label_count_ok, first_of_union, first_id_ok, first_kind_ok, first_default_ok, first_label_ok}
use Rattle.book.specs.declared.fault.Reason.{Reason}
use Rattle.book.specs.declared.fault.Reason.TheVariants.{Head, RecordLength, CodeRange, TypeLink, Bound, MemberList, FirstMember}
use Rattle.book.specs.declared.fault.Fault.{Fault}

-- THE NUMBERS: "8 becomes 17 to 23 in the order just given"
unfoldable pub reason_number : Reason → ℕ
reason_number Head = 17
reason_number RecordLength = 18
reason_number CodeRange = 19
reason_number TypeLink = 20
reason_number Bound = 21
reason_number MemberList = 22
reason_number FirstMember = 23

-- what is told of a book: that nothing is wrong, or a fault
abbrev pub Verdict : Type 0
Verdict = Result (Unit {0}) Fault

-- what a call answers for a book; 0 where nothing is wrong
unfoldable pub fault_number : Verdict → ℕ
fault_number (Ok u) = 0
fault_number (Err f) = reason_number f.reason

-- the record and the number in one word: record * 256 + number, 0 where nothing is wrong
unfoldable pub fault_word : Verdict → ℕ
fault_word (Ok u) = 0
fault_word (Err f) = f.at * 256 + reason_number f.reason

unfoldable pub is_right : Verdict → Bool
is_right (Ok u) = true
is_right (Err f) = false

-- "Give the record's number .. and a reason"
abbrev pub broken : ℕ → Reason → Verdict
broken k why = Err (record { at = k; reason = why })

-- "65,535 for the book's head"
abbrev pub the_head : ℕ
the_head = 65535

-- READING ORDER
-- this fault, unless the rule is kept
unfoldable pub unless : Bool → Verdict → Verdict
unless true f = Ok tt
unless false f = f

-- "The first broken rule in reading order is told": what the first tells, and where it tells nothing what the next does
infixr 30 ◌then◌
unfoldable pub ◌then◌ : Verdict → Verdict → Verdict
◌then◌ (Ok u) next = next
◌then◌ (Err f) next = Err f

-- the head
unfoldable pub head_fault : List ℕ → Verdict
head_fault book =
    unless (size_ok book) (broken the_head Head)
    then unless (version_ok book) (broken the_head Head)
    then unless (type_count_ok book) (broken the_head Head)

-- "a record's own bytes" after its length: kind, extensibility, base, bound flag, bound, element, member count. An ARRAY without a bound is told at
-- the flag, after the flag's own rule: "where one field breaks two, the earlier reason"
unfoldable pub own_fault : ℕ → BookType → Verdict
own_fault k t =
    unless (kind_ok t) (broken k CodeRange)
    then unless (extensibility_ok t) (broken k CodeRange)
    then unless (base_ok t) (broken k CodeRange)
    then unless (bound_flag_ok t) (broken k CodeRange)
    then unless (array_bound_ok t) (broken k Bound)
    then unless (bound_ok t) (broken k Bound)
    then unless (element_ok k t) (broken k TypeLink)
    then unless (member_count_ok t) (broken k MemberList)
    then unless (member_kind_ok t) (broken k MemberList)
    then unless (some_member_ok t) (broken k MemberList)

-- a member that fits: id, type, flags, try-construct, label count. What is asked of a union's first member alone comes after what is asked of the
-- field in every member
unfoldable pub member_fault : List BookType → ℕ → BookType → List Member → Member → Verdict
member_fault types k t before m =
    let first = first_of_union t before in
    unless (id_ok before m) (broken k MemberList)
    then unless (first_id_ok first m) (broken k FirstMember)
    then unless (link_ok k t m) (broken k TypeLink)
    then unless (first_kind_ok types first m) (broken k FirstMember)
    then unless (flags_ok m) (broken k CodeRange)
    then unless (first_default_ok first m) (broken k FirstMember)
    then unless (construct_ok m) (broken k CodeRange)
    then unless (label_count_ok m) (broken k MemberList)
    then unless (first_label_ok first m) (broken k FirstMember)

-- the members, to which the record leaves so many bytes. One that does not fit is a record's length, told before its own fields; so are bytes left
unfoldable pub members_fault : List BookType → ℕ → BookType → List Member → List Member → ℕ → Verdict
members_fault types k t before [] room = unless (eqb room 0) (broken k RecordLength)
members_fault types k t before (m ∷ ms) room =
    unless (leb (member_size m) room) (broken k RecordLength)
    then member_fault types k t before m
    then members_fault types k t (before ++ m ∷ []) ms (room - member_size m)

-- the record of type k, which s starts with: its length, "a record's own bytes before its members"
unfoldable pub record_fault : List BookType → ℕ → List ℕ → Verdict
record_fault types k s =
    unless (inside_ok s) (broken k RecordLength)
    then unless (own_size_ok s) (broken k RecordLength)
    then own_fault k (type_of s)
    then members_fault types k (type_of s) [] (type_of s).members (pair s 0 - 14)

-- n records from number k on. "Bytes left after the last record are a head fault, told last."
unfoldable pub records_fault : List BookType → ℕ → ℕ → List ℕ → Verdict
records_fault types k zero s = unless (eqb (length s) 0) (broken the_head Head)
records_fault types k (suc n) s =
    record_fault types k s
    then records_fault types (suc k) n (past_type s)

-- A BOOK
unfoldable pub fault_of : List ℕ → Verdict
fault_of book =
    head_fault book
    then records_fault (types_of book) 0 (type_count book) (drop 7 book)
