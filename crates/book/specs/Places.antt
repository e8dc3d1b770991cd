-- Where the code stands in a book's bytes, and what stands there.
use Rattle.std.specs.Prelude.{ℕ, zero, suc, ◌+◌, ◌-◌, ◌*◌, ◌<◌, ◌≤◌, min, ◌≡◌, Bool, List, [], ◌∷◌, ◌++◌, ltb, length, get_or, drop, map}
use Rattle.book.specs.Types.{Member, BookType, byte, pair, quad, member_of, past_member, members_of, type_of, type_count, type_no, optional}
use Rattle.book.specs.declared.member.Run.{Run}
use Rattle.book.specs.declared.member.Head.{Head}
use Rattle.book.specs.declared.index.Types.{Types}

-- the bytes from p on
unfoldable pub from : List ℕ → ℕ → List ℕ
from b p = drop p b

-- the byte k bytes after p is there
unfoldable pub is_there : List ℕ → ℕ → ℕ → Bool
is_there b p k = ltb (p + k) (length b)

-- a record's own bytes that have an extensibility, and no base, bound or element
pub record Bare (s : List ℕ) : Type 0 where
  pub extensibility : byte s 3 ≤ 2
  pub base : quad s 4 ≡ 0
  pub element : quad s 8 ≡ 65535

abbrev pub member_at : List ℕ → ℕ → Member
member_at b p = member_of (from b p)

-- what is asked of every member that is read in turn
pub record HeadOf (m : Member) (r : Head) : Type 0 where
  pub id : r.id ≡ m.id
  pub type : r.ty ≡ m.type
  pub option : r.optional ≡ optional m

abbrev pub type_at : List ℕ → ℕ → BookType
type_at b p = type_of (from b p)

-- n bytes on, and no further than the end
abbrev pub onward : List ℕ → ℕ → ℕ → ℕ
onward b p n = min (p + n) (length b)

-- r stands n bytes after p: it is that place, and what is left there is what was left, less n bytes
pub record Skipped (b : List ℕ) (p n r : ℕ) : Type 0 where
  pub place : r ≡ onward b p n
  pub is : from b r ≡ drop n (from b p)

-- the places of n members, the first at p
unfoldable pub member_places : List ℕ → ℕ → ℕ → List ℕ
member_places b p zero = []
member_places b p (suc n) = p ∷ member_places b (onward b p (9 + 4 * byte (from b p) 8)) n

-- the places that are still to come
unfoldable pub places_left : Run → List ℕ
places_left ms = member_places ms.book.now ms.at ms.left

-- the members that stand there
unfoldable pub listed : List ℕ → Run → List Member
listed b ms = map (member_at b) (places_left ms)

-- those after the next
unfoldable pub later : List ℕ → Run → List Member
later b ms = members_of (ms.left - 1) (past_member (from b ms.at))

-- the first n members of the type at `at`
unfoldable pub earlier : List ℕ → ℕ → ℕ → List Member
earlier b at n = members_of n (drop 14 (from b at))

-- the ids of these members are all below top
unfoldable pub Below : ℕ → List Member → Type 0
Below top [] = Unit {0}
Below top (m ∷ ms) = (m.id < top) × Below top ms

-- r is the run of the members of the type at `at`
pub record Started (b : List ℕ) (at : ℕ) (r : Run) : Type 0 where
  pub book : r.book.now ≡ b
  pub place : r.at ≡ onward b at 14
  pub left : r.left ≡ pair (from b at) 12
  pub small : r.left < 65536
  pub bytes : from b r.at ≡ drop 14 (from b at)
  pub is : listed b r ≡ (type_at b at).members

-- r is the run ms without its next member
pub record After (b : List ℕ) (ms r : Run) : Type 0 where
  pub book : r.book.now ≡ b
  pub place : r.at ≡ onward b ms.at (9 + 4 * byte (from b ms.at) 8)
  pub left : r.left ≡ ms.left - 1
  pub bytes : from b r.at ≡ past_member (from b ms.at)
  pub is : listed b r ≡ later b ms

-- the places of n types, the first at p
unfoldable pub places_from : List ℕ → ℕ → ℕ → List ℕ
places_from b p zero = []
places_from b p (suc n) = p ∷ places_from b (onward b p (pair (from b p) 0)) n

-- how many places `index` writes into a list of `room` words: one for each type, at most 64, and as many as there is room for
abbrev pub index_count : List ℕ → ℕ → ℕ
index_count b room = min (type_count b) (min 64 room)

-- what it leaves there: those places, and after them what was there
abbrev pub indexed : List ℕ → List ℕ → List ℕ
indexed b lent = places_from b 7 (index_count b (length lent)) ++ drop (index_count b (length lent)) lent

-- the types that stand at the places of an index
unfoldable pub types_by : List ℕ → List ℕ → List BookType
types_by b [] = []
types_by b (p ∷ ps) = type_at b p ∷ types_by b ps

abbrev pub types_in : Types → List BookType
types_in ts = types_by ts.book.now ts.index.now

-- r is the place of type number k: what stands there is that type, or NONE at the end of the book where the index has no such number
pub record PlaceOf (b index : List ℕ) (k r : ℕ) : Type 0 where
  pub place : r ≡ get_or index k (length b)
  pub is : type_at b r ≡ type_no (types_by b index) k
