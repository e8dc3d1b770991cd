-- The types of a book as data, and the bytes that spell them. A byte past the end is 0, so every list of bytes spells something.
use Rattle.std.specs.Prelude.{ℕ, zero, suc, ◌+◌, ◌*◌, ◌/◌, ◌%◌, List, [], ◌∷◌, Bool, get_or, drop, eqb, ℤ}
use Rattle.std.specs.Int.{w32}
use Rattle.std.proofs.Common.{to_z}

-- "A member: id u32, type u16, flags u8 .., try-construct u8 .., label count u8 .., labels i32."
pub record Member : Type 0 where
  pub id : ℕ
  pub type : ℕ
  pub flags : ℕ
  pub construct : ℕ
  pub labels : List ℤ

-- "A record: .. kind u8, extensibility u8 .., enum base kind u8, bound flag u8 .., bound u32, element type u16, member count u16 .., members."
-- (`Type` is antt's own word.)
pub record BookType : Type 0 where
  pub kind : ℕ
  pub extensibility : ℕ
  pub base : ℕ
  pub bound_flag : ℕ
  pub bound : ℕ
  pub element : ℕ
  pub members : List Member

-- "flags u8 (1 optional, 2 default label)"
unfoldable pub optional : Member → Bool
optional m = eqb (m.flags % 2) 1

unfoldable pub default : Member → Bool
default m = eqb (m.flags / 2 % 2) 1

-- "bound flag u8 (0/1)"
unfoldable pub bounded : BookType → Bool
bounded t = eqb t.bound_flag 1

-- "65,535 means none."
abbrev pub no_index : ℕ
no_index = 65535

-- the numbers of one, two and four bytes, k bytes into s. "Length first, big-endian"
abbrev pub byte : List ℕ → ℕ → ℕ
byte s k = get_or s k 0

abbrev pub pair : List ℕ → ℕ → ℕ
pair s k = byte s k * 256 + byte s (k + 1)

abbrev pub quad : List ℕ → ℕ → ℕ
quad s k = pair s k * 65536 + pair s (k + 2)

-- n "labels i32", from k bytes into s on
unfoldable pub labels_of : List ℕ → ℕ → ℕ → List ℤ
labels_of s k zero = []
labels_of s k (suc n) = to_z w32 (quad s k) ∷ labels_of s (k + 4) n

-- the member that s starts with
unfoldable pub member_of : List ℕ → Member
member_of s =
    record {
      id = quad s 0;
      type = pair s 4;
      flags = byte s 6;
      construct = byte s 7;
      labels = labels_of s 9 (byte s 8);
    }

-- what follows it
unfoldable pub past_member : List ℕ → List ℕ
past_member s = drop (9 + 4 * byte s 8) s

unfoldable pub members_of : ℕ → List ℕ → List Member
members_of zero s = []
members_of (suc n) s = member_of s ∷ members_of n (past_member s)

-- the type that s starts with; its first two bytes are the record's length
unfoldable pub type_of : List ℕ → BookType
type_of s =
    record {
      kind = byte s 2;
      extensibility = byte s 3;
      base = byte s 4;
      bound_flag = byte s 5;
      bound = quad s 6;
      element = pair s 10;
      members = members_of (pair s 12) (drop 14 s);
    }

-- what follows it. "its whole length u16 (these two bytes counted)"
unfoldable pub past_type : List ℕ → List ℕ
past_type s = drop (pair s 0) s

unfoldable pub types_from : ℕ → List ℕ → List BookType
types_from zero s = []
types_from (suc n) s = type_of s ∷ types_from n (past_type s)

-- "type count u16", after a length u32 and a version byte
abbrev pub type_count : List ℕ → ℕ
type_count book = pair book 5

-- THE TYPES OF A BOOK
unfoldable pub types_of : List ℕ → List BookType
types_of book = types_from (type_count book) (drop 7 book)

-- the type with a number; NONE, without members, where there is none
unfoldable pub no_type : BookType
no_type = record { kind = 0; extensibility = 0; base = 0; bound_flag = 0; bound = 0; element = 0; members = [] }

unfoldable pub type_no : List BookType → ℕ → BookType
type_no types k = get_or types k no_type
