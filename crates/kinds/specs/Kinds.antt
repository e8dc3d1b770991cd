-- What document 01 says of the kinds: "0 NONE, 1 BOOLEAN, 2 BYTE, 3 INT16, 4 INT32, 5 INT64, 6 UINT16, 7 UINT32, 8 UINT64, 9 FLOAT32,
-- 10 FLOAT64, 11 FLOAT128, 12 INT8, 13 UINT8, 14 CHAR8, 15 CHAR16, 16 STRING8, 17 STRING16, 18 ALIAS, 19 BITMASK, 20 ANNOTATION,
-- 21 ENUM, 22 STRUCTURE, 23 UNION, 24 BITSET, 25 SEQUENCE, 26 ARRAY, 27 MAP." The three columns give a code of 28 or more what NONE has.
use Rattle.std.specs.Prelude.{ℕ, [], ◌∷◌, Bool, ◌||◌, eqb}
use Rattle.ground.specs.Choice.{pick, among, ◌‥◌, within}

-- "A number is aligned to its own size (FLOAT128 to 16)": 1, 2, 4, 8 or 16 bytes; 0 where the kind is no number
unfoldable pub align_of : ℕ → ℕ
align_of k =
    pick (among (1 ∷ 2 ∷ 12 ∷ 13 ∷ 14 ∷ []) k) 1
    (pick (among (3 ∷ 6 ∷ 15 ∷ []) k) 2
    (pick (among (4 ∷ 7 ∷ 9 ∷ []) k) 4
    (pick (among (5 ∷ 8 ∷ 10 ∷ []) k) 8
    (pick (eqb k 11) 16 0))))

-- "A sequence of primitives takes length / size elements, size 4 or 8 for the 32 and 64-bit kinds and 1 for ALL others."
unfoldable pub element_size_of : ℕ → ℕ
element_size_of k = pick (among (4 ∷ 7 ∷ 9 ∷ []) k) 4 (pick (among (5 ∷ 8 ∷ 10 ∷ []) k) 8 1)

-- the kind of a row: "BYTE is stored as 13." "Sequences and arrays: kind 25". Any other of the 28 has its own; of a bitmask
-- `bitmask_stored` is asked and not this; and what is none of them has NONE's
unfoldable pub stored_of : ℕ → ℕ
stored_of k = pick (eqb k 2) 13 (pick (eqb k 26) 25 (pick (within (0 ‥ 27) k) k 0))

-- the kinds of numbers, 1 to 15: "CHAR16 counts as primitive", "ENUM and BITMASK" do not
unfoldable pub is_primitive : ℕ → Bool
is_primitive k = within (1 ‥ 15) k

-- "signed extended to 64 bits": INT16, INT32, INT64, INT8
unfoldable pub is_signed : ℕ → Bool
is_signed k = among (3 ∷ 4 ∷ 5 ∷ 12 ∷ []) k

-- "11: member kinds 15, 18, 20, 24, 27"
unfoldable pub unsupported_member : ℕ → Bool
unsupported_member k = among (15 ∷ 18 ∷ 20 ∷ 24 ∷ 27 ∷ []) k

-- "element kinds 0, 15, 18, 20, 24 to 27"
unfoldable pub unsupported_element : ℕ → Bool
unsupported_element k = among (0 ∷ 15 ∷ 18 ∷ 20 ∷ []) k || within (24 ‥ 27) k

-- "Opening a value asks in order: kind 21 to 23 (else 3)"
unfoldable pub opens : ℕ → Bool
opens k = within (21 ‥ 23) k

-- "by bound 1 to 8, 9 to 16, 17 to 32, any other (0 too)"
unfoldable pub stored_by_bound : ℕ → ℕ
stored_by_bound bound = pick (within (1 ‥ 8) bound) 13 (pick (within (9 ‥ 16) bound) 6 (pick (within (17 ‥ 32) bound) 7 8))

-- "A bitmask is 13, 6, 7 or 8 by bound ..; no bound is 32."
unfoldable pub bitmask_stored : Bool → ℕ → ℕ
bitmask_stored bounded bound = stored_by_bound (pick bounded bound 32)
