-- The words a and b of a scalar's row, by the row's kind.
-- "Scalars put the value in a: signed extended to 64 bits, floats as bits, FLOAT128 low half a, high half b."
use Rattle.std.specs.Prelude.{ℕ, ◌-◌, ◌/◌, ◌^◌, Bool, ◌||◌, List, [], ◌∷◌, eqb, leb, ltb}
use Rattle.ground.specs.Choice.{pick, both}
use Rattle.kinds.specs.Kinds.{align_of, is_signed}

-- the kinds that a scalar's row has: BOOLEAN 1 to CHAR8 14 without BYTE, which "is stored as 13"
abbrev pub scalar_rows : List ℕ
scalar_rows = 1 ∷ 3 ∷ 4 ∷ 5 ∷ 6 ∷ 7 ∷ 8 ∷ 9 ∷ 10 ∷ 11 ∷ 12 ∷ 13 ∷ 14 ∷ []

-- a signed number of w bytes, "extended to 64 bits": below half of 256 ^ w, or at most that half below 2 ^ 64
unfoldable pub is_extended : ℕ → ℕ → Bool
is_extended w a = ltb a (256 ^ w / 2) || both (leb (2 ^ 64 - 256 ^ w / 2) a) (ltb a (2 ^ 64))

-- BOOLEAN 0 or 1; FLOAT128 two words; INT8, INT16, INT32, INT64 extended; any other below 256 to its size in bytes. b is 0 but for FLOAT128
unfoldable pub in_range : ℕ → ℕ → ℕ → Bool
in_range kind a b =
    pick (eqb kind 11) (both (ltb a (2 ^ 64)) (ltb b (2 ^ 64)))
    (both (eqb b 0)
    (pick (eqb kind 1) (ltb a 2) (pick (is_signed kind) (is_extended (align_of kind) a) (ltb a (256 ^ align_of kind)))))
