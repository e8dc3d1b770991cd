-- Well-formed UTF-8 and UTF-16, by the Unicode standard.
use Rattle.std.specs.Prelude.{ℕ, List, [], ◌∷◌, Bool, true, false}
use Rattle.ground.specs.Choice.{pick, both, Range, ◌‥◌, within}

-- Table 3-7, "Well-Formed UTF-8 Byte Sequences": a row has the range of each byte of a sequence
unfoldable pub table37 : List (List Range)
table37 =
    (0x00 ‥ 0x7F ∷ []) ∷
    (0xC2 ‥ 0xDF ∷ 0x80 ‥ 0xBF ∷ []) ∷
    (0xE0 ‥ 0xE0 ∷ 0xA0 ‥ 0xBF ∷ 0x80 ‥ 0xBF ∷ []) ∷
    (0xE1 ‥ 0xEC ∷ 0x80 ‥ 0xBF ∷ 0x80 ‥ 0xBF ∷ []) ∷
    (0xED ‥ 0xED ∷ 0x80 ‥ 0x9F ∷ 0x80 ‥ 0xBF ∷ []) ∷
    (0xEE ‥ 0xEF ∷ 0x80 ‥ 0xBF ∷ 0x80 ‥ 0xBF ∷ []) ∷
    (0xF0 ‥ 0xF0 ∷ 0x90 ‥ 0xBF ∷ 0x80 ‥ 0xBF ∷ 0x80 ‥ 0xBF ∷ []) ∷
    (0xF1 ‥ 0xF3 ∷ 0x80 ‥ 0xBF ∷ 0x80 ‥ 0xBF ∷ 0x80 ‥ 0xBF ∷ []) ∷
    (0xF4 ‥ 0xF4 ∷ 0x80 ‥ 0x8F ∷ 0x80 ‥ 0xBF ∷ 0x80 ‥ 0xBF ∷ []) ∷
    []

-- UTF-16, in units of 16 bits: a high surrogate is followed by a low one, and no surrogate stands alone
unfoldable pub table16 : List (List Range)
table16 =
    (0x0000 ‥ 0xD7FF ∷ []) ∷
    (0xD800 ‥ 0xDBFF ∷ 0xDC00 ‥ 0xDFFF ∷ []) ∷
    (0xE000 ‥ 0xFFFF ∷ []) ∷
    []

-- what has to follow a first number: the rest of the row that begins with it, if there is one
pub data Follow : Type 0 where
  nothing : Follow
  ranges : List Range → Follow

unfoldable pub follow : List (List Range) → ℕ → Follow
follow [] x = nothing
follow ([] ∷ rows) x = follow rows x
follow ((r ∷ rs) ∷ rows) x = pick (within r x) (ranges rs) (follow rows x)

abbrev pub on_follow : Follow → (List Range → Bool) → Bool
on_follow nothing f = false
on_follow (ranges rs) f = f rs

-- the numbers go on with one in each of these ranges, and then with whole rows of the table
unfoldable pub rest_good : List (List Range) → List ℕ → List Range → Bool
rest_good t [] [] = true
rest_good t [] (r ∷ rs) = false
rest_good t (x ∷ xs) [] = on_follow (follow t x) (λ rs. rest_good t xs rs)
rest_good t (x ∷ xs) (r ∷ rs) = both (within r x) (rest_good t xs rs)

-- the bytes are whole rows of the table
abbrev pub utf8 : List ℕ → Bool
utf8 xs = rest_good table37 xs []

-- the units are whole rows of the table
abbrev pub utf16 : List ℕ → Bool
utf16 us = rest_good table16 us []
