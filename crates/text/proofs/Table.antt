-- What Table 3-7 says of a first byte: one law for all lines, by a test that antt computes at each first byte of a line. Assumes nothing.
use Prim.Native.Nat.{ℕ, suc, ◌+◌, ◌-◌, ◌≤◌, ◌<◌, zero-le}
use mathlib.Core.Path.{◌≡◌, refl, ap}
use mathlib.Core.Bool.{Bool, true, false}
use mathlib.Core.List.{List, [], ◌∷◌}
use native.Mathlib.Omega.{arith}
use native.Mathlib.Numerals.{add-one}
use lib.Dec.{T, eqb, eqb→eq}
use lib.ListN.{length, get_or, drop}
use lib.Seq.{drop-cons}
use Rattle.std.specs.Prelude.{Option, Some, None}
use Rattle.ground.specs.Choice.{both, Range, ◌‥◌}
use Rattle.ground.proofs.Tests.{both_left, both_right}
use Rattle.ground.proofs.Between.{passes, between}
use Rattle.text.specs.Unicode.{Follow, nothing, ranges, follow, table37}
use Rattle.text.specs.Code.Sequence.{begins, on_row, Row, row_length}

abbrev same_range : Range → Range → Bool
same_range (a ‥ b) (p ‥ q) = both (eqb a p) (eqb b q)

range_is : (a b : Range) → T (same_range a b) → a ≡ b
range_is (a ‥ b) (p ‥ q) t =
    let e : a ≡ p = eqb→eq a p (both_left (eqb a p) (eqb b q) t) in
    let f : b ≡ q = eqb→eq b q (both_right (eqb a p) (eqb b q) t) in
    cc

abbrev same_ranges : List Range → List Range → Bool
same_ranges [] [] = true
same_ranges [] (b ∷ bs) = false
same_ranges (a ∷ as') [] = false
same_ranges (a ∷ as') (b ∷ bs) = both (same_range a b) (same_ranges as' bs)

ranges_are : (a b : List Range) → T (same_ranges a b) → a ≡ b
ranges_are [] [] t = refl
ranges_are [] (b ∷ bs) t = absurd t
ranges_are (a ∷ as') [] t = absurd t
ranges_are (a ∷ as') (b ∷ bs) t =
    let p : a ≡ b = range_is a b (both_left (same_range a b) (same_ranges as' bs) t) in
    let q : as' ≡ bs = ranges_are as' bs (both_right (same_range a b) (same_ranges as' bs) t) in
    cc

abbrev same : Follow → Follow → Bool
same nothing nothing = true
same nothing (ranges b) = false
same (ranges a) nothing = false
same (ranges a) (ranges b) = same_ranges a b

same_is : (a b : Follow) → T (same a b) → a ≡ b
same_is nothing nothing t = refl
same_is nothing (ranges b) t = absurd t
same_is (ranges a) nothing t = absurd t
same_is (ranges a) (ranges b) t = ap ranges (ranges_are a b t)

-- the n first bytes from lo up are all followed by e
row : (e : Follow) (lo n x : ℕ) → T (passes (λ y. same e (follow table37 y)) lo n) → lo ≤ x → x < lo + n → e ≡ follow table37 x
row e lo n x t h k = same_is e (follow table37 x) (between (λ y. same e (follow table37 y)) n lo t x h k)

-- bytes that were held to what follows a first byte, where this is what follows each one from lo to hi: a line of the table, or a gap between two
pub line : (lo hi : ℕ) {s : List ℕ} {at : ℕ} {n : Option ℕ} {f : Follow} → Row s at f n → T (passes (λ y. same f (follow table37 y)) lo (suc hi - lo)) → lo ≤ get_or s at 0 → get_or s at 0 ≤ hi
    → n ≡ row_length (drop at s)
unfolding row_length
line lo hi {s} {at} {n} {f} r t a b =
    rw (drop-cons s at 0 r.begun, ← row f lo (suc hi - lo) (get_or s at 0) t a (omega arith)) (rw (add-one at) at r.counted)

-- a line of one byte, and no line
module _ (s : List ℕ) (at : ℕ) (h : at < length s) where
  pub one_byte : Row s at (ranges []) (Some 1)
  unfolding on_row begins
  one_byte = record { begun = h; counted = refl }

  pub no_line : Row s at nothing None
  unfolding on_row
  no_line = record { begun = h; counted = refl }

-- a byte below 80 is a line by itself
pub first_line : (x : ℕ) → x < 0x80 → ranges [] ≡ follow table37 x
unfolding follow table37
first_line x h = row (ranges []) 0 0x80 x tt zero-le h
