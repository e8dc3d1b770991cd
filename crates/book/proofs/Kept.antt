-- One rule out of several that are all kept. Assumes nothing.
use Prim.Native.Nat.{ℕ, zero, suc}
use mathlib.Core.Path.{◌≡◌, refl, sym}
use mathlib.Core.Bool.{Bool, true, false, not, ◌&&◌, ◌||◌}
use mathlib.Core.List.{List, [], ◌∷◌}
use lib.ListN.{get_or}
use Rattle.ground.specs.Choice.{pick}
use Rattle.ground.proofs.Tests.{apart}

-- a && b && .. of a row of tests
abbrev pub row : Bool → List Bool → Bool
row a [] = a
row a (b ∷ bs) = row (a && b) bs

and_first : (a b : Bool) → (a && b) ≡ true → a ≡ true
and_first true b e = refl
and_first false b e = e

and_second : (a b : Bool) → (a && b) ≡ true → b ≡ true
and_second true b e = e
and_second false b e = absurd (apart e)

row_first : (a : Bool) (bs : List Bool) → row a bs ≡ true → a ≡ true
row_first a [] e = e
row_first a (b ∷ bs) e = and_first a b (row_first (a && b) bs e)

-- test i of the row passes
pub kept : (i : ℕ) (a : Bool) (bs : List Bool) → row a bs ≡ true → get_or (a ∷ bs) i true ≡ true
kept zero a bs e = row_first a bs e
kept (suc i) a [] e = refl
kept (suc zero) a (b ∷ bs) e = and_second a b (row_first (a && b) bs e)
kept (suc (suc i)) a (b ∷ bs) e = kept (suc i) (a && b) bs e

-- a rule that is asked only where a test passes
pub asked : (a b : Bool) → (not a || b) ≡ true → a ≡ true → b ≡ true
asked true b e h = e
asked false b e h = absurd (apart h)

-- what a pick comes to
pub picked : (t a b : Bool) → pick t a b ≡ true → t ≡ true → a ≡ true
picked true a b e h = e
picked false a b e h = absurd (apart h)

pub unpicked : (t a b : Bool) → pick t a b ≡ true → t ≡ false → b ≡ true
unpicked true a b e h = absurd (apart (sym h))
unpicked false a b e h = e
