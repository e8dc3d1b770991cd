-- How a definition picks a case, and the tests that it asks.
use Rattle.std.specs.Prelude.{ℕ, List, [], ◌∷◌, Bool, true, false, ◌||◌, leb, eqb}

-- the first where the test passes, else the second
abbrev pub pick : {A : Type 0} → Bool → A → A → A
pick true a b = a
pick false a b = b

-- both tests pass; the second is not looked at where the first fails
abbrev pub both : Bool → Bool → Bool
both true b = b
both false b = false

-- each of these passes
unfoldable pub every : {A : Type 0} → (A → Bool) → List A → Bool
every f [] = true
every f (x ∷ xs) = both (f x) (every f xs)

-- the same numbers in the same order
unfoldable pub same_numbers : List ℕ → List ℕ → Bool
same_numbers [] [] = true
same_numbers [] (y ∷ ys) = false
same_numbers (x ∷ xs) [] = false
same_numbers (x ∷ xs) (y ∷ ys) = both (eqb x y) (same_numbers xs ys)

-- k is one of these numbers
abbrev pub among : List ℕ → ℕ → Bool
among [] k = false
among (x ∷ xs) k = eqb k x || among xs k

-- the numbers from one to another, both counted in
infix 80 ◌‥◌
pub data Range : Type 0 where
  ◌‥◌ : ℕ → ℕ → Range

-- x is one of them
abbrev pub within : Range → ℕ → Bool
within (a ‥ b) x = both (leb a x) (leb x b)
