-- Labels of members: which member holds one, and which is the default.
use Rattle.std.specs.Prelude.{ℕ, List, [], ◌∷◌, Bool, true, false, ◌||◌, ℤ, Some, None, Option as Found}
use Rattle.std.proofs.Math.Option.{Option, none, some}
use Rattle.wire.specs.Signed.{same_z}
use Rattle.book.specs.Types.{Member, default}
use Rattle.book.specs.Places.{member_at}

-- d is one of these labels
unfoldable pub is_in : ℤ → List ℤ → Bool
is_in d [] = false
is_in d (l ∷ ls) = same_z d l || is_in d ls

-- the first where there is one, else the second
unfoldable pub or_else : Option Member → Option Member → Option Member
or_else (some m) o = some m
or_else none o = o

unfoldable pub when : Bool → Member → Option Member
when true m = some m
when false m = none

-- the first member that passes a test
unfoldable pub first_where : (Member → Bool) → List Member → Option Member
first_where f [] = none
first_where f (m ∷ ms) = or_else (when (f m) m) (first_where f ms)

-- "First member holding the label"
unfoldable pub first_with : ℤ → List Member → Option Member
first_with d ms = first_where (λ m. is_in d m.labels) ms

-- "the LAST default"
unfoldable pub last_default : List Member → Option Member
last_default [] = none
last_default (m ∷ ms) = or_else (last_default ms) (when (default m) m)

-- what the code's answer tells
unfoldable pub told : List ℕ → Found ℕ → Option Member
told b (Some p) = some (member_at b p)
told b None = none
