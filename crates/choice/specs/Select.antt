-- The member that a discriminator's value selects.
use Rattle.std.specs.Prelude.{List, [], ◌∷◌, eqb, ℤ, pos}
use Rattle.std.proofs.Math.Option.{Option, none, some}
use Rattle.ground.specs.Choice.{pick}
use Rattle.book.specs.Types.{BookType, Member, default, type_no}
use Rattle.book.specs.Rules.{is_enum}
use Rattle.book.specs.Labels.{or_else, first_where, first_with, last_default}

-- the first literal with the default flag
unfoldable pub first_default : List Member → Option Member
first_default ms = first_where default ms

-- "literal 0": the first listed
unfoldable pub first_of : List Member → Option Member
first_of [] = none
first_of (m ∷ ms) = some m

-- "its first label, or 0"
unfoldable pub first_label : List ℤ → ℤ
first_label [] = pos 0
first_label (l ∷ ls) = l

unfoldable pub label_of : Option Member → ℤ
label_of none = pos 0
label_of (some m) = first_label m.labels

-- "its default value (enum: first default literal, or literal 0; its first label, or 0. Others: 0)"
unfoldable pub default_value : BookType → ℤ
default_value t = pick (is_enum t) (label_of (or_else (first_default t.members) (first_of t.members))) (pos 0)

-- "if the discriminator is UseDefault, the first member whose label is its default value"
unfoldable pub by_default_value : List BookType → Member → List Member → Option Member
by_default_value types disc ms = pick (eqb disc.construct 0) (first_with (default_value (type_no types disc.type)) ms) none

-- "First member holding the label; else the LAST default; else, .."
unfoldable pub selected_of : List BookType → Member → List Member → ℤ → Option Member
selected_of types disc ms d = or_else (first_with d ms) (or_else (last_default ms) (by_default_value types disc ms))
