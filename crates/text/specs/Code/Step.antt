-- What the state of the UTF-16 check says of the units to come.
use Rattle.std.specs.Prelude.{ℕ, List, [], ◌∷◌, Bool, false}
use Rattle.ground.specs.Choice.{◌‥◌}
use Rattle.text.specs.Unicode.{table16, rest_good}
use Rattle.text.specs.declared.utf16.State.{State}
use Rattle.text.specs.declared.utf16.State.TheVariants as state

-- the units us end well in this state
abbrev pub good_from : State → List ℕ → Bool
good_from state.Whole us = rest_good table16 us []
good_from state.Half us = rest_good table16 us (0xDC00 ‥ 0xDFFF ∷ [])
good_from state.Bad us = false
