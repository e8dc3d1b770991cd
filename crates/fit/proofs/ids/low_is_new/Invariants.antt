-- `fit::ids::low_is_new` meets its contract. The loop's invariant: the rule of the members still to come is the rule of all. Assumes nothing.
use mathlib.Core.Path.{◌≡◌}
use Rattle.ground.specs.Choice.{every}
use Rattle.book.specs.Places.{listed}
use Rattle.fit.specs.Ids.{other_low}
use Rattle.fit.proofs.ids.low_is_new.Given as goal

abbrev pub invariant-loop-p : goal.invariant-loop-p
invariant-loop-p l = every (other_low l.wanted) (listed l.book l.p-iterator) ≡ every (other_low l.wanted) (listed l.book l.ms)
