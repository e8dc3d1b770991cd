-- `fit::ids::all_required` meets its contract. The loop's invariant: the rule of the members still to come is the rule of all. Assumes nothing.
use mathlib.Core.Path.{◌≡◌}
use Rattle.ground.specs.Choice.{every}
use Rattle.book.specs.Places.{listed}
use Rattle.fit.specs.Ids.{required}
use Rattle.fit.proofs.ids.all_required.Given as goal

abbrev pub invariant-loop-p : goal.invariant-loop-p
invariant-loop-p l = every (required) (listed l.book l.p-iterator) ≡ every (required) (listed l.book l.ms)
