-- `fit::ids::low_differ` meets its contract. The loop's invariant: the rule of the members still to come is the rule of all. Assumes nothing.
use mathlib.Core.Path.{◌≡◌}
use lib.ListN.{length}
use Rattle.book.specs.Places.{places_left, listed}
use Rattle.fit.specs.Ids.{low_differ}
use Rattle.fit.proofs.ids.low_differ.Given as goal

abbrev pub invariant-loop-p : goal.invariant-loop-p
invariant-loop-p l = low_differ (listed l.book l.rest) ≡ low_differ (listed l.book l.initial.rest)

abbrev pub decreases-loop-p : goal.decreases-loop-p
decreases-loop-p l = length (places_left l.rest)
