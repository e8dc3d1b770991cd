-- `fit::ids::each_fits` meets its contract. The loop's invariant: the rule of the members still to come is the rule of all. Assumes nothing.
use mathlib.Core.Path.{◌≡◌}
use Rattle.ground.specs.Choice.{every}
use Rattle.book.specs.Places.{listed}
use Rattle.fit.specs.Ids.{id_fits}
use Rattle.fit.proofs.ids.each_fits.Given as goal

abbrev pub invariant-loop-p : goal.invariant-loop-p
invariant-loop-p l = every (id_fits l.only_xcdr2) (listed l.book l.p-iterator) ≡ every (id_fits l.only_xcdr2) (listed l.book l.ms)
