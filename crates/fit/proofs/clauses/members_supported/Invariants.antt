-- `fit::clauses::members_supported` meets its contract. The loop's invariant: the rule of the members still to come is the rule of all. Assumes nothing.
use mathlib.Core.Path.{◌≡◌}
use Rattle.ground.specs.Choice.{every}
use Rattle.book.specs.Places.{listed, type_at, types_in}
use Rattle.fit.specs.Fit.{member_supported, members_supported}
use Rattle.fit.proofs.clauses.members_supported.Given as goal

abbrev pub invariant-loop-p : goal.invariant-loop-p
invariant-loop-p l = every (member_supported (types_in l.types)) (listed l.types.book.now l.p-iterator) ≡ members_supported (types_in l.types) (type_at l.types.book.now l.at)
