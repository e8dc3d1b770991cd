-- `fit::longest` meets its contract. The loop's invariant: what the members still to come give, from what was found so far, is what all give from 0. Assumes nothing.
use mathlib.Core.Path.{◌≡◌}
use Rattle.book.specs.Places.{listed, type_at}
use Rattle.fit.specs.Fit.{member_types, links_of}
use Rattle.fit.specs.Code.Check.{longest_from}
use Rattle.fit.proofs.longest.Given as goal

abbrev pub invariant-loop-p : goal.invariant-loop-p
invariant-loop-p l = longest_from l.lower l.m (member_types (listed l.book l.p-iterator)) ≡ longest_from l.lower 0 (links_of (type_at l.book l.at))
