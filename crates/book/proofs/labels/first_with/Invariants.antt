-- `book::labels::first_with`. The invariant: the first of the members to come that holds the label is the first of all.
use mathlib.Core.Path.{◌≡◌}
use Rattle.book.specs.Places.{listed, type_at}
use Rattle.book.specs.Labels.{first_with}
use Rattle.book.proofs.labels.first_with.Given as goal

abbrev pub invariant-loop-p : goal.invariant-loop-p
invariant-loop-p l = first_with l.d (listed l.b l.p-iterator) ≡ first_with l.d (type_at l.b l.at).members
