-- `book::labels::last_default`. The invariant: the last default of the members to come, or else what was found, is the last of all.
use Rattle.book.proofs.Search.{last_or}
use mathlib.Core.Path.{◌≡◌}
use Rattle.book.specs.Places.{listed, type_at}
use Rattle.book.specs.Labels.{last_default}
use Rattle.book.proofs.labels.last_default.Given as goal

abbrev pub invariant-loop-p : goal.invariant-loop-p
invariant-loop-p l = last_or l.b l.last (listed l.b l.p-iterator) ≡ last_default (type_at l.b l.at).members
