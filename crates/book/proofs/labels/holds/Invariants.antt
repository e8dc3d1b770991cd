-- `book::labels::holds`. The invariant: d is among the labels from i on exactly where it is among all.
use Rattle.book.proofs.Search.{past}
use mathlib.Core.Path.{◌≡◌}
use Rattle.book.specs.Places.{member_at}
use Rattle.book.specs.Labels.{is_in}
use Rattle.book.proofs.labels.holds.Given as goal

abbrev pub invariant-loop-i : goal.invariant-loop-i
invariant-loop-i l = is_in l.d (past l.i (member_at l.b l.p).labels) ≡ is_in l.d (member_at l.b l.p).labels
