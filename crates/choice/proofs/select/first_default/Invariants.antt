use mathlib.Core.Path.{◌≡◌}
use Rattle.book.specs.Places.{listed, type_at}
use Rattle.choice.specs.Select.{first_default}
use Rattle.choice.proofs.select.first_default.Given as goal

abbrev pub invariant-loop-p : goal.invariant-loop-p
invariant-loop-p l = first_default (listed l.book l.p-iterator) ≡ first_default (type_at l.book l.at).members
