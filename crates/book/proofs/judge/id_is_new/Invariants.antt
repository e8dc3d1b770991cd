-- `book::judge::id_is_new`. The invariant: the rule of the members to come is the rule of all.
use mathlib.Core.Path.{◌≡◌}
use Rattle.ground.specs.Choice.{every}
use Rattle.book.specs.Rules.{other_id}
use Rattle.book.specs.Places.{listed}
use Rattle.book.proofs.judge.id_is_new.Given as goal

abbrev pub invariant-loop-p : goal.invariant-loop-p
invariant-loop-p l = every (other_id l.id) (listed l.b l.p-iterator) ≡ every (other_id l.id) (listed l.b l.ms)
