-- `text::utf8::is_utf8` meets its contract: bytes below 80 are lines of the table, and of others those from each turn's place on are well-formed exactly when all of them are. Assumes nothing.
use Rattle.std.proofs.Common.{◌-◌, length}
use Rattle.text.specs.Code.Sequence.{Passed}
use Rattle.text.proofs.utf8.is_utf8.Given as goal

abbrev pub invariant-loop-at : goal.invariant-loop-at
invariant-loop-at l = Passed l.s 0 l.at

abbrev pub decreases-loop-at : goal.decreases-loop-at
decreases-loop-at l = length l.s - l.at
