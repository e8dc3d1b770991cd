use Rattle.text.proofs.Bytes.{Held}
use Rattle.text.proofs.utf8.row.Given as goal

abbrev pub invariant-loop-i : goal.invariant-loop-i
invariant-loop-i g l = Held l.s l.at l.columns l.i
