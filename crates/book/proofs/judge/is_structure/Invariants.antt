-- `book::judge::is_structure`. The invariant: what is passed keeps the rules, and the rest is to fill the room (`Rising`). A "no" says nothing.
use Prim.Native.Nat.{◌-◌}
use Rattle.book.proofs.Rising.{Rising}
use Rattle.book.proofs.judge.is_structure.Given as goal

abbrev pub invariant-loop-left : goal.invariant-loop-left
invariant-loop-left l = Rising l.b l.at l.k l.initial.left (l.size - 14) l.p l.left l.room l.top

abbrev pub decreases-loop-left : goal.decreases-loop-left
decreases-loop-left l = l.left
