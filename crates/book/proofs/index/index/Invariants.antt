-- `book::index::index`. The invariant: the words written and the places to come are all places; the other words are kept.
use Rattle.book.proofs.Indexing.{Indexing}
use Prim.Native.Nat.{◌≤◌}
use lib.ListN.{length}
use Rattle.book.proofs.index.index.Given as goal

abbrev pub invariant-loop-i : goal.invariant-loop-i
invariant-loop-i l = Indexing l.b l.initial.lent l.lent l.n l.i l.p × (l.n ≤ 64) × (l.n ≤ length l.initial.lent)
