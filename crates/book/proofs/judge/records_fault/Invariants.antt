-- `book::judge::records_fault`. The invariant: what is told of the records from number k on is what is told of all.
use mathlib.Core.Path.{◌≡◌}
use Prim.Native.Nat.{◌-◌}
use lib.ListN.{length}
use Rattle.book.specs.Places.{from, types_in}
use Rattle.book.specs.Fault.{records_fault}
use Rattle.book.proofs.judge.records_fault.Given as goal

abbrev pub invariant-loop-k : goal.invariant-loop-k
invariant-loop-k l = records_fault (types_in l.types) l.k (length l.types.index.now - l.k) (from l.types.book.now l.p) ≡ records_fault (types_in l.types) 0 (length l.types.index.now) (from l.types.book.now 7)
