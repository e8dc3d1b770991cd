-- `book::judge::members_fault`. The invariant: what is told of the members to come, with the bytes that are left, is what is told of all (`Walking`).
use Rattle.book.specs.Places.{types_in}
use Rattle.book.proofs.Telling.{Walking, members_at}
use Rattle.book.proofs.judge.members_fault.Given as goal

abbrev pub invariant-loop-done : goal.invariant-loop-done
invariant-loop-done l =
    Walking l.types.book.now (types_in l.types) l.at l.k l.done-iterator.count l.top l.left (members_at l.types.book.now (types_in l.types) l.at l.k l.room) l.done-iterator.iter
