use Rattle.table.specs.Rows.{room}
use Rattle.values.specs.List.{elements_from}
use Rattle.values.proofs.Lists.{ElementsSofar}
use Rattle.values.proofs.list.each.Given as goal

abbrev pub invariant-loop-i : goal.invariant-loop-i
invariant-loop-i l = ElementsSofar l.r.bytes.now l.r.set l.kind l.count (elements_from l.r.bytes.now l.r.set l.kind l.count 0 l.initial.c (room l.initial.t l.n)) l.n l.initial.t l.t l.i l.c l.m
