use Rattle.values.proofs.Runs.{FillSofar}
use Rattle.values.proofs.quick.fill.Given as goal

abbrev pub invariant-loop-i : goal.invariant-loop-i
invariant-loop-i l = FillSofar l.r.bytes.now l.r.set.order l.kind l.width l.count l.pos l.n l.initial.t l.t l.i
