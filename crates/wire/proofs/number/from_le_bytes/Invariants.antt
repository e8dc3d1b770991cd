use Rattle.wire.proofs.Digits.{Left}
use Rattle.wire.proofs.number.from_le_bytes.Given as goal

abbrev pub invariant-loop-last : goal.invariant-loop-last
invariant-loop-last l = Left l.s l.pos l.width l.v l.last-iterator.iter.rest.now
