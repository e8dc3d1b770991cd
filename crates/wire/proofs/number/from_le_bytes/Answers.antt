use Rattle.std.proofs.Common.{arith}
use Rattle.wire.proofs.Digits.{left_all, left_next}
use Rattle.wire.proofs.number.from_le_bytes.Goals as goal

pub loop-last-init : goal.loop-last-init
loop-last-init c = left_all _ _ _ c.requires.1 c.requires.0 (λ k. omega (arith, c.type_inv.s k)) _ (cc (c.into_iter-last-iterator.ensures.into_iter_gives, c.rev-last-items.ensures.source, c.iter.ensures.rest))

pub loop-last-preserved : goal.loop-last-preserved
loop-last-preserved c = rw c.from.ensures (left_next _ _ _ c.requires.1 _ _ _ _ c.loop-last.invariant c.in-Some.ensures.steps)
