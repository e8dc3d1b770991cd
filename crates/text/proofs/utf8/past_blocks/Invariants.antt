use Rattle.std.proofs.Common.{◌≡◌, drop}
use Rattle.text.specs.Code.Sequence.{Passed}
use Rattle.text.proofs.utf8.past_blocks.Given as goal

abbrev pub invariant-loop-block : goal.invariant-loop-block
invariant-loop-block l = Passed l.s l.at l.i × (l.block-iterator.rest.now ≡ drop l.i l.s) × (l.block-iterator.size ≡ 16)
