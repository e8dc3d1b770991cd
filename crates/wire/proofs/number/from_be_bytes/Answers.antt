use Rattle.std.proofs.Common.{◌+◌, ◌∙◌, arith}
use Rattle.wire.proofs.Digits.{part_long, part_at, more_below, be_step}
use Rattle.wire.proofs.number.from_be_bytes.Goals as goal

pub loop-x-preserved : goal.loop-x-preserved
loop-x-preserved c =
    let e = c.from.ensures ∙ part_at _ _ _ c.requires.0 _ c.loop-x-test.true in
    record {
      reads = be_step _ _ _ _ _ _ (omega (arith, part_long _ _ _ c.requires.0)) e ∙ c.loop-x.invariant.reads;
      below = more_below _ _ _ c.loop-x.invariant.below (omega (arith, c.type_inv.s (c.args.pos + c.loop-x.x-index)));
    }
