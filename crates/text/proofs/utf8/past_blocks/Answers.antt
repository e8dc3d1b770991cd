use Rattle.std.proofs.Common.{◌∙◌, sym, arith}
use Rattle.text.proofs.Bytes.{block_passed, block_rest}
use Rattle.text.proofs.utf8.past_blocks.Goals as goal

pub loop-block-preserved : goal.loop-block-preserved
loop-block-preserved c =
    let v = c.loop-block.invariant in
    let e = c.in-Some.ensures.steps in
    let is = sym v.1 ∙ e.1.0 in
    let long = e.1.1 ∙ v.2 in
    (block_passed _ _ _ v.0 _ _ is _ long _ c.highest.ensures (omega arith), block_rest _ _ _ v.0 _ _ is _ long, e.0 ∙ v.2)
