use Rattle.std.proofs.Common.{◌∙◌, arith}
use Rattle.text.proofs.Bytes.{ascii, further, turn_on, turn_some, turn_bad, at_end}
use Rattle.text.proofs.utf8.is_utf8.Goals as goal

pub returns-then-highest-lt128 : goal.returns-then-highest-lt128
returns-then-highest-lt128 c = ascii _ _ c.highest.ensures c.if-highest-lt128.true

pub returns-in_default : goal.returns-in_default
returns-in_default c = turn_bad _ _ c.loop-at-test.true _ c.sequence_at.ensures c.in_default.is ∙ c.loop-at.invariant.same

pub overflow_add-at : goal.overflow_add-at
overflow_add-at c = let p = turn_on _ _ c.loop-at-test.true _ c.sequence_at.ensures _ c.in-Some.is in omega (arith, p.inside)

pub loop-at-preserved-then-n-eq1 : goal.loop-at-preserved-then-n-eq1
loop-at-preserved-then-n-eq1 c =
    let p = turn_on _ _ c.loop-at-test.true _ c.sequence_at.ensures _ c.in-Some.is in
    further _ _ _ _ (further _ _ _ _ c.loop-at.invariant p) c.past_ascii-at-then-n-eq1.ensures

pub loop-at-smaller : goal.loop-at-smaller
loop-at-smaller c = let n = turn_some _ _ c.loop-at-test.true _ c.sequence_at.ensures _ c.in-Some.is in omega (arith, c.loop-at-test.true)

pub loop-at-preserved : goal.loop-at-preserved
loop-at-preserved c = further _ _ _ _ c.loop-at.invariant (turn_on _ _ c.loop-at-test.true _ c.sequence_at.ensures _ c.in-Some.is)

pub returns : goal.returns
returns c = at_end _ _ c.loop-at-test.false ∙ c.loop-at.invariant.same
