use Rattle.lookup.proofs.Leading.{leads_start, stays_on, stays_leads}
use Rattle.lookup.proofs.straight.stays_at.Goals as goal

pub loop-pos-init : goal.loop-pos-init
loop-pos-init g c = (c.requires.stands, λ set id steps. leads_start _ set id _ _ c.requires.stands)

pub loop-pos-preserved : goal.loop-pos-preserved
loop-pos-preserved g c = (
  (stays_on _ _ _ _ c.requires.steps _ c.loop-pos.invariant.0 c.loop-pos-test.true _ c.step-next.ensures).1,
  λ set id steps. stays_leads _ _ _ _ c.requires.steps _ c.loop-pos.invariant.0 c.loop-pos-test.true _ c.step-next.ensures set id _ steps (c.loop-pos.invariant.1 set id steps),
)
