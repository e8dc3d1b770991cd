use mathlib.Core.Path.{refl, ◌∙◌}
use Rattle.ground.proofs.Exits.{exits}
use Rattle.book.proofs.Telling.{records_start, records_bad, records_turn, records_end}
use Rattle.book.proofs.judge.records_fault.Goals as goal

pub loop-k-init : goal.loop-k-init
loop-k-init c = records_start _ _ _

pub returns-in_err-record_fault : goal.returns-in_err-record_fault
returns-in_err-record_fault c = exits c.from_residual.ensures.1 ∙ records_bad _ _ _ _ _ _ c.loop-k.invariant _ c.loop-k-test.true c.record_fault.ensures _ c.in_err-record_fault.was

pub loop-k-preserved : goal.loop-k-preserved
loop-k-preserved c = records_turn _ _ _ _ _ _ c.loop-k.invariant _ c.loop-k-test.true c.record_fault.ensures _ _ _ c.in_ok-record_fault.was c.pair_at.ensures.0 c.skip-p.ensures

pub returns : goal.returns
returns c = records_end _ _ _ _ _ _ c.loop-k.invariant _ _ _ c.loop-k-test.false c.left_at.ensures refl c.unless.ensures
