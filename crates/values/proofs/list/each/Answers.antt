use Rattle.ground.proofs.Exits.{exits}
use Rattle.values.proofs.Lists.{elements_start, elements_turn, elements_none, elements_end, elements_quick, elements_left, elements_next}
use Rattle.std.proofs.Common.{rules}
use Rattle.values.proofs.list.each.Goals as goal

pub loop-i-init : goal.loop-i-init
loop-i-init c = search (rules, elements_start)

pub overflow_add-m : goal.overflow_add-m
overflow_add-m c = elements_next _ _ _ _ _ _ _ _ _ _ _ c.loop-i.invariant _ _ c.element.ensures c.in-Some.is c.well_formed.1.0.0

pub loop-i-preserved-in-Some : goal.loop-i-preserved-in-Some
loop-i-preserved-in-Some c = elements_quick _ _ _ _ _ _ _ _ _ _ _ c.loop-i.invariant _ _ c.element.ensures c.loop-i-test.true c.in-Some.is _ c.new-c.ensures

pub returns-in_err-c : goal.returns-in_err-c
returns-in_err-c c = rw (exits c.from_residual.ensures.1) (elements_none _ _ _ _ _ _ _ _ _ _ _ (elements_left _ _ _ _ _ _ _ _ _ _ _ c.loop-i.invariant _ _ c.element.ensures c.in_default.is) c.loop-i-test.true _ _ c.scalar.ensures _ c.in_err-c.was)

pub loop-i-preserved : goal.loop-i-preserved
loop-i-preserved c = elements_turn _ _ _ _ _ _ _ _ _ _ _ (elements_left _ _ _ _ _ _ _ _ _ _ _ c.loop-i.invariant _ _ c.element.ensures c.in_default.is) c.loop-i-test.true _ _ c.scalar.ensures _ _ c.in_ok-c.was

pub returns : goal.returns
returns c = elements_end _ _ _ _ _ _ _ _ _ _ _ c.loop-i.invariant c.loop-i-test.false
