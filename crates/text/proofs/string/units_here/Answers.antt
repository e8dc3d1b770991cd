use Rattle.std.proofs.Common.{◌∙◌, arith}
use Rattle.ground.proofs.Exits.{exits}
use Rattle.text.proofs.Strings.{units_start, units_short, units_turn, units_whole, units_half, units_bad}
use Rattle.text.proofs.string.units_here.Goals as goal

pub loop-init : goal.loop-init
loop-init c = units_start _ _ _ _

pub returns-in_err-u : goal.returns-in_err-u
returns-in_err-u c = exits c.from_residual.ensures.1 ∙ units_short _ _ _ _ _ _ _ _ c.loop.invariant (omega (arith, c.loop-test.true)) _ c.read_number.ensures _ c.in_err-u.was

pub loop-preserved : goal.loop-preserved
loop-preserved c = units_turn _ _ _ _ _ _ _ _ c.loop.invariant (omega (arith, c.loop-test.true)) _ c.read_number.ensures _ _ c.in_ok-u.was _ c.next_unit-state.ensures _ (omega arith)

pub returns-in-Whole : goal.returns-in-Whole
returns-in-Whole c = units_whole _ _ _ _ _ _ _ _ c.loop.invariant (omega (arith, c.loop-test.false)) c.in-Whole.is

pub returns-in-Half : goal.returns-in-Half
returns-in-Half c = units_half _ _ _ _ _ _ _ _ c.loop.invariant (omega (arith, c.loop-test.false)) c.in-Half.is

pub returns-in-Bad : goal.returns-in-Bad
returns-in-Bad c = units_bad _ _ _ _ _ _ _ _ c.loop.invariant (omega (arith, c.loop-test.false)) c.in-Bad.is
