-- `book::judge::record_fault`: the quick ways where they tell; else the length, the own bytes, the members.
use mathlib.Core.Path.{◌∙◌}
use Rattle.ground.proofs.Exits.{exits}
use Rattle.book.proofs.Faults.{record_nothing}
use Rattle.book.proofs.Telling.{record_past, record_small, record_own, record_members}
use Rattle.book.proofs.judge.record_fault.Goals as goal

pub returns-then-is_plain : goal.returns-then-is_plain
returns-then-is_plain c = record_nothing _ _ _ (c.is_plain.ensures _ _ c.if-is_plain.true)

pub returns-then-is_structure : goal.returns-then-is_structure
returns-then-is_structure c = record_nothing _ _ _ (c.is_structure.ensures _ c.if-is_structure.true)

pub returns-in_err-unless : goal.returns-in_err-unless
returns-in_err-unless c = exits c.from_residual.ensures.1 ∙ record_past _ _ _ _ _ _ c.pair_at-size.ensures.0 c.left_at.ensures _ _ c.unless.ensures c.in_err-unless.was

pub returns-then-size-lt14 : goal.returns-then-size-lt14
returns-then-size-lt14 c = record_small _ _ _ _ _ _ c.pair_at-size.ensures.0 c.left_at.ensures _ _ c.unless.ensures c.in_ok-unless.was c.if-size-lt14.true

pub returns-in_err-own_fault : goal.returns-in_err-own_fault
returns-in_err-own_fault c = exits c.from_residual-in_err-own_fault.ensures.1 ∙ record_own _ _ _ _ _ _ c.pair_at-size.ensures.0 c.left_at.ensures _ _ c.unless.ensures c.in_ok-unless.was c.if-size-lt14.false _ c.own_fault.ensures _ c.in_err-own_fault.was

pub returns : goal.returns
returns c = record_members _ _ _ _ _ _ c.pair_at-size.ensures.0 c.left_at.ensures _ _ c.unless.ensures c.in_ok-unless.was c.if-size-lt14.false _ c.own_fault.ensures _ _ c.in_ok-own_fault.was c.members_fault.ensures
