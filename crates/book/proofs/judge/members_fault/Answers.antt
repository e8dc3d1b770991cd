use mathlib.Core.Path.{refl, ◌∙◌}
use mathlib.Core.Logic.{inl}
use native.Mathlib.Omega.{arith}
use Rattle.ground.proofs.Exits.{exits}
use Rattle.book.proofs.Telling.{walk_start, walk_past, walk_bad, walk_turn, walk_end}
use Rattle.book.proofs.judge.members_fault.Goals as goal

pub loop-done-init : goal.loop-done-init
loop-done-init c =
    rw (c.into_iter-done-iterator.ensures.into_iter_gives, c.enumerate-done-items.ensures.source, c.enumerate-done-items.ensures.count) (walk_start _ _ _ _ _ _ c.members.ensures)

-- the places can be counted
pub loop-done-init-derived : goal.loop-done-init-derived
loop-done-init-derived c = let few = (loop-done-init c).few in ((tt, tt, inl (omega (arith, few))), tt)

pub returns-then-left-size : goal.returns-then-left-size
returns-then-left-size c = let s = c.in-Some.ensures.steps in walk_past _ _ _ _ _ _ _ _ _ c.loop-done.invariant _ _ s.0 _ c.label_count.ensures.0 c.if-left-size.true

pub member_fault-requires : goal.member_fault-requires
member_fault-requires c = let s = c.in-Some.ensures.steps in (rw s.1 c.loop-done.invariant.ids, c.id-id.ensures)

pub returns-in_err-member_fault : goal.returns-in_err-member_fault
returns-in_err-member_fault c = let s = c.in-Some.ensures.steps in
    exits c.from_residual.ensures.1
    ∙ walk_bad _ _ _ _ _ _ _ _ _ c.loop-done.invariant _ _ s.0 _ c.label_count.ensures.0 c.if-left-size.false _ (rw s.1 at c.member_fault.ensures) _ c.in_err-member_fault.was

pub loop-done-preserved : goal.loop-done-preserved
loop-done-preserved c = let s = c.in-Some.ensures.steps in
    rw s.2
    (walk_turn _ _ _ _ _ _ _ _ _ c.loop-done.invariant _ _ s.0 _ c.label_count.ensures.0 c.if-left-size.false _ (rw s.1 at c.member_fault.ensures) _ _ _ c.in_ok-member_fault.was c.id-id.ensures
    (omega (arith, c.max-top.ensures), omega (arith, c.max-top.ensures, c.from.ensures)))

pub returns : goal.returns
returns c = let s = c.in-None.ensures.steps in walk_end _ _ _ _ _ _ _ _ _ c.loop-done.invariant _ _ s.0.0 refl c.unless.ensures
