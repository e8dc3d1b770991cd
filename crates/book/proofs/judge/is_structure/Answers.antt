use native.Mathlib.Omega.{arith}
use lib.Dec.{lit<}
use borrow.Author.Rules.{rules}
use borrow.Author.Tests.{not-false}
use Rattle.ground.proofs.Tests.{apart}
use Rattle.book.proofs.Places.{fits}
use Rattle.book.proofs.Rising.{rise_start, rise_turn, rise_end}
use Rattle.book.proofs.judge.is_structure.Goals as goal

pub returns-then-left_at-size : goal.returns-then-left_at-size
returns-then-left_at-size c = λ types e. absurd (apart e)

pub returns-then-size-lt14 : goal.returns-then-size-lt14
returns-then-size-lt14 c = λ types e. absurd (apart e)

pub own_plain-requires : goal.own_plain-requires
own_plain-requires c = omega (arith, fits _ _ 0 _ c.left_at.ensures 14 (lit< tt) (omega arith))

pub returns-then-not-own_plain : goal.returns-then-not-own_plain
returns-then-not-own_plain c = λ types e. absurd (apart e)

pub overflow_add-p : goal.overflow_add-p
overflow_add-p c = omega (arith, fits _ _ 0 _ c.left_at.ensures 14 (lit< tt) (omega arith))

pub loop-left-init : goal.loop-left-init
loop-left-init c = search (rules, rise_start)

pub returns-then-room-lt9 : goal.returns-then-room-lt9
returns-then-room-lt9 c = λ types e. absurd (apart e)

pub returns-then-id-top : goal.returns-then-id-top
returns-then-id-top c = λ types e. absurd (apart e)

pub returns-then-not-fields_ok : goal.returns-then-not-fields_ok
returns-then-not-fields_ok c = λ types e. absurd (apart e)

pub returns-then-room-step : goal.returns-then-room-step
returns-then-room-step c = λ types e. absurd (apart e)

pub loop-left-preserved : goal.loop-left-preserved
loop-left-preserved c = let o = c.own_plain in
    rise_turn _ _ _ _ _ _ _ _ _ c.loop-left.invariant c.loop-left-test.true _ _ (o.ensures.0 (not-false o.result c.if-not-own_plain.false-raw)) c.quad_there-id.ensures
    c.if-id-top.false c.if-not-fields_ok.false-raw c.fields_ok.ensures _ c.byte_there.ensures.0 c.if-room-step.false

pub returns : goal.returns
returns c = let o = c.own_plain in
    λ types z. rise_end _ _ _ _ _ _ c.pair_at-size.ensures.0 c.left_at.ensures c.if-left_at-size.false c.if-size-lt14.false _ _ _ _ c.loop-left.invariant
    c.loop-left-test.false (o.ensures.1 _ (not-false o.result c.if-not-own_plain.false-raw)) z types
