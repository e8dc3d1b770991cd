use native.Mathlib.Omega.{arith}
use Rattle.lookup.proofs.Leading.{sought_absent, sought_found}
use Rattle.lookup.proofs.straight.look_up.Goals as goal

pub returns-then-r-q-lt4 : goal.returns-then-r-q-lt4
returns-then-r-q-lt4 c = sought_absent _ _ _ _ _ (grind (arith, (c.may_stand.ensures.0 c.if-not-may_stand.false).inside)) (grind (arith, (c.may_stand.ensures.0 c.if-not-may_stand.false).aligned)) (rw c.from-wanted.ensures at c.nearest-q.ensures) c.if-r-q-lt4.true

pub returns-in-Some : goal.returns-in-Some
returns-in-Some c =
    sought_found _ _ _ _ _ _ _ (grind (arith, (c.may_stand.ensures.0 c.if-not-may_stand.false).inside)) (grind (arith, (c.may_stand.ensures.0 c.if-not-may_stand.false).aligned)) (rw c.from-wanted.ensures at c.nearest-q.ensures) c.if-r-q-lt4.false
    (rw c.from-wanted.ensures at c.header_at.ensures) c.in-Some.is
