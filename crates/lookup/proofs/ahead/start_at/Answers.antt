use Rattle.std.proofs.Common.{rules, refl}
use Rattle.lookup.proofs.Hints.{start_aligned, start_none, start_at}
use Rattle.lookup.proofs.ahead.start_at.Goals as goal

pub returns-then-may_stand : goal.returns-then-may_stand
returns-then-may_stand c = start_aligned _ _ _ _ (c.may_stand.ensures.0 c.if-may_stand.true) _ refl

pub returns-then-not-some : goal.returns-then-not-some
returns-then-not-some c = search (rules, start_none)

pub returns : goal.returns
returns c = search (rules, start_at, c.in_ok-back.was)
