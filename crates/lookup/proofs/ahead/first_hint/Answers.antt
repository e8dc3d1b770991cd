use Rattle.lookup.proofs.Hints.{true_start, true_nowhere}
use Rattle.std.proofs.Common.{refl}
use Rattle.lookup.proofs.ahead.first_hint.Goals as goal

pub returns-then-may_stand : goal.returns-then-may_stand
returns-then-may_stand c = λ set. true_start _ set _ _ refl (c.may_stand.ensures.0 c.if-may_stand.true)

pub returns-else-may_stand : goal.returns-else-may_stand
returns-else-may_stand c = λ set. true_nowhere _ set _ _ _ refl
