use Rattle.std.proofs.Common.{rules}
use Rattle.lookup.proofs.Leading.{stays, passes2}
use Rattle.lookup.proofs.straight.step_v2.Goals as goal

pub returns-then-id-wanted : goal.returns-then-id-wanted
returns-then-id-wanted c = search (rules, stays)

pub returns : goal.returns
returns c = search (rules, passes2)
