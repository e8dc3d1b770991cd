use Rattle.lookup.proofs.Leading.{stays, end1, empty1, past1}
use borrow.Author.Rules.{rules}
use Rattle.lookup.proofs.straight.step_v1.Goals as goal

pub returns-then-length-eq0 : goal.returns-then-length-eq0
returns-then-length-eq0 c = search (rules, empty1)

pub returns-then-id-wanted : goal.returns-then-id-wanted
returns-then-id-wanted c = search (rules, stays)

pub returns-then-id-length : goal.returns-then-id-length
returns-then-id-length c = search (rules, end1)

pub returns : goal.returns
returns c = search (rules, past1)
