use Rattle.lookup.proofs.Leading.{past_fixed}
use borrow.Author.Rules.{rules}
use Rattle.lookup.proofs.straight.past.Goals as goal

pub returns : goal.returns
returns c = search (rules, past_fixed)
