use Rattle.lookup.proofs.Leading.{past_long, past_cut}
use borrow.Author.Rules.{rules}
use Rattle.lookup.proofs.straight.past_long.Goals as goal

pub returns-then-r-pos-lt8 : goal.returns-then-r-pos-lt8
returns-then-r-pos-lt8 c = search (rules, past_cut)

pub returns : goal.returns
returns c = search (rules, past_long)
