-- `fit::chain` meets its contract, by one law for each answer. Assumes nothing.
use borrow.Author.Rules.{rules}
use Rattle.fit.proofs.Measuring.{Chain-laws}
use Rattle.fit.proofs.chain.Goals as goal

pub returns-then-not-clauses_met : goal.returns-then-not-clauses_met
returns-then-not-clauses_met c = search (rules, Chain-laws)

pub returns-then-m-gt-LONGEST : goal.returns-then-m-gt-LONGEST
returns-then-m-gt-LONGEST c = search (rules, Chain-laws)

pub returns-then-opens : goal.returns-then-opens
returns-then-opens c = search (rules, Chain-laws)

pub returns : goal.returns
returns c = search (rules, Chain-laws)
