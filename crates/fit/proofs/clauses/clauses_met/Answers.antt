-- `fit::clauses::clauses_met` meets its contract: each clause's function is asked, and the law puts them together. Assumes nothing.
use Rattle.fit.proofs.ClauseTests.{all_met}
use borrow.Author.Rules.{rules}
use Rattle.fit.proofs.clauses.clauses_met.Goals as goal

pub returns : goal.returns
returns c = search (rules, all_met)
