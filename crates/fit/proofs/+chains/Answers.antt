-- `fit::chains` meets its contract: each record is measured once those below it are. Assumes nothing.
use borrow.Author.Rules.{rules}
use Rattle.fit.proofs.Measuring.{chains_none, chains_next}
use Rattle.fit.proofs.+chains.Goals as goal

pub returns-then-n-eq0 : goal.returns-then-n-eq0
returns-then-n-eq0 t c = search (rules, chains_none)

pub returns : goal.returns
returns t c = search (rules, chains_next)
