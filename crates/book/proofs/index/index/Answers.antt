use borrow.Author.Rules.{rules}
use Rattle.book.proofs.Indexing.{indexing_laws}
use Rattle.book.proofs.index.index.Goals as goal

pub loop-i-init : goal.loop-i-init
loop-i-init c = search (rules, indexing_laws)

pub overflow_cast-lent : goal.overflow_cast-lent
overflow_cast-lent c = search (rules, indexing_laws)

pub loop-i-preserved : goal.loop-i-preserved
loop-i-preserved c = search (rules, indexing_laws)

pub returns : goal.returns
returns c = search (rules, indexing_laws)
