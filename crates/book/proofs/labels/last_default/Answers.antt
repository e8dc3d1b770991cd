use borrow.Author.Rules.{rules}
use Rattle.book.proofs.Search.{last_start, last_laws}
use Rattle.book.proofs.labels.last_default.Goals as goal

pub loop-p-init : goal.loop-p-init
loop-p-init c = rw c.into_iter-p-iterator.ensures.into_iter_gives (last_start _ _ _ c.members-p-items.ensures)

pub loop-p-preserved-then-is_default : goal.loop-p-preserved-then-is_default
loop-p-preserved-then-is_default c = search (rules, last_laws, c.in-Some.ensures.steps)

pub loop-p-preserved : goal.loop-p-preserved
loop-p-preserved c = search (rules, last_laws, c.in-Some.ensures.steps)

pub returns : goal.returns
returns c = search (rules, last_laws, c.in-None.ensures.steps)
