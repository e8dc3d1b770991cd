use borrow.Author.Rules.{rules}
use Rattle.book.proofs.Search.{first_bits, first_laws}
use Rattle.book.proofs.labels.first_with.Goals as goal

pub loop-p-init : goal.loop-p-init
loop-p-init c = rw (c.into_iter-p-iterator.ensures.into_iter_gives, c.members-p-items.ensures.is)

pub returns-then-holds : goal.returns-then-holds
returns-then-holds c = search (rules, first_bits, first_laws, c.in-Some.ensures.steps)

pub loop-p-preserved : goal.loop-p-preserved
loop-p-preserved c = search (rules, first_laws, c.in-Some.ensures.steps)

pub returns : goal.returns
returns c = search (rules, first_bits, first_laws, c.in-None.ensures.steps)
