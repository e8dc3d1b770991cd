use borrow.Author.Rules.{rules}
use Rattle.book.proofs.Judging.{every_laws}
use Rattle.fit.proofs.clauses.members_supported.Goals as goal

pub returns-then-not-member_supported : goal.returns-then-not-member_supported
returns-then-not-member_supported c = search (rules, every_laws, c.in-Some.ensures.steps)

pub loop-p-preserved : goal.loop-p-preserved
loop-p-preserved c = search (rules, every_laws, c.in-Some.ensures.steps)

pub returns : goal.returns
returns c = search (rules, every_laws, c.in-None.ensures.steps)
