use borrow.Author.Rules.{rules}
use Rattle.book.proofs.Judging.{every_laws}
use Rattle.book.proofs.judge.id_is_new.Goals as goal

pub returns-then-not-other_id : goal.returns-then-not-other_id
returns-then-not-other_id c = search (rules, every_laws, c.in-Some.ensures.steps)

pub loop-p-preserved : goal.loop-p-preserved
loop-p-preserved c = search (rules, every_laws, c.in-Some.ensures.steps)

pub returns : goal.returns
returns c = search (rules, every_laws, c.in-None.ensures.steps)
