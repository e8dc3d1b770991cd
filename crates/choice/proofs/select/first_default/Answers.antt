use borrow.Author.Rules.{rules}
use Rattle.choice.proofs.Selection.{default_laws}
use Rattle.choice.proofs.select.first_default.Goals as goal

pub loop-p-init : goal.loop-p-init
loop-p-init c = rw (c.into_iter-p-iterator.ensures.into_iter_gives, c.members-p-items.ensures.is)

pub returns-then-is_default : goal.returns-then-is_default
returns-then-is_default c = search (rules, default_laws, c.in-Some.ensures.steps)

pub loop-p-preserved : goal.loop-p-preserved
loop-p-preserved c = search (rules, default_laws, c.in-Some.ensures.steps)

pub returns : goal.returns
returns c = search (rules, default_laws, c.in-None.ensures.steps)
