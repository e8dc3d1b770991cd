use borrow.Author.Rules.{rules}
use Rattle.fit.proofs.IdTests.{differ_laws}
use Rattle.fit.proofs.ids.low_differ.Goals as goal

pub returns-then-not-low_is_new : goal.returns-then-not-low_is_new
returns-then-not-low_is_new c = search (rules, differ_laws, c.in-Some.ensures.steps)

pub loop-p-preserved : goal.loop-p-preserved
loop-p-preserved c = search (rules, differ_laws, c.in-Some.ensures.steps)

pub returns : goal.returns
returns c = search (rules, differ_laws, c.in_default.ensures.steps.0)
