use Rattle.choice.proofs.Selection.{select_first, select_last, select_default}
use borrow.Author.Rules.{rules}
use Rattle.choice.proofs.select.select.Goals as goal

pub returns-in-Some : goal.returns-in-Some
returns-in-Some c = search (rules, select_first)

pub returns-in-Some-last_default : goal.returns-in-Some-last_default
returns-in-Some-last_default c = search (rules, select_last)

pub returns : goal.returns
returns c = search (rules, select_default)
