use Rattle.choice.proofs.Selection.{by_value, by_none}
use borrow.Author.Rules.{rules}
use Rattle.choice.proofs.select.by_default_value.Goals as goal

pub returns-then-construct-eq-USE_DEFAULT : goal.returns-then-construct-eq-USE_DEFAULT
returns-then-construct-eq-USE_DEFAULT c = search (rules, by_value, by_none)

pub returns : goal.returns
returns c = search (rules, by_value, by_none)
