use Rattle.values.proofs.Lists.{quick_else, quick_all, quick_count}
use borrow.Author.Rules.{rules}
use Rattle.values.proofs.list.elements.Goals as goal

pub overflow_add-result : goal.overflow_add-result
overflow_add-result c = search (rules, quick_count)

pub returns-in-Some : goal.returns-in-Some
returns-in-Some c = search (rules, quick_else, quick_all)

pub returns : goal.returns
returns c = search (rules, quick_else)
