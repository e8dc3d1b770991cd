use Rattle.book.proofs.Judging.{element_some, element_none}
use borrow.Author.Rules.{rules}
use Rattle.book.proofs.judge.element_ok.Goals as goal

pub returns-then-kind : goal.returns-then-kind
returns-then-kind c = search (rules, element_some)

pub returns : goal.returns
returns c = search (rules, element_none)
