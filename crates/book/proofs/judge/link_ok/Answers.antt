use Rattle.book.proofs.Judging.{link_none, link_some}
use borrow.Author.Rules.{rules}
use Rattle.book.proofs.judge.link_ok.Goals as goal

pub returns-then-kind-eq-ENUM : goal.returns-then-kind-eq-ENUM
returns-then-kind-eq-ENUM c = search (rules, link_none)

pub returns : goal.returns
returns c = search (rules, link_some)
