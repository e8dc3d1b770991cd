use Rattle.book.proofs.Judging.{union_first_law}
use borrow.Author.Rules.{rules}
use Rattle.book.proofs.judge.first_of_union.Goals as goal

pub returns : goal.returns
returns c = search (rules, union_first_law)
