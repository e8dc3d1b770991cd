use Rattle.book.proofs.Answers.{mutable_is}
use borrow.Author.Rules.{rules}
use Rattle.book.proofs.asked.is_mutable.Goals as goal

pub returns : goal.returns
returns c = search (rules, mutable_is)
