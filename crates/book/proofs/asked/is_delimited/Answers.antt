use Rattle.book.proofs.Answers.{delimited_is}
use borrow.Author.Rules.{rules}
use Rattle.book.proofs.asked.is_delimited.Goals as goal

pub returns : goal.returns
returns c = search (rules, delimited_is)
