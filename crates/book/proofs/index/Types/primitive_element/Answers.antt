use borrow.Author.Rules.{rules}
use Rattle.book.proofs.Answers.{primitive_is}
use Rattle.book.proofs.index.Types.primitive_element.Goals as goal

pub returns : goal.returns
returns c = search (rules, primitive_is)
