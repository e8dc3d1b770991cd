use Rattle.book.proofs.Places.{count_is}
use borrow.Author.Rules.{rules}
use Rattle.book.proofs.types.type_count.Goals as goal

pub returns : goal.returns
returns c = search (rules, count_is)
