use Rattle.book.proofs.Places.{head_is, optional_is}
use borrow.Author.Rules.{rules}
use Rattle.book.proofs.member.head_there.Goals as goal

pub returns : goal.returns
returns c = search (rules, head_is, optional_is)
