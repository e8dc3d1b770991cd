use Rattle.book.specs.Types.{member_of}
use borrow.Author.Rules.{rules}
use Rattle.book.proofs.member.construct.Goals as goal

pub returns : goal.returns
unfolding member_of
returns c = search rules
