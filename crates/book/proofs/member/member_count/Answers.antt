use Rattle.book.proofs.Places.{member_count_is}
use borrow.Author.Rules.{rules}
use Rattle.book.proofs.member.member_count.Goals as goal

pub returns : goal.returns
returns c = search (rules, member_count_is)
