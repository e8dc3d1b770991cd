use Rattle.book.proofs.Places.{is_inside, head_is}
use borrow.Author.Rules.{rules}
use Rattle.book.proofs.member.head_at.Goals as goal

pub head_there-requires : goal.head_there-requires
head_there-requires c = is_inside _ _ _ _ c.is_there.ensures c.if-is_there.true

pub returns : goal.returns
returns c = search (rules, head_is)
