use Rattle.book.proofs.Places.{label_count_is}
use borrow.Author.Rules.{rules}
use Rattle.book.proofs.member.label_count.Goals as goal

pub returns : goal.returns
returns c = search (rules, label_count_is)
