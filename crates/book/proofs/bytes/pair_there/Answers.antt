use Rattle.book.proofs.Places.{pair_here}
use borrow.Author.Rules.{rules}
use Rattle.book.proofs.bytes.pair_there.Goals as goal

pub returns : goal.returns
returns c = search (rules, pair_here)
