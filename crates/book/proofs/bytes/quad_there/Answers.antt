use Rattle.book.proofs.Places.{quad_here}
use borrow.Author.Rules.{rules}
use Rattle.book.proofs.bytes.quad_there.Goals as goal

pub returns : goal.returns
returns c = search (rules, quad_here)
