use Rattle.book.proofs.Places.{byte_here}
use borrow.Author.Rules.{rules}
use Rattle.book.proofs.bytes.byte_there.Goals as goal

pub returns : goal.returns
returns c = search (rules, byte_here)
