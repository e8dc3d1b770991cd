-- `book::bytes::is_there` is whether the byte is there: what is left k bytes from the start is more than p just where what is left at p is more than k.
use Rattle.book.proofs.Places.{there_is}
use borrow.Author.Rules.{rules}
use Rattle.book.proofs.bytes.is_there.Goals as goal

pub returns : goal.returns
returns c = search (rules, there_is)
