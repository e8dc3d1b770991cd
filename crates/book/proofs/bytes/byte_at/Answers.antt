-- `book::bytes::byte_at` is the byte that the list from p on has, 0 where it has none.
use Rattle.book.proofs.Places.{inside, byte_none}
use borrow.Author.Rules.{rules}
use Rattle.book.proofs.bytes.byte_at.Goals as goal

pub returns-then-left_at-k : goal.returns-then-left_at-k
returns-then-left_at-k c = search (rules, byte_none)

pub byte_there-requires : goal.byte_there-requires
byte_there-requires c = inside _ _ _ _ c.left_at.ensures c.if-left_at-k.false
