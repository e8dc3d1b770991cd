use Rattle.reader.proofs.PlainSteps.{kind_here}
use Rattle.book.proofs.Places.{is_inside}
use borrow.Author.Tests.{not-false}
use borrow.Author.Rules.{rules}
use Rattle.reader.proofs.plain.kind_of.Goals as goal

pub read_as_there-requires : goal.read_as_there-requires
read_as_there-requires c = is_inside _ _ _ _ c.is_there.ensures (not-false _ c.if-not-is_there.false-raw)

pub returns : goal.returns
returns c = search (rules, kind_here)
