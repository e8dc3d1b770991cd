use Rattle.reader.proofs.PlainSteps.{member_kind}
use Rattle.book.proofs.Places.{is_inside}
use borrow.Author.Tests.{not-false}
use borrow.Author.Rules.{rules}
use Rattle.reader.proofs.plain.kind_found.Goals as goal

pub head_there-m-requires : goal.head_there-m-requires
head_there-m-requires c = is_inside _ _ _ _ c.is_there.ensures (not-false _ c.if-not-is_there.false-raw)

pub returns : goal.returns
returns c = search (rules, member_kind, c.kind_of.ensures)
