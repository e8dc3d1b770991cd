use Rattle.reader.proofs.PlainSteps.{ahead_of, ahead_none}
use Rattle.book.proofs.Places.{is_inside}
use borrow.Author.Tests.{not-false}
use borrow.Author.Rules.{rules}
use Rattle.reader.proofs.Deserializer.ahead.Goals as goal

pub returns-then-not-is_there : goal.returns-then-not-is_there
returns-then-not-is_there c = ahead_none _ _ _ _ _

pub head_there-m-requires : goal.head_there-m-requires
head_there-m-requires c = is_inside _ _ _ _ c.is_there.ensures (not-false _ c.if-not-is_there.false-raw)

pub returns : goal.returns
returns c = search (rules, ahead_of)
