use native.Mathlib.Omega.{arith}
use Rattle.book.proofs.Answers.{extensibility_there}
use Rattle.book.proofs.Places.{is_inside}
use borrow.Author.Rules.{rules}
use Rattle.book.proofs.asked.extensibility_at.Goals as goal

pub byte_there-requires : goal.byte_there-requires
byte_there-requires c = let h = is_inside _ _ _ _ c.is_there.ensures c.if-is_there.true in omega (arith, h)

pub returns-then-is_there : goal.returns-then-is_there
returns-then-is_there c = search (rules, extensibility_there)
