use Rattle.book.proofs.Places.{is_inside}
use Rattle.book.specs.Types.{member_of}
use native.Mathlib.Omega.{arith}
use borrow.Author.Rules.{rules}
use Rattle.book.proofs.member.type_index.Goals as goal

pub pair_there-requires : goal.pair_there-requires
pair_there-requires c = omega (arith, is_inside _ _ _ _ c.is_there.ensures c.if-is_there.true)

pub returns-then-is_there : goal.returns-then-is_there
unfolding member_of
returns-then-is_there c = search rules

pub returns : goal.returns
unfolding member_of
returns c = search rules
