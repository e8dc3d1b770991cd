use Rattle.book.proofs.Places.{is_inside}
use Rattle.book.specs.Types.{member_of}
use native.Mathlib.Omega.{arith}
use borrow.Author.Rules.{rules}
use Rattle.book.proofs.member.id.Goals as goal

pub quad_there-requires : goal.quad_there-requires
quad_there-requires c = omega (arith, is_inside _ _ _ _ c.is_there.ensures c.if-is_there.true)

pub returns-then-is_there : goal.returns-then-is_there
unfolding member_of
returns-then-is_there c = search rules

pub returns : goal.returns
unfolding member_of
returns c = search rules
