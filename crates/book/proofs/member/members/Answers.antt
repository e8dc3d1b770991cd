-- `book::member::members` is the run of all members of a type.
use Rattle.book.proofs.Places.{is_inside, start_there, start_cut}
use native.Mathlib.Omega.{arith}
use mathlib.Core.Path.{refl}
use Rattle.book.proofs.member.members.Goals as goal

pub overflow_add-result : goal.overflow_add-result
overflow_add-result c = omega (arith, is_inside _ _ _ _ c.is_there.ensures c.if-is_there.true)

pub pair_there-requires : goal.pair_there-requires
pair_there-requires c = omega (arith, is_inside _ _ _ _ c.is_there.ensures c.if-is_there.true)

pub returns-then-is_there : goal.returns-then-is_there
returns-then-is_there c = start_there _ _ _ c.is_there.ensures _ c.pair_there.ensures.0 c.pair_there.ensures.1 _ refl refl c.if-is_there.true refl

pub returns : goal.returns
returns c = start_cut _ _ _ c.is_there.ensures _ c.pair_at.ensures.0 c.pair_at.ensures.1 _ refl refl c.if-is_there.false refl
