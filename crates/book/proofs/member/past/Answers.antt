-- `book::member::past` is the place past a member, or the end.
use Rattle.book.proofs.Places.{is_inside, past_on, past_end, past_none}
use native.Mathlib.Omega.{arith}
use borrow.Author.Rules.{rules}
use Rattle.book.proofs.member.past.Goals as goal

pub overflow_add-q : goal.overflow_add-q
overflow_add-q c = omega (arith, is_inside _ _ _ _ c.is_there.ensures c.if-is_there.true)

pub byte_there-requires : goal.byte_there-requires
byte_there-requires c = is_inside _ _ _ _ c.is_there.ensures c.if-is_there.true

pub overflow_add-q-then-is_there : goal.overflow_add-q-then-is_there
overflow_add-q-then-is_there c = search (rules, is_inside _ _ _ _ c.is_there.ensures c.if-is_there.true)

pub returns-then-q-end : goal.returns-then-q-end
returns-then-q-end c = search (rules, past_on)

pub returns-else-q-end : goal.returns-else-q-end
returns-else-q-end c = search (rules, past_end)

pub returns-else-is_there : goal.returns-else-is_there
returns-else-is_there c = search (rules, past_none)
