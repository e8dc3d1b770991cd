-- `book::bytes::skip` stands n bytes on or at the end, where as much is left.
use Rattle.book.proofs.Places.{skip_all, skip_on, inside}
use native.Mathlib.Omega.{arith}
use Rattle.book.proofs.bytes.skip.Goals as goal

pub returns-then-left_at-n : goal.returns-then-left_at-n
returns-then-left_at-n c = search skip_all

pub overflow_add-result : goal.overflow_add-result
overflow_add-result c = omega (arith, inside _ _ _ _ c.left_at.ensures c.if-left_at-n.false)

pub returns : goal.returns
returns c = search skip_on
