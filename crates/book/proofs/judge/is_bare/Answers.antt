-- `book::judge::is_bare`: a "no" says nothing.
use Rattle.ground.proofs.Tests.{apart}
use Rattle.book.proofs.Rising.{bare_bytes}
use Rattle.book.proofs.judge.is_bare.Goals as goal

pub returns-then-byte_there-gt2 : goal.returns-then-byte_there-gt2
returns-then-byte_there-gt2 c = λ e. absurd (apart e)

pub returns-then-quad_there-ne0 : goal.returns-then-quad_there-ne0
returns-then-quad_there-ne0 c = λ e. absurd (apart e)

pub returns : goal.returns
returns c = λ z. bare_bytes _ _ _ _ c.byte_there.ensures.0 c.quad_there.ensures c.quad_there-2.ensures c.if-byte_there-gt2.false c.if-quad_there-ne0.false z
