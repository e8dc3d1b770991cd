-- `book::judge::fields_ok`: a "no" says nothing.
use Rattle.ground.proofs.Tests.{apart}
use Rattle.book.proofs.Rising.{fields_kept}
use Rattle.book.proofs.judge.fields_ok.Goals as goal

pub returns-then-k-pair_there : goal.returns-then-k-pair_there
returns-then-k-pair_there c = λ t o e. absurd (apart e)

pub returns-then-byte_there-gt3 : goal.returns-then-byte_there-gt3
returns-then-byte_there-gt3 c = λ t o e. absurd (apart e)

pub returns-then-byte_there-gt2 : goal.returns-then-byte_there-gt2
returns-then-byte_there-gt2 c = λ t o e. absurd (apart e)

pub returns : goal.returns
returns c = λ t o z. fields_kept _ _ _ _ _ _ c.pair_there.ensures.0 c.byte_there.ensures.0 c.byte_there-2.ensures.0 c.byte_there-3.ensures.0
    c.if-k-pair_there.false c.if-byte_there-gt3.false c.if-byte_there-gt2.false z t o
