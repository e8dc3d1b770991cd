-- `book::judge::is_plain`: the 14 bytes are there, and a "no" says nothing.
use mathlib.Core.Path.{refl}
use native.Mathlib.Omega.{arith}
use lib.Dec.{lit<}
use Rattle.ground.proofs.Tests.{apart}
use Rattle.book.proofs.Places.{fits}
use Rattle.book.proofs.Rising.{plain_record}
use Rattle.book.proofs.judge.is_plain.Goals as goal

pub returns-then-left_at-lt14 : goal.returns-then-left_at-lt14
returns-then-left_at-lt14 c = λ types k e. absurd (apart e)

pub pair_there-requires : goal.pair_there-requires
pair_there-requires c = omega (arith, fits _ _ 0 _ c.left_at.ensures 14 (lit< tt) c.if-left_at-lt14.false)

pub returns-then-pair_there-ne14 : goal.returns-then-pair_there-ne14
returns-then-pair_there-ne14 c = λ types k e. absurd (apart e)

pub byte_there-requires : goal.byte_there-requires
byte_there-requires c = omega (arith, fits _ _ 0 _ c.left_at.ensures 14 (lit< tt) c.if-left_at-lt14.false)

pub returns-then-byte_there-gt-ANNOTATION : goal.returns-then-byte_there-gt-ANNOTATION
returns-then-byte_there-gt-ANNOTATION c = λ types k e. absurd (apart e)

pub is_bare-requires : goal.is_bare-requires
is_bare-requires c = omega (arith, fits _ _ 0 _ c.left_at.ensures 14 (lit< tt) c.if-left_at-lt14.false)

pub pair_there-requires-then-is_bare : goal.pair_there-requires-then-is_bare
pair_there-requires-then-is_bare c = omega (arith, fits _ _ 0 _ c.left_at.ensures 14 (lit< tt) c.if-left_at-lt14.false)

pub returns-then-is_bare : goal.returns-then-is_bare
returns-then-is_bare c = λ types k z. plain_record _ _ _ _ _ _ _ c.pair_there.ensures.0 c.byte_there.ensures.0 refl refl refl c.pair_there-then-is_bare.ensures.0 z
    _ c.left_at.ensures c.if-left_at-lt14.false c.if-pair_there-ne14.false c.if-byte_there-gt-ANNOTATION.false (c.is_bare.ensures c.if-is_bare.true).extensibility (c.is_bare.ensures c.if-is_bare.true).base (c.is_bare.ensures c.if-is_bare.true).element types k

pub returns : goal.returns
returns c = λ types k e. absurd (apart e)
