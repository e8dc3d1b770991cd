use Rattle.std.proofs.Common.{arith, rules}
use Rattle.wire.proofs.Words.{extend_plus, extend_minus, half_some, half_small, whole_is}
use Rattle.wire.proofs.signed.extend.Goals as goal

pub returns-then-x-half : goal.returns-then-x-half
returns-then-x-half c = search (rules, extend_plus)

pub overflow_add-result : goal.overflow_add-result
overflow_add-result c = let p = c.requires in
    omega (arith, c.half_of-half.ensures, half_some _ p.0 p.1)

pub overflow_add-result-2 : goal.overflow_add-result-2
overflow_add-result-2 c = let p = c.requires in
    omega (arith, c.half_of-half.ensures, half_some _ p.0 p.1, half_small _ p.0 p.1, whole_is _ p.0 p.1)

pub returns : goal.returns
returns c = let p = c.requires in
    extend_minus _ p.0 p.1 _ _ c.half_of-half.ensures _ c.if-x-half.false (omega (arith, c.half_of-half.ensures, half_some _ p.0 p.1, half_small _ p.0 p.1, whole_is _ p.0 p.1))
