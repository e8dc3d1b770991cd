use Rattle.std.proofs.Common.{arith, rules}
use Rattle.values.proofs.Scalars.{enum_none}
use Rattle.values.proofs.scalar.enum_type.Goals as goal

pub returns-in_default : goal.returns-in_default
returns-in_default c =
    let h = c.in_default.if-base-lt3-own.true in
    enum_none _ _ _ _ _ _ (λ e. omega (arith, e, h)) (λ e. omega (arith, e, h)) (λ e. omega (arith, e, h))

pub returns-in_default-2 : goal.returns-in_default-2
returns-in_default-2 c =
    let h = c.in_default.if-base-lt5-own.false in
    enum_none _ _ _ _ _ _ (λ e. omega (arith, e, h)) (λ e. omega (arith, e, h)) (search (rules))
