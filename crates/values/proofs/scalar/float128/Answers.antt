use Rattle.ground.proofs.Exits.{exits}
use Rattle.values.proofs.Scalars.{float128_row, float128_short}
use Rattle.std.proofs.Common.{rules}
use Rattle.values.proofs.scalar.float128.Goals as goal

pub returns-in_err-low : goal.returns-in_err-low
returns-in_err-low c = rw (exits c.from_residual.ensures.1) (float128_short _ _ _ _ _ _ _ c.read_float128.ensures _ c.in_err-low.was)

pub returns : goal.returns
returns c = search (rules, float128_row, c.in_ok-low.was)
