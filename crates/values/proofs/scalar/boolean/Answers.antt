use Rattle.ground.proofs.Exits.{exits}
use Rattle.values.proofs.Scalars.{boolean_row, boolean_none}
use Rattle.std.proofs.Common.{rules}
use Rattle.values.proofs.scalar.boolean.Goals as goal

pub returns-in_err-v : goal.returns-in_err-v
returns-in_err-v c = rw (exits c.from_residual.ensures.1) (boolean_none _ _ _ _ _ _ _ c.read_boolean.ensures _ c.in_err-v.was)

pub returns : goal.returns
returns c = search (rules, boolean_row, c.in_ok-v.was)
