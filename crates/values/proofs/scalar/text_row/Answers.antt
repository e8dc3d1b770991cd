use Rattle.ground.proofs.Exits.{exits}
use Rattle.values.proofs.Scalars.{text_row, text_none}
use Rattle.std.proofs.Common.{rules}
use Rattle.values.proofs.scalar.text_row.Goals as goal

pub returns-in_err-start : goal.returns-in_err-start
returns-in_err-start c = rw (exits c.from_residual.ensures.1) (text_none _ _ _ _ _ _ c.in_err-start.was)

pub returns : goal.returns
returns c = search (rules, text_row, c.in_ok-start.was)
