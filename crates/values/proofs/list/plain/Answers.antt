use Rattle.ground.proofs.Exits.{exits}
use Rattle.values.proofs.Lists.{plain_short}
use Rattle.values.proofs.list.plain.Goals as goal

pub returns-in_err-block : goal.returns-in_err-block
returns-in_err-block c = rw (exits c.from_residual.ensures.1) (plain_short _ _ _ _ _ _ _ _ _ _ c.block.ensures _ c.in_err-block.was)
