use Rattle.ground.proofs.Exits.{exits}
use Rattle.wire.proofs.Numbers.{here_short, here_fits, here_got}
use Rattle.std.proofs.Common.{rules}
use Rattle.wire.proofs.reader.Reader.number_here.Goals as goal

pub from_bytes-requires : goal.from_bytes-requires
from_bytes-requires c = search (rules, here_fits, c.in_ok-past.was)

pub returns-in_err-past : goal.returns-in_err-past
returns-in_err-past c = rw (exits c.from_residual.ensures.1) (here_short _ _ _ _ _ c.seek.ensures _ c.in_err-past.was)

pub returns : goal.returns
returns c = here_got _ _ _ _ _ c.seek.ensures _ _ c.in_ok-past.was c.from_bytes.ensures.0 c.from_bytes.ensures.1
