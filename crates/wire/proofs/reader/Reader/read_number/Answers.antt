use Rattle.std.proofs.Common.{rules}
use Rattle.ground.proofs.Exits.{exits}
use Rattle.wire.proofs.Numbers.{read_whole, read_short, read_at}
use Rattle.wire.proofs.reader.Reader.read_number.Goals as goal

pub returns-then-q-width : goal.returns-then-q-width
returns-then-q-width c = search (rules, read_whole)

pub returns-in_err-c : goal.returns-in_err-c
returns-in_err-c c = rw (exits c.from_residual.ensures.1) (read_short _ _ _ _ _ c.align.ensures _ c.in_err-c.was)

pub returns : goal.returns
returns c = search (rules, read_at, c.in_ok-c.was)
