use Rattle.std.proofs.Common.{arith}
use Rattle.wire.proofs.Moves.{seek_at, seek_lacks}
use Rattle.wire.proofs.cursor.Cursor.seek.Goals as goal

pub returns-then-need-gt0 : goal.returns-then-need-gt0
returns-then-need-gt0 c = seek_lacks _ _ _ _ (omega arith) (omega arith)

pub returns : goal.returns
returns c = rw c.new.ensures (seek_at _ _ _ (omega arith))
