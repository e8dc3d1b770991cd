use Rattle.wire.specs.Place.{align_to}
use Rattle.wire.proofs.cursor.Cursor.align.Goals as goal

pub returns : goal.returns
unfolding align_to
returns c = cc
