use Rattle.book.specs.Types.{bounded}
use Rattle.book.proofs.types.is_bounded.Goals as goal

pub returns : goal.returns
unfolding bounded
returns c = rw c.bound_flag.ensures.0
