use Rattle.book.specs.Types.{default}
use Rattle.book.proofs.member.is_default.Goals as goal

pub returns : goal.returns
unfolding default
returns c = rw c.flags.ensures.0
