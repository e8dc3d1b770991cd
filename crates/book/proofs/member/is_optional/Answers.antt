use Rattle.book.specs.Types.{optional}
use Rattle.book.proofs.member.is_optional.Goals as goal

pub returns : goal.returns
unfolding optional
returns c = rw c.flags.ensures.0
