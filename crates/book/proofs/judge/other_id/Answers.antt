use Rattle.book.specs.Rules.{other_id}
use Rattle.book.proofs.judge.other_id.Goals as goal

pub returns : goal.returns
unfolding other_id
returns c = rw c.id.ensures
