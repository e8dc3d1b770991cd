use Rattle.book.specs.Fault.{unless}
use Rattle.book.proofs.judge.unless.Goals as goal

pub returns-then-kept : goal.returns-then-kept
unfolding unless
returns-then-kept c = rw c.if-kept.true

pub returns : goal.returns
unfolding unless
returns c = rw c.if-kept.false
