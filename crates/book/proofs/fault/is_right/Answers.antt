use Rattle.book.specs.Fault.{is_right}
use Rattle.book.proofs.fault.is_right.Goals as goal

pub returns-in-Ok : goal.returns-in-Ok
unfolding is_right
returns-in-Ok c = rw c.in-Ok.is

pub returns-in-Err : goal.returns-in-Err
unfolding is_right
returns-in-Err c = rw c.in-Err.is
