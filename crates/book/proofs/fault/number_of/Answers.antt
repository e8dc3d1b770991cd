use Rattle.book.specs.Fault.{fault_number}
use Rattle.book.proofs.fault.number_of.Goals as goal

pub returns-in-Ok : goal.returns-in-Ok
unfolding fault_number
returns-in-Ok c = rw c.in-Ok.is

pub returns-in-Err : goal.returns-in-Err
unfolding fault_number
returns-in-Err c = rw c.in-Err.is c.number.ensures
