use Rattle.sinotayam.proofs.Preparing.{read_bad, read_index}
use borrow.Author.Rules.{rules}
use Rattle.sinotayam.proofs.read.Goals as goal

pub returns-in-Ok : goal.returns-in-Ok
returns-in-Ok c = search (rules, read_index, c.prepare_own.ensures.2)

pub returns-in-Err : goal.returns-in-Err
returns-in-Err c = search (rules, read_bad)
