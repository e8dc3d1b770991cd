use Rattle.sinotayam.proofs.Preparing.{held_some}
use borrow.Author.Rules.{rules}
use Rattle.sinotayam.proofs.prepared.held.Goals as goal

pub returns-in_default : goal.returns-in_default
returns-in_default c = search (rules, held_some)
