use Rattle.sinotayam.proofs.Preparing.{held_none, held_types}
use borrow.Author.Rules.{rules}
use Rattle.sinotayam.proofs.read_data_prepared.Goals as goal

pub returns-in_default : goal.returns-in_default
returns-in_default c = search (rules, held_none)

pub returns : goal.returns
returns c = search (rules, held_types)
