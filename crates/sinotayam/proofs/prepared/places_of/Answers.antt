use Rattle.sinotayam.proofs.Preparing.{prepare_good, index_good}
use borrow.Author.Rules.{rules}
use Rattle.sinotayam.proofs.prepared.places_of.Goals as goal

pub returns : goal.returns
returns c = search (rules, prepare_good, index_good)
