-- `fit::ids::other_low` meets its contract. Assumes nothing.
use Rattle.fit.proofs.IdTests.{other_is}
use borrow.Author.Rules.{rules}
use Rattle.fit.proofs.ids.other_low.Goals as goal

pub returns : goal.returns
returns c = search (rules, other_is)
