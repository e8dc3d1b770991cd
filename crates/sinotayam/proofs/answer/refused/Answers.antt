use Rattle.sinotayam.proofs.Settling.{settled_cleared}
use borrow.Author.Rules.{rules}
use Rattle.sinotayam.proofs.answer.refused.Goals as goal

pub returns : goal.returns
returns c = search (rules, settled_cleared)
