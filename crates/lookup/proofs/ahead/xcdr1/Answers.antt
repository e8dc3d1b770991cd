use Rattle.std.proofs.Common.{rules}
use Rattle.lookup.proofs.Aheads.{ahead1}
use Rattle.lookup.proofs.ahead.xcdr1.Goals as goal

pub returns : goal.returns
returns c = search (rules, ahead1)
