use Rattle.std.proofs.Common.{rules}
use Rattle.lookup.proofs.Aheads.{ahead_same, ahead_fixed}
use Rattle.lookup.proofs.ahead.xcdr2.Goals as goal

pub returns-then-code-ge4 : goal.returns-then-code-ge4
returns-then-code-ge4 c = search (rules, ahead_same)

pub returns : goal.returns
returns c = search (rules, ahead_fixed)
