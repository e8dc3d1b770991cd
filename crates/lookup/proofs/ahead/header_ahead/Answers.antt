use Rattle.std.proofs.Common.{rules}
use Rattle.lookup.proofs.Hints.{ahead_at}
use Rattle.lookup.proofs.ahead.header_ahead.Goals as goal

pub returns : goal.returns
returns c = search (rules, ahead_at)
