use Rattle.std.proofs.Common.{rules}
use Rattle.lookup.proofs.Xcdr2Turns.{times_fits}
use Rattle.lookup.proofs.Aheads.{ahead_long}
use Rattle.lookup.proofs.ahead.with_nextint.Goals as goal

pub returns : goal.returns
returns c = search (rules, ahead_long, times_fits)
