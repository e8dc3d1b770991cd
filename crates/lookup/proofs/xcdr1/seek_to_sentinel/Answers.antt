-- The arm of None is never taken.
use Rattle.std.proofs.Common.{rules}
use Rattle.lookup.proofs.Xcdr1Turns.{sentinel_not}
use Rattle.lookup.proofs.xcdr1.seek_to_sentinel.Goals as goal

pub returns-in-None : goal.returns-in-None
returns-in-None c = search (rules, sentinel_not, c.in_ok-found.was)
