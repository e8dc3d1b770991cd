use Rattle.std.proofs.Common.{rules}
use Rattle.lookup.proofs.Aheads.{passed_at, passed_near}
use Rattle.lookup.proofs.ahead.next_header.Goals as goal

pub returns : goal.returns
returns c = search (rules, passed_at, passed_near)
