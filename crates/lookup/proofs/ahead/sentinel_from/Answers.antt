use Rattle.lookup.proofs.Hints.{hinted_sentinel}
use borrow.Author.Rules.{rules}
use Rattle.lookup.proofs.ahead.sentinel_from.Goals as goal

pub returns : goal.returns
returns c = search (rules, hinted_sentinel)
