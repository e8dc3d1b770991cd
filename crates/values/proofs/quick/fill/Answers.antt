use Rattle.std.proofs.Common.{rules}
use Rattle.values.proofs.Runs.{fill_end}
use Rattle.values.proofs.quick.fill.Goals as goal

pub returns : goal.returns
returns c = search (rules, fill_end)
