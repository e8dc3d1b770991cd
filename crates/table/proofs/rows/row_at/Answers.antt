use Rattle.table.proofs.Filling.{row_none, row_some}
use borrow.Author.Rules.{rules}
use Rattle.table.proofs.rows.row_at.Goals as goal

pub returns-then-t-n : goal.returns-then-t-n
returns-then-t-n c = search (rules, row_none)

pub returns : goal.returns
returns c = search (rules, row_some)
