use Rattle.values.proofs.Lists.{list_full, list_rows}
use Rattle.table.proofs.Filling.{full_fits}
use Rattle.values.proofs.Scalars.{row_next}
use borrow.Author.Rules.{rules}
use Rattle.values.proofs.list.list.Goals as goal

pub returns-then-is_full : goal.returns-then-is_full
returns-then-is_full c = search (rules, list_full, list_rows)

pub put_row-requires : goal.put_row-requires
put_row-requires c = search (rules, full_fits)

pub overflow_add-n : goal.overflow_add-n
overflow_add-n c = search (rules, row_next)

pub returns : goal.returns
returns c = search (rules, list_rows)
