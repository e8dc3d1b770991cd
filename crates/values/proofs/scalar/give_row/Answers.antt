use Rattle.table.proofs.Filling.{full_fits}
use Rattle.values.proofs.Scalars.{row_next, row_full, row_given}
use borrow.Author.Rules.{rules}
use Rattle.values.proofs.scalar.give_row.Goals as goal

pub returns-then-is_full : goal.returns-then-is_full
returns-then-is_full c = search (rules, row_full)

pub put_row-requires : goal.put_row-requires
put_row-requires c = search (rules, full_fits)

pub overflow_add-result : goal.overflow_add-result
overflow_add-result c = search (rules, row_next)

pub returns : goal.returns
returns c = search (rules, row_given)
