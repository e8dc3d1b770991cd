use Rattle.values.proofs.Quickly.{quick_not, place_still}
use Rattle.values.proofs.Lists.{quick_list, quick_listless, quick_counted}
use Rattle.values.proofs.Scalars.{row_next}
use borrow.Author.Rules.{rules}
use Rattle.values.proofs.quick.list_at.Goals as goal

pub returns-then-is_full : goal.returns-then-is_full
returns-then-is_full c = (search (rules, quick_not), λ p h. absurd (cc))

pub returns-then-end-from : goal.returns-then-end-from
returns-then-end-from c = (search (rules, quick_not), λ p h. absurd (cc))

pub returns-then-end-from-2 : goal.returns-then-end-from-2
returns-then-end-from-2 c = (search (rules, quick_not), λ p h. absurd (cc))

pub overflow_add-n : goal.overflow_add-n
overflow_add-n c = search (rules, row_next)

pub put_row-requires : goal.put_row-requires
put_row-requires c = place_still _ _ _ _ c.is_full.ensures c.if-is_full.false _ _ _ _ _ c.numbers_at.ensures

pub returns : goal.returns
returns c = (search (rules, quick_list, c.in_ok-past.was), search (rules, quick_counted, c.in_ok-past.was))

pub returns-in_err-past : goal.returns-in_err-past
returns-in_err-past c = rw c.from_residual.ensures (quick_listless _ _ _ _ _ _ _ _ _ _ c.in_err-past.was c.numbers_at.ensures, λ p h. absurd (cc))
