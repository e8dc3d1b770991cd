use Rattle.values.proofs.Quickly.{quick_not}
use Rattle.values.proofs.Runs.{number_yes, number_some, number_most, there_inside, there_place, run_done}
use Rattle.values.proofs.Lists.{quick_empty}
use borrow.Author.Rules.{rules}
use Rattle.values.proofs.quick.numbers_at.Goals as goal

pub returns-then-count-eq0 : goal.returns-then-count-eq0
returns-then-count-eq0 c = search (rules, quick_empty)

pub returns-then-not-is_number : goal.returns-then-not-is_number
returns-then-not-is_number c = search (rules, quick_not)

pub returns-then-at : goal.returns-then-at
returns-then-at c = search (rules, quick_not)

pub align-requires : goal.align-requires
align-requires c = search (rules, number_some)

pub end_of-requires : goal.end_of-requires
end_of-requires c = search (rules, number_some, number_most)

pub fill_by_width-requires : goal.fill_by_width-requires
fill_by_width-requires c = (search (rules, number_yes), search rules, search rules, there_inside _ _ _ _ _ _ _ c.end_of.ensures c.in_ok-end.was, there_place _ _ _ _ _ _ _ c.end_of.ensures c.in_ok-end.was)

pub returns-in_default : goal.returns-in_default
returns-in_default c = search (rules, quick_not)

pub returns : goal.returns
returns c = search (rules, number_yes, run_done, c.in_ok-end.was)

pub returns-in_err-end : goal.returns-in_err-end
returns-in_err-end c = rw c.from_residual.ensures (quick_not _ _ _ _ _)
