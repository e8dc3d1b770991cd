-- `fit::check` meets its contract, by one law for each number. Assumes nothing.
use Rattle.fit.proofs.Checking.{judge_few, check_book, check_root, check_fit, check_unfit}
use borrow.Author.Rules.{rules}
use Rattle.fit.proofs.check.Goals as goal

pub returns-then-not-is_right : goal.returns-then-not-is_right
returns-then-not-is_right c = search (rules, check_book)

pub slice_bounds-types-end : goal.slice_bounds-types-end
slice_bounds-types-end c =
    search (rules, judge_few _ c.args.root c.args.only_xcdr2 _ c.judge_into-found.ensures.0 _ c.is_right.ensures c.if-not-is_right.false _ c.type_count-n.ensures.0)

pub returns-then-n-root : goal.returns-then-n-root
returns-then-n-root c = search (rules, check_root)

pub returns-then-fits_by : goal.returns-then-fits_by
returns-then-fits_by c = search (rules, check_fit)

pub returns : goal.returns
returns c = search (rules, check_unfit)
