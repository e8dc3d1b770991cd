use Rattle.std.proofs.Common.{rules}
use Rattle.cases.proofs.Cases.{case_start, case_end, book_in, message_in, replied_wrong, replied_case}
use Rattle.cases.proofs.input.read_case.Goals as goal

pub overflow_add-start : goal.overflow_add-start
overflow_add-start c = search (rules, case_start, c.in_ok-case.was)

pub overflow_add-end : goal.overflow_add-end
overflow_add-end c = search (rules, case_end, c.in_ok-case.was)

pub slice_bounds-message-end : goal.slice_bounds-message-end
slice_bounds-message-end c = search (rules, message_in, c.in_ok-case.was)

pub returns-in_err-case : goal.returns-in_err-case
returns-in_err-case c = search (rules, replied_wrong, c.in_err-case.was)

pub returns : goal.returns
returns c = search (rules, replied_case, c.in_ok-case.was)

pub slice_bounds-read-end : goal.slice_bounds-read-end
slice_bounds-read-end c = search (rules, book_in, c.in_ok-case.was)
