-- `book::judge::judge`: nothing is wrong with a book exactly where it is right.
use mathlib.Core.Path.{ap, ◌∙◌}
use Rattle.book.specs.Fault.{is_right}
use Rattle.book.proofs.Faults.{book_right}
use Rattle.book.proofs.judge.judge.Goals as goal

pub returns : goal.returns
returns c = c.is_right.ensures ∙ ap is_right c.fault.ensures ∙ book_right _
