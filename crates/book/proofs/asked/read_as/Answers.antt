use Rattle.book.proofs.Answers.{read_bitmask, read_other}
use borrow.Author.Rules.{rules}
use Rattle.book.proofs.asked.read_as.Goals as goal

pub returns-then-kind-eq-BITMASK : goal.returns-then-kind-eq-BITMASK
returns-then-kind-eq-BITMASK c = search (rules, read_bitmask, read_other)

pub returns : goal.returns
returns c = search (rules, read_bitmask, read_other)
