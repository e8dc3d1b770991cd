use Rattle.book.proofs.Answers.{read_bitmask, read_other, kind_there, bounded_there, bound_there}
use borrow.Author.Rules.{rules}
use Rattle.book.proofs.asked.read_as_there.Goals as goal

pub returns-then-kind-eq-BITMASK : goal.returns-then-kind-eq-BITMASK
returns-then-kind-eq-BITMASK c = search (rules, read_bitmask, kind_there, bounded_there, bound_there)

pub returns : goal.returns
returns c = search (rules, read_other, kind_there)
