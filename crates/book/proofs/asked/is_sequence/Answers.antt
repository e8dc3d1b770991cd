use Rattle.book.proofs.Answers.{sequence_is}
use borrow.Author.Rules.{rules}
use Rattle.book.proofs.asked.is_sequence.Goals as goal

pub returns : goal.returns
returns c = search (rules, sequence_is)
