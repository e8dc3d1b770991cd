use Rattle.book.specs.Types.{type_of}
use borrow.Author.Rules.{rules}
use Rattle.book.proofs.types.bound_flag.Goals as goal

pub returns : goal.returns
unfolding type_of
returns c = search rules
