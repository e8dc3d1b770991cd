use Rattle.sinotayam.proofs.Entries.{message_rest}
use borrow.Author.Rules.{rules}
use Rattle.sinotayam.proofs.message_by.Goals as goal

pub returns : goal.returns
returns c = search (rules, message_rest)
