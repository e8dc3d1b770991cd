use Rattle.reader.proofs.RunSteps.{reading_is}
use borrow.Author.Rules.{rules}
use Rattle.reader.proofs.Deserializer.top_level_type.Goals as goal

pub returns : goal.returns
returns c = search (rules, reading_is)
