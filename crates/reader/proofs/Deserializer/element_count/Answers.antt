use Rattle.reader.proofs.Asked.{size_some, count_is}
use borrow.Author.Rules.{rules}
use Rattle.reader.proofs.Deserializer.element_count.Goals as goal

pub nonzero_div-result : goal.nonzero_div-result
nonzero_div-result c = search (rules, size_some, count_is)

pub returns : goal.returns
returns c = search (rules, size_some, count_is)
