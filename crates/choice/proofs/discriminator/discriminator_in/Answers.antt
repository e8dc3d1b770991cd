use Rattle.choice.proofs.Discriminators.{in_value, in_unfit}
use Rattle.choice.proofs.Selection.{same_bits}
use borrow.Author.Rules.{rules}
use Rattle.choice.proofs.discriminator.discriminator_in.Goals as goal

pub returns-then-kind : goal.returns-then-kind
returns-then-kind c = search (rules, same_bits, in_value, in_unfit)

pub returns : goal.returns
returns c = search (rules, same_bits, in_value, in_unfit)
