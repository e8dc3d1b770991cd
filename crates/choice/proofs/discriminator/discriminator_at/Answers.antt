use Rattle.choice.proofs.Discriminators.{at_absent, at_other, at_alone, at_enum}
use borrow.Author.Rules.{rules}
use Rattle.choice.proofs.discriminator.discriminator_at.Goals as goal

pub returns-then-m-n : goal.returns-then-m-n
returns-then-m-n c = search (rules, at_absent, at_other, at_alone, at_enum)

pub returns-then-m-n-eq1 : goal.returns-then-m-n-eq1
returns-then-m-n-eq1 c = search (rules, at_absent, at_other, at_alone, at_enum)

pub returns-then-kind-eq-ENUM : goal.returns-then-kind-eq-ENUM
returns-then-kind-eq-ENUM c = search (rules, at_absent, at_other, at_alone, at_enum)

pub returns : goal.returns
returns c = search (rules, at_absent, at_other, at_alone, at_enum)
