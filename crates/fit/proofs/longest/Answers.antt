use borrow.Author.Rules.{rules}
use Rattle.fit.proofs.Measuring.{longest_laws, longest_start, longest_turn}
use Rattle.fit.proofs.longest.Goals as goal

pub returns-then-kind : goal.returns-then-kind
returns-then-kind c = search (rules, longest_laws)

pub returns-then-kind-eq-ENUM : goal.returns-then-kind-eq-ENUM
returns-then-kind-eq-ENUM c = search (rules, longest_laws)

pub loop-p-init : goal.loop-p-init
loop-p-init c = rw c.into_iter-p-iterator.ensures.into_iter_gives (longest_start _ _ _ _ c.kind_at-kind.ensures _ c.if-kind.false c.if-kind-eq-ENUM.false c.members-p-items.ensures)

pub loop-p-preserved : goal.loop-p-preserved
loop-p-preserved c = search (rules, longest_turn, c.in-Some.ensures.steps)

pub returns : goal.returns
returns c = search (rules, longest_laws, c.in-None.ensures.steps)
