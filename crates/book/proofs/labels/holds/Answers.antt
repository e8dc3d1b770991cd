use borrow.Author.Rules.{rules}
use Rattle.book.proofs.Search.{in_bits, in_start, in_found, in_turn, in_none}
use Rattle.book.proofs.labels.holds.Goals as goal

pub loop-i-init : goal.loop-i-init
loop-i-init c = search (rules, in_start)

pub returns-then-label_is : goal.returns-then-label_is
returns-then-label_is c = search (rules, in_bits, in_found)

pub loop-i-preserved : goal.loop-i-preserved
loop-i-preserved c = search (rules, in_turn)

pub returns : goal.returns
returns c = search (rules, in_bits, in_none)
