-- `book::member::Run::next` gives the place where the run stands, and stands past that member.
use native.Mathlib.Omega.{arith}
use mathlib.Core.Path.{ap}
use lib.ListN.{length}
use borrow.Author.Rules.{rules}
use Rattle.book.proofs.Places.{places_none, places_some}
use Rattle.book.proofs.member.RunIterator.next.Goals as goal

pub returns-then-self-eq0-clause-steps : goal.returns-then-self-eq0-clause-steps
returns-then-self-eq0-clause-steps c = let e = places_none _ c.if-self-eq0.true in (e, e)

pub returns-clause-steps : goal.returns-clause-steps
returns-clause-steps c = places_some _ _ (omega arith) c.after.ensures

pub returns-clause-goes : goal.returns-clause-goes
returns-clause-goes c = let shorter = ap length (places_some c.args.self.now _ (omega arith) c.after.ensures) in search rules
