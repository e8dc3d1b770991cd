-- `book::member::after` is the run without its next member, at the last one too.
use mathlib.Core.Path.{refl}
use native.Mathlib.Omega.{arith}
use Rattle.book.proofs.Places.{run_after}
use Rattle.book.proofs.member.after.Goals as goal

pub returns-then-left-eq0 : goal.returns-then-left-eq0
returns-then-left-eq0 c = run_after _ _ refl _ c.past-q.ensures (omega arith)

pub returns : goal.returns
returns c = run_after _ _ refl _ c.past-q.ensures refl
