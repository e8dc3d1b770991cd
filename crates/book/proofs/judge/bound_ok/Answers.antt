use Rattle.book.specs.Rules.{array_bound_ok, bound_ok, bounds_ok}
use Rattle.book.proofs.judge.bound_ok.Goals as goal

pub returns : goal.returns
unfolding array_bound_ok bound_ok bounds_ok
returns c = rw (c.bound.ensures, c.kind.ensures.0, c.is_bounded-bounded.ensures)
