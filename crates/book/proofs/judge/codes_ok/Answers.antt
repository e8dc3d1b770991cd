use Rattle.book.specs.Rules.{kind_ok, extensibility_ok, base_ok, bound_flag_ok, codes_ok}
use Rattle.book.proofs.judge.codes_ok.Goals as goal

pub returns : goal.returns
unfolding kind_ok extensibility_ok base_ok bound_flag_ok codes_ok
returns c = rw (c.bound_flag.ensures.0, c.extensibility.ensures.0, c.base-base.ensures.0, c.kind-kind.ensures.0)
