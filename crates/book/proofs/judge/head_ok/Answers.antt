use Rattle.book.specs.Rules.{head_ok, size_ok, version_ok, type_count_ok}
use Rattle.book.proofs.Places.{from_zero}
use Rattle.book.proofs.judge.head_ok.Goals as goal

pub returns : goal.returns
unfolding head_ok size_ok version_ok type_count_ok
returns c = rw (c.in_range.ensures, c.byte_at.ensures.0, c.type_count-count.ensures.0, c.quad_at-size.ensures, from_zero)
