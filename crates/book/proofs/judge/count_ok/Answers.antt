use Rattle.book.specs.Rules.{member_count_ok, member_kind_ok, some_member_ok, count_ok}
use Rattle.book.proofs.judge.count_ok.Goals as goal

pub returns : goal.returns
unfolding member_count_ok member_kind_ok some_member_ok count_ok
returns c = rw (c.in_range.ensures, c.member_count-n.ensures.0, c.kind-kind.ensures.0)
