use Rattle.book.proofs.Telling.{kind_unasked, kind_asked}
use borrow.Author.Rules.{rules}
use Rattle.book.proofs.judge.first_kind_ok.Goals as goal

pub returns-then-not-first : goal.returns-then-not-first
returns-then-not-first c = search (rules, kind_unasked)

pub returns : goal.returns
returns c = kind_asked _ _ _ _ _ _ _ c.if-not-first.false c.member_place.ensures.is c.kind-kind.ensures.0 c.in_range.ensures
