use borrow.Author.Tests.{not-false}
use Rattle.values.proofs.Quickly.{quick_text, quick_not, free_fits}
use borrow.Author.Rules.{rules}
use Rattle.values.proofs.quick.text_at.Goals as goal

pub returns-then-r-q : goal.returns-then-r-q
returns-then-r-q c = search (rules, quick_not)

pub returns-then-size-eq0 : goal.returns-then-size-eq0
returns-then-size-eq0 c = search (rules, quick_not)

pub returns-then-r-start : goal.returns-then-r-start
returns-then-r-start c = search (rules, quick_not)

pub returns-then-not-is_text : goal.returns-then-not-is_text
returns-then-not-is_text c = search (rules, quick_not)

pub put_row-requires : goal.put_row-requires
put_row-requires c = search (rules, free_fits)

pub returns : goal.returns
returns c = quick_text _ _ _ _ _ _ c.start-q.result _ _ c.start-q.ensures.0 (search rules) c.from_bytes-size.ensures.0 (search rules) (search rules) (search rules) _ c.is_text.ensures (not-false _ c.if-not-is_text.false-raw) (search rules) _ (search rules)
