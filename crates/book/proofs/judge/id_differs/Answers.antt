use Rattle.book.proofs.Judging.{id_above}
use Rattle.book.proofs.Places.{before_is}
use mathlib.Core.Path.{refl, ap, ◌∙◌}
use Rattle.ground.specs.Choice.{every}
use Rattle.book.specs.Rules.{other_id}
use borrow.Author.Rules.{rules}
use Rattle.book.proofs.judge.id_differs.Goals as goal

pub returns-then-top-id : goal.returns-then-top-id
returns-then-top-id c = search (rules, id_above)

pub returns : goal.returns
returns c = c.id_is_new.ensures ∙ ap (every (other_id c.args.id)) (before_is _ _ refl _ c.skip-start.ensures)
