use mathlib.Core.Path.{◌∙◌, ap}
use Rattle.book.specs.Types.{BookType}
use Rattle.book.proofs.index.Types.kind_of.Goals as goal

pub returns : goal.returns
returns c = c.kind_at.ensures ∙ ap (λ (t : BookType). t.kind) c.place.ensures.is
