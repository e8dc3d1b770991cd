use Rattle.book.proofs.index.Types.element_place.Goals as goal

pub returns : goal.returns
returns c = rw c.element.ensures.0 at c.place.ensures
