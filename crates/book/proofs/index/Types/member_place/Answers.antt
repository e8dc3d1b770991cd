use Rattle.book.proofs.index.Types.member_place.Goals as goal

pub returns : goal.returns
returns c = rw c.type_index.ensures.0 at c.place.ensures
