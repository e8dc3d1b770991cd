-- `book::index::Types::place` is the index's word, or the end of the book, where NONE is read.
use Rattle.book.proofs.Places.{place_past, place_here}
use Rattle.book.proofs.index.Types.place.Goals as goal

pub returns-then-self-k : goal.returns-then-self-k
returns-then-self-k c = search place_past

pub returns : goal.returns
returns c = search place_here
