-- `book::bytes::pair_at` is the number of two bytes: read together where both are there, and one by one, a byte past the end being 0. Assumes nothing.
use lib.Dec.{lit<}
use Rattle.book.proofs.Places.{fits}
use Rattle.book.proofs.bytes.pair_at.Goals as goal

pub pair_there-requires : goal.pair_there-requires
pair_there-requires c = fits _ _ _ _ c.left_at.ensures 2 (lit< tt) c.if-k-left_at.true
