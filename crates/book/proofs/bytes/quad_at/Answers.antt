-- `book::bytes::quad_at` is the number of four bytes: read together where all are there, and two by two, a byte past the end being 0. Assumes nothing.
use lib.Dec.{lit<}
use Rattle.book.proofs.Places.{fits}
use Rattle.book.proofs.bytes.quad_at.Goals as goal

pub quad_there-requires : goal.quad_there-requires
quad_there-requires c = fits _ _ _ _ c.left_at.ensures 4 (lit< tt) c.if-k-left_at.true
