use Rattle.book.proofs.Places.{left_none, left_some}
use Rattle.book.proofs.bytes.left_at.Goals as goal

pub returns-then-p-b : goal.returns-then-p-b
returns-then-p-b c = search left_some

pub returns : goal.returns
returns c = search left_none
