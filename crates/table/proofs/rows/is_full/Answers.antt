use borrow.Author.Rules.{rules}
use Rattle.table.specs.Rows.{no_room}
use Rattle.table.proofs.rows.is_full.Goals as goal

pub returns : goal.returns
unfolding no_room
returns c = search rules
