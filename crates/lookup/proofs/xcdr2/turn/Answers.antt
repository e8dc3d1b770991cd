use Rattle.std.proofs.Common.{rules}
use Rattle.lookup.proofs.Xcdr2Turns.{turn_room}
use Rattle.lookup.proofs.xcdr2.turn.Goals as goal

pub overflow_sub-d : goal.overflow_sub-d
overflow_sub-d c = search (rules, turn_room, c.in_ok-emheader.was, c.in_ok-n.was)
