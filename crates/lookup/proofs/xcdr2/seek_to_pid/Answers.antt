use Rattle.std.proofs.Common.{rules}
use Rattle.lookup.specs.Xcdr2.{turn_at, seek_to_pid}
use Rattle.lookup.proofs.Xcdr2Turns.{moves_on}
use Rattle.lookup.proofs.xcdr2.seek_to_pid.Goals as goal

pub seek_by-requires-clause-moves : goal.seek_by-requires-clause-moves
seek_by-requires-clause-moves c = λ at d p. moves_on _ c.args.r.set c.args.pid at d (search rules)

pub returns : goal.returns
unfolding seek_to_pid
returns c = c.seek_by.ensures (turn_at c.args.r.bytes.now c.args.r.set c.args.pid) (λ at t p. search rules)
