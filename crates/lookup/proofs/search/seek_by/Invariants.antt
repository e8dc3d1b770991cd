-- The loop's invariant: some count of headers, from here on, finds what the whole search finds. The measure is what is left of the data.
use Rattle.std.proofs.Common.{◌-◌, length}
use Rattle.wire.specs.declared.cursor.Cursor.{Cursor}
use Rattle.lookup.specs.Search.{Turn}
use Rattle.lookup.specs.Code.Turns.{TellsAs}
use Rattle.lookup.proofs.Turns.{Rest}
use Rattle.lookup.proofs.search.seek_by.Given as goal

abbrev pub invariant-loop-turn : goal.invariant-loop-turn
invariant-loop-turn g l = (t : Cursor → Turn) → TellsAs (goal.F-post g l.turn) t → Rest l.r.bytes.now t l.initial.c l.c

abbrev pub decreases-loop-turn : goal.decreases-loop-turn
decreases-loop-turn g l = length l.r.bytes.now - l.c.pos
