-- The loop's invariant: the search from the first place leads to this one. The measure is what is left of the data.
use Rattle.std.proofs.Common.{ℕ, ◌-◌, length}
use Rattle.wire.specs.Place.{cursor_at}
use Rattle.wire.specs.declared.settings.Settings.{Settings}
use Rattle.lookup.specs.Code.Ahead.{HeadOrEnd}
use Rattle.lookup.specs.Code.Straight.{LeadsTo, StepsFor}
use Rattle.lookup.proofs.straight.stays_at.Given as goal

abbrev pub invariant-loop-pos : goal.invariant-loop-pos
invariant-loop-pos g l =
    HeadOrEnd l.s l.pos l.origin
    × ((set : Settings) (id : ℕ) → StepsFor l.s set id l.origin (goal.F-post g l.step) → LeadsTo l.s set id (cursor_at l.from l.origin) l.pos)

abbrev pub decreases-loop-pos : goal.decreases-loop-pos
decreases-loop-pos g l = length l.s - l.pos
