-- Each turn prints one row of `rows`; after the last, i is their count.
use Rattle.std.proofs.Common.{◌-◌, ◌≤◌}
use Rattle.cases.proofs.lines.answer.Given as goal

abbrev pub invariant-loop-i : goal.invariant-loop-i
invariant-loop-i g l = l.i ≤ l.rows

abbrev pub decreases-loop-i : goal.decreases-loop-i
decreases-loop-i g l = l.rows - l.i
