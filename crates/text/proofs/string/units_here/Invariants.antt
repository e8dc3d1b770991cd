-- `text::string::units_here` meets its contract: what the units to come give, in this state, is what all of them give. Assumes nothing.
use Rattle.std.proofs.Common.{◌≡◌, ◌-◌}
use Rattle.text.specs.Text.{read_units, units_here}
use Rattle.text.proofs.Strings.{resumed}
use Rattle.text.proofs.string.units_here.Given as goal

abbrev pub invariant-loop : goal.invariant-loop
invariant-loop l = resumed l.state l.at.pos l.n (read_units l.r.bytes.now l.r.set (l.n - l.counter) l.c) ≡ units_here l.r.bytes.now l.r.set l.at l.n
