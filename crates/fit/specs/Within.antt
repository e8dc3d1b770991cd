-- Where a reading stands when it is over, and where its values stood: never past the data's end, but for XCDR2 in the crate's mode.
use Rattle.std.specs.Prelude.{ℕ, ◌≤◌, ◌≡◌, true, List, [], ◌∷◌}
use Rattle.wire.specs.declared.cursor.Cursor.{Cursor}
use Rattle.wire.specs.declared.cursor.Shortage.{Shortage}
use Rattle.wire.specs.declared.settings.Settings.{Settings}
use Rattle.wire.specs.declared.settings.Version.TheVariants.{Xcdr2}
use Rattle.wire.specs.Ends.{keeps_ends}
use Rattle.table.specs.declared.rows.Row.{Row}
use Rattle.table.specs.declared.out.Refusal.{Refusal}
use Rattle.table.specs.Outcome.{Outcome, read, short, refused}

-- each of these rows tells a place that is at most this
pub data PlacesWithin (end : ℕ) : List Row → Type 0 where
  no_row : PlacesWithin end []
  row_within : {r : Row} {rs : List Row} → r.place ≤ end → PlacesWithin end rs → PlacesWithin end (r ∷ rs)

-- the position that an outcome tells is at most this: of what was read the place after it, and the place of each of its rows; of what ran short the place
-- where it did. A refusal tells none
pub data Within (end : ℕ) : Outcome → Type 0 where
  read_within : {c : Cursor} {rs : List Row} → c.pos ≤ end → PlacesWithin end rs → Within end (read c rs)
  short_within : {x : Shortage} → x.at.pos ≤ end → Within end (short x)
  refused_within : {k : Refusal} → Within end (refused k)

-- XCDR1, or XCDR2 where ends are kept. In the crate's XCDR2 "A position may pass the end"
abbrev pub StaysInside : Settings → Type 0
StaysInside set = set.version ≡ Xcdr2 → keeps_ends set ≡ true
