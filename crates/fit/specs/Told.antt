-- Order 6: what is told of a shortage is right, whatever the types, the root and the room.
use Rattle.std.specs.Prelude.{ℕ, ◌+◌, ◌≤◌, ◌<◌, ◌≡◌, false, List, length}
use Rattle.wire.specs.declared.cursor.Told.{Told}
use Rattle.wire.specs.declared.settings.Settings.{Settings}
use Rattle.wire.specs.Ends.{keeps_ends}

-- "The need is position plus bytes wanted minus data length (in order 1's mode, minus the end crossed)": exactly so, with no cut to a word; and it is
-- over 0
pub record Right (s : List ℕ) (set : Settings) (told : Told) : Type 0 where
  pub wanted : ℕ
  pub end : ℕ
  -- the end crossed is one of the data, and where ends are not kept it is the data's own
  pub crossed : end ≤ length s
  pub own : keeps_ends set ≡ false → end ≡ length s
  pub need : told.need + end ≡ told.position + wanted
  pub some : 0 < told.need
