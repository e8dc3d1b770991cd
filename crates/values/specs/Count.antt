-- How many elements a list has.
use Rattle.std.specs.Prelude.{ℕ, Bool, List, Ok}
use Rattle.ground.specs.Choice.{pick}
use Rattle.wire.specs.declared.cursor.Cursor.{Cursor}
use Rattle.wire.specs.declared.settings.Settings.{Settings}
use Rattle.wire.specs.Number.{Number, read_number}

-- a sequence tells its length; an array has as many elements as its bound says
unfoldable pub count_at : List ℕ → Settings → Bool → ℕ → Cursor → Number
count_at s set sequence bound c = pick sequence (read_number s set c 4) (Ok (bound, c))
