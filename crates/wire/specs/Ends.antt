-- Ends that are kept: order 1, the standard's reading of XCDR2.
use Rattle.std.specs.Prelude.{ℕ, Bool, true, false, List, take}
use Rattle.ground.specs.Choice.{pick}
use Rattle.wire.specs.declared.settings.Version.{Version}
use Rattle.wire.specs.declared.settings.Version.TheVariants.{Xcdr1, Xcdr2}
use Rattle.wire.specs.declared.settings.Mode.{Mode}
use Rattle.wire.specs.declared.settings.Mode.TheVariants.{Crate, Standard}
use Rattle.wire.specs.declared.settings.Settings.{Settings}

-- order 1: "XCDR1 reads alike in both." In the crate's mode a read may cross an end that is told
unfoldable pub keeps_ends_by : Version → Mode → Bool
keeps_ends_by Xcdr1 mode = false
keeps_ends_by Xcdr2 Crate = false
keeps_ends_by Xcdr2 Standard = true

abbrev pub keeps_ends : Settings → Bool
keeps_ends set = keeps_ends_by set.version set.mode

-- order 1: "A read that would cross such an end is 1." So what a DHEADER or a header begins is read from the data up to its end, where the data then
-- ends too
unfoldable pub cut_at : Settings → List ℕ → ℕ → List ℕ
cut_at set s end = pick (keeps_ends set) (take end s) s
