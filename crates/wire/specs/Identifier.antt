-- The ten representation identifiers.
use Rattle.std.specs.Prelude.{ℕ, ◌%◌, ◌==◌, Option, None, Some}
use Rattle.ground.specs.Choice.{pick, both, ◌‥◌, within}
use Rattle.wire.specs.declared.settings.ByteOrder.{ByteOrder}
use Rattle.wire.specs.declared.settings.ByteOrder.TheVariants.{BigEndian, LittleEndian}
use Rattle.wire.specs.declared.settings.Version.{Version}
use Rattle.wire.specs.declared.settings.Version.TheVariants.{Xcdr1, Xcdr2}
use Rattle.wire.specs.declared.settings.Mode.{Mode}
use Rattle.wire.specs.declared.settings.Settings.{Settings}

-- the mode is the caller's: order 1, "a second reading mode beside the crate's, chosen by the caller"
-- the settings that an identifier names, if it is known
abbrev pub Representation : Type 0
Representation = Option Settings

abbrev pub settings : Mode → ByteOrder → Version → Settings
settings m o v = record { order = o; version = v; mode = m }

-- "even big-endian, odd little"
unfoldable pub order_of : ℕ → ByteOrder
order_of second = pick (second % 2 == 0) BigEndian LittleEndian

-- "first byte 0; second byte 0 to 3 is XCDR1, 6 to 11 XCDR2"
unfoldable pub settings_of : Mode → ℕ → ℕ → Representation
settings_of mode first second =
    pick (both (first == 0) (within (0 ‥ 3) second)) (Some (settings mode (order_of second) Xcdr1))
    (pick (both (first == 0) (within (6 ‥ 11) second)) (Some (settings mode (order_of second) Xcdr2)) None)
