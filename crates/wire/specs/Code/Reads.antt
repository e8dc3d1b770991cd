-- What the code's reads of numbers say besides the number that the rules name.
use Rattle.std.specs.Prelude.{◌≡◌, ℕ, ◌^◌, ◌<◌, List, slice_index, Err, Ok}
use Rattle.wire.specs.Number.{number_here, read_number}
use Rattle.wire.specs.declared.settings.ByteOrder.{ByteOrder}
use Rattle.wire.specs.declared.settings.Settings.{Settings}
use Rattle.wire.specs.declared.cursor.Cursor.{Cursor}
use Rattle.wire.specs.Number.{Number}

-- a list of bytes. A list's elements may be any numbers; a slice's are such
abbrev pub Bytes : List ℕ → Type 0
Bytes s = (k : ℕ) → slice_index s k < 256

-- A number that was read is below 256 ^ w. A list's elements may be any numbers, so this does not follow from the definition.
abbrev pub Small : ℕ → Number → Type 0
Small w (Err x) = Unit {0}
Small w (Ok (v, c)) = v < 256 ^ w

pub record HereIs (s : List ℕ) (o : ByteOrder) (c : Cursor) (w : ℕ) (r : Number) : Type 0 where
  pub is : r ≡ number_here s o w c
  pub small : Small w r

pub record ReadIs (s : List ℕ) (set : Settings) (c : Cursor) (w : ℕ) (r : Number) : Type 0 where
  pub is : r ≡ read_number s set c w
  pub small : Small w r
