-- What may be claimed of where a reading stands and of what its shortages tell, and the laws that one walk over the rules asks for: then each claim is
-- proved by its own laws alone (Within.antt, Told.antt). Assumes nothing.
use Prim.Native.Nat.{ℕ, ◌+◌, ◌*◌, ◌≤◌, ◌<◌}
use mathlib.Core.Path.{◌≡◌}
use mathlib.Core.Bool.{false}
use mathlib.Core.List.{List}
use lib.ListN.{length}
use Rattle.wire.specs.declared.cursor.Cursor.{Cursor}
use Rattle.wire.specs.declared.cursor.Shortage.{Shortage}
use Rattle.wire.specs.declared.settings.ByteOrder.{ByteOrder}
use Rattle.wire.specs.declared.settings.Settings.{Settings}
use Rattle.wire.specs.declared.settings.Version.TheVariants.{Xcdr2}
use Rattle.wire.specs.Place.{short_at, brought_back}
use Rattle.wire.specs.Number.{number_at}
use Rattle.wire.specs.Ends.{keeps_ends, cut_at}

pub record Claim (set : Settings) : Type 1 where
  -- of the data that is read from, of a position there, of how many bytes a read wants, of a number of at most four bytes, and of a shortage
  pub Given : List ℕ → Type 0
  pub At : List ℕ → ℕ → Type 0
  pub Wanted : ℕ → Type 0
  pub Word : ℕ → Type 0
  pub Lacks : List ℕ → Shortage → Type 0
  -- the data is cut at an end, and what is said of a place or a shortage there is said of it in the data
  pub cuts : (s : List ℕ) (end : ℕ) → Given s → Given (cut_at set s end)
  pub outer : (s : List ℕ) (end p : ℕ) → At (cut_at set s end) p → At s p
  pub outer_lacks : (s : List ℕ) (end : ℕ) (x : Shortage) → Lacks (cut_at set s end) x → Lacks s x
  -- a place inside the data, and one that a DHEADER tells where ends are not kept
  pub inside : (s : List ℕ) (p : ℕ) → Given s → p ≤ length s → At s p
  pub past : (s : List ℕ) (p n : ℕ) → Given s → set.version ≡ Xcdr2 → keeps_ends set ≡ false → p ≤ length s → Word n → At s (p + n)
  -- paddings and widths; what a number of at most four bytes makes a read want
  pub few : (n : ℕ) → n ≤ 16 → Wanted n
  pub fewer : (m n : ℕ) → m ≤ n → Wanted n → Wanted m
  pub word : (s : List ℕ) (o : ByteOrder) (p w : ℕ) → Given s → w ≤ 4 → Word (number_at o 0 s p w)
  pub eight : (n : ℕ) → Word n → Wanted (n * 8 + 4)
  -- a read that runs short, where it stands, and where it is brought back to
  pub lacks : (s : List ℕ) (c : Cursor) (n : ℕ) → Given s → At s c.pos → Wanted n → length s < c.pos + n → Lacks s (short_at s c n)
  pub stands : (s : List ℕ) (x : Shortage) → Lacks s x → At s x.at.pos
  pub back : (s : List ℕ) (x : Shortage) (c : Cursor) → Lacks s x → At s c.pos → Lacks s (brought_back x c)
