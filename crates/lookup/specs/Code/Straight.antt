-- The lookup from header to header, by their places alone: what a place tells of the search.
use Rattle.std.specs.Prelude.{ℕ, ◌+◌, ◌≤◌, ◌<◌, ◌^◌, ◌≡◌, List, length, Some, None, Ok}
use Rattle.wire.specs.Place.{cursor_at}
use Rattle.wire.specs.declared.settings.Settings.{Settings}
use Rattle.wire.specs.declared.settings.Version.{Version}
use Rattle.wire.specs.declared.settings.Version.TheVariants.{Xcdr1, Xcdr2}
use Rattle.wire.specs.declared.cursor.Cursor.{Cursor}
use Rattle.lookup.specs.Member.{Located, located_v1, located_v2, locate}
use Rattle.lookup.specs.Code.Ahead.{search_by, HeadAt, HeadOrEnd, value_at}
use Rattle.lookup.specs.Search.{Seek}
use Rattle.lookup.specs.declared.straight.Sought.{Sought}
use Rattle.lookup.specs.declared.straight.Sought.TheVariants as sought

-- what the version's search says of a member
unfoldable pub located_by : Version → Seek → Cursor → Located
located_by Xcdr1 f back = located_v1 f back
located_by Xcdr2 f back = located_v2 f back

-- the search from here says that there is nothing to read, wherever it comes back to
unfoldable pub Gone : List ℕ → Settings → ℕ → Cursor → Type 0
Gone s set id at = (back : Cursor) → located_by set.version (search_by s set set.version id at) back ≡ Ok (None, back)

-- where a header stands there, the search from here is one from there; where none does, there is nothing to read
pub record LeadsTo (s : List ℕ) (set : Settings) (id : ℕ) (at : Cursor) (q : ℕ) : Type 0 where
  pub place : HeadOrEnd s q at.origin
  pub same : q + 4 ≤ length s → search_by s set set.version id at ≡ search_by s set set.version id (cursor_at q at.origin)
  pub gone : length s < q + 4 → Gone s set id at

-- the place after a header leads on for every id but the header's own, and is further on
unfoldable pub Past : List ℕ → Settings → ℕ → ℕ → ℕ → ℕ → Type 0
Past s set own pos origin q = (pos < q) × ((id : ℕ) → (own ≡ id → ⊥) → LeadsTo s set id (cursor_at pos origin) q)

-- the search for one id, by one header: it stays there, or leads on
unfoldable pub Stepped : List ℕ → Settings → ℕ → ℕ → ℕ → ℕ → Type 0
Stepped s set id pos origin q = (pos ≤ q) × LeadsTo s set id (cursor_at pos origin) q

-- a step may be asked of a header's place, and leads to no place before it, where a header may stand or the data ends
abbrev pub Steps : List ℕ → ℕ → (ℕ → Type 0) → (ℕ → ℕ → Type 0) → Type 0
Steps s origin may told = (pos : ℕ) → HeadAt s pos origin → may pos × ((q : ℕ) → told pos q → (pos ≤ q) × HeadOrEnd s q origin)

-- each step is one of the search for that id
abbrev pub StepsFor : List ℕ → Settings → ℕ → ℕ → (ℕ → ℕ → Type 0) → Type 0
StepsFor s set id origin told = (pos q : ℕ) → HeadAt s pos origin → told pos q → Stepped s set id pos origin q

-- what is told of the lookup: a value that is found is there, and its end is a sum that fits; or that there is nothing to read
pub record SoughtIs (s : List ℕ) (set : Settings) (id : ℕ) (c : Cursor) (r : Sought) : Type 0 where
  pub found : (value n : ℕ) → r ≡ sought.Found value n → locate s set id c ≡ Ok (Some (n, value_at set.version value c.origin), c)
  pub near : (value n : ℕ) → r ≡ sought.Found value n → value + n ≤ length s + 2 ^ 36
  pub absent : r ≡ sought.Absent → locate s set id c ≡ Ok (None, c)
