-- The member that comes next: in the order of their ids a member's header stands after the last one that was found, so it is asked there
-- first. What is answered is what the search from the structure's start would find.
use Rattle.std.specs.Prelude.{ℕ, ◌+◌, ◌-◌, ◌%◌, ◌≤◌, ◌<◌, ◌^◌, ◌≡◌, Bool, List, length, Option, None, Some, Result, Err, Ok}
use Rattle.ground.specs.Choice.{pick}
use Rattle.wire.specs.Place.{Place, cursor_at, align_to}
use Rattle.wire.specs.Number.{number_at}
use Rattle.wire.specs.declared.settings.Settings.{Settings}
use Rattle.wire.specs.declared.settings.Version.{Version}
use Rattle.wire.specs.declared.settings.Version.TheVariants.{Xcdr1, Xcdr2}
use Rattle.wire.specs.declared.cursor.Cursor.{Cursor}
use Rattle.wire.specs.declared.cursor.Shortage.{Shortage}
use Rattle.lookup.specs.Search.{Seek, past_value}
use Rattle.lookup.specs.Xcdr1 as xcdr1
use Rattle.lookup.specs.Xcdr2 as xcdr2
use Rattle.lookup.specs.declared.ahead.Ahead.{Ahead}
use Rattle.lookup.specs.declared.ahead.Hint.{Hint}
use Rattle.lookup.specs.Member.{asked_for, locate}

-- the version's own search
unfoldable pub search_by : List ℕ → Settings → Version → ℕ → Cursor → Seek
search_by s set Xcdr1 id c = xcdr1.seek_to_pid s set id c
search_by s set Xcdr2 id c = xcdr2.seek_to_pid s set id c

-- a search from the one place is a search from the other, for every id that headers are asked for as `least` or more
unfoldable pub Leads : List ℕ → Settings → Cursor → Cursor → ℕ → Type 0
Leads s set from to least = (id : ℕ) → least ≤ asked_for set.version id → search_by s set set.version id from ≡ search_by s set set.version id to

-- where a header may stand with no padding before it, and its four bytes are there
pub record HeadAt (s : List ℕ) (pos origin : ℕ) : Type 0 where
  pub after : origin ≤ pos
  pub aligned : (pos - origin) % 4 ≡ 0
  pub inside : pos + 4 ≤ length s

-- where a header may stand, if the data has its bytes
pub record MayStand (s : List ℕ) (c : Cursor) : Type 0 where
  pub after : c.origin ≤ c.pos
  pub inside : c.pos ≤ length s
  pub aligned : (c.pos - c.origin) % 4 ≡ 0

-- such a place, or one so near the end of the data that no header stands there
pub record HeadOrEnd (s : List ℕ) (pos origin : ℕ) : Type 0 where
  pub inside : pos ≤ length s
  pub head : pos + 4 ≤ length s → HeadAt s pos origin

-- from the place of the next header, if one stands there, every later id may be looked for
unfoldable pub NextIs : List ℕ → Settings → ℕ → Cursor → ℕ → Type 0
NextIs s set id at q = HeadOrEnd s q at.origin × (q + 4 ≤ length s → Leads s set at (cursor_at q at.origin) (id + 1))

abbrev pub ahead_of : ℕ → ℕ → ℕ → Ahead
ahead_of value n next = record { value = value; length = n; next = next }

-- the id is one that a header has: 28 bits, and none that is cut
pub record HeaderId (version : Version) (id : ℕ) : Type 0 where
  pub small : id < 2 ^ 28
  pub uncut : asked_for version id ≡ id

-- the search from here finds the value there, in XCDR1 it is not empty, the id is one that a header has, the next header's place is told, and what the
-- value's end comes to is far from what a word holds
pub record AheadAt (s : List ℕ) (set : Settings) (id : ℕ) (at : Cursor) (a : Ahead) : Type 0 where
  pub found : search_by s set set.version id at ≡ Ok (Some (a.length, cursor_at a.value at.origin))
  pub some : set.version ≡ Xcdr1 → 0 < a.length
  pub own : HeaderId set.version id
  pub next : NextIs s set id at a.next
  pub near : a.value + a.length ≤ length s + 2 ^ 36

-- or nothing is said
unfoldable pub AheadIs : List ℕ → Settings → ℕ → Cursor → Option Ahead → Type 0
AheadIs s set id at None = Unit {0}
AheadIs s set id at (Some a) = AheadAt s set id at a

-- where a found value is read, as `located_v1` and `located_v2` have it
unfoldable pub value_at : Version → ℕ → ℕ → Cursor
value_at Xcdr1 v origin = cursor_at v v
value_at Xcdr2 v origin = cursor_at v origin

-- an XCDR2 header there, of a length code that says that NEXTINT has the length
pub record LongHead (s : List ℕ) (set : Settings) (emheader pos origin : ℕ) : Type 0 where
  pub head : HeadAt s pos origin
  pub version : set.version ≡ Xcdr2
  pub is : emheader ≡ number_at set.order 0 s pos 4
  pub code : 4 ≤ xcdr2.lc_of emheader

-- a value is passed over to there, if a header stands there; the alignment to 4 is the same in both versions
unfoldable pub PassedTo : List ℕ → Cursor → ℕ → ℕ → Type 0
PassedTo s c n q = HeadOrEnd s q c.origin × (q + 4 ≤ length s → (set : Settings) → past_value s set c n ≡ Ok (cursor_at q c.origin))

-- .. and if none does, whatever the value is passed over to is so near the end of the data too; the place is not before the value's
unfoldable pub PassedNear : List ℕ → Cursor → ℕ → ℕ → Type 0
PassedNear s c n q = (length s < q + 4 → (set : Settings) (y : Cursor) → past_value s set c n ≡ Ok y → length s < y.pos + 4) × (c.pos ≤ length s → c.pos ≤ q)

-- a hint is true: for the ids from its `least` on a search from the structure's start is one from where it says, if a header stands there
pub record TrueHint (s : List ℕ) (set : Settings) (back : Cursor) (origin : ℕ) (h : Hint) : Type 0 where
  pub place : HeadOrEnd s h.next origin
  pub leads : h.next + 4 ≤ length s → Leads s set back (cursor_at h.next origin) h.least

-- the hint before any member was found, and after one that was
abbrev pub hint_at : ℕ → Hint
hint_at next = record { next = next; least = 0 }

abbrev pub hint_after : Ahead → ℕ → Hint
hint_after a id = record { next = a.next; least = id + 1 }

-- what the header where a hint says tells, if anything: the id has 28 bits at most, the value's end is a sum that fits, and where the hint is true, the
-- lookup finds the member there, and the hint after it is true too
pub record HeaderAhead (s : List ℕ) (set : Settings) (id : ℕ) (h : Hint) (origin : ℕ) (r : Option Ahead) : Type 0 where
  pub small : (a : Ahead) → r ≡ Some a → id < 2 ^ 28
  pub near : (a : Ahead) → r ≡ Some a → a.value + a.length ≤ length s + 2 ^ 36
  pub found : (back : Cursor) → align_to s set.version back 4 ≡ Ok back → TrueHint s set back origin h → (a : Ahead) → r ≡ Some a → locate s set id back ≡ Ok (Some (a.length, value_at set.version a.value origin), back)
  pub on : (back : Cursor) → TrueHint s set back origin h → (a : Ahead) → r ≡ Some a → TrueHint s set back origin (hint_after a id)

-- where the lookups of a structure come back to: the first one's alignment, as `locate` has it; a structure without members has none
unfoldable pub first_lookup : List ℕ → Settings → Bool → Cursor → Place
first_lookup s set some c = pick some (align_to s set.version c 4) (Ok c)

-- that place, and the hint before any member was found; or that it ran short
abbrev pub Start : Type 0
Start = Result (Cursor × Hint) Shortage

-- what is told of it: that place, with a hint that is true; or that it ran short
unfoldable pub StartIs : List ℕ → Settings → Bool → Cursor → Start → Type 0
StartIs s set some c (Err x) = first_lookup s set some c ≡ Err x
StartIs s set some c (Ok (back, h)) = (first_lookup s set some c ≡ Ok back) × TrueHint s set back back.origin h
