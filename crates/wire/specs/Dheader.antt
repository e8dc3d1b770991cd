-- The DHEADER.
use Rattle.wire.specs.declared.cursor.Unread.{Unread}
use Rattle.wire.specs.declared.cursor.Unread.TheVariants as unread
use Rattle.std.specs.Prelude.{ℕ, ◌+◌, Bool, List, length, nat_lt, Result, Err, Ok}
use Rattle.ground.specs.Choice.{pick, both}
use Rattle.wire.specs.Ends.{keeps_ends}
use Rattle.wire.specs.Number.{read_number, after_number}
use Rattle.wire.specs.declared.settings.Settings.{Settings}
use Rattle.wire.specs.declared.settings.Version.{Version}
use Rattle.wire.specs.declared.settings.Version.TheVariants.{Xcdr1, Xcdr2}
use Rattle.wire.specs.declared.cursor.Cursor.{Cursor}
use Rattle.wire.specs.declared.cursor.Shortage.{Shortage}

-- contents by where they begin and where they end; or that what tells it ran short, or that they would end past the data's end
abbrev pub Contents : Type 0
Contents = Result (Cursor × ℕ) Unread

-- contents that begin at c and end there. "A position may pass the end; .."; where ends are kept, order 1: "a DHEADER that points past the data or past
-- its parent is 2, met as soon as it is read"
unfoldable pub up_to : List ℕ → Settings → Cursor → ℕ → Contents
up_to s set c end = pick (both (keeps_ends set) (nat_lt (length s) end)) (Err unread.Bad) (Ok (c, end))

-- a DHEADER is a number of four bytes, and counts those after it: where the contents begin, and where they end
unfoldable pub dheader_at : List ℕ → Settings → Cursor → Contents
dheader_at s set c = after_number (λ x. Err (unread.Short x)) (read_number s set c 4) (λ n d. up_to s set d (d.pos + n))

-- a value with no DHEADER: nothing but the data's end ends its contents
abbrev pub undelimited : List ℕ → Cursor → Contents
undelimited s c = Ok (c, length s)

-- "in XCDR2": XCDR1 has no DHEADER
unfoldable pub delimited_by : Version → List ℕ → Settings → Cursor → Contents
delimited_by Xcdr1 s set c = undelimited s c
delimited_by Xcdr2 s set c = dheader_at s set c

-- the contents of a value, delimited or not
unfoldable pub contents_at : List ℕ → Settings → Bool → Cursor → Contents
contents_at s set delimited c = pick delimited (delimited_by set.version s set c) (undelimited s c)

-- what follows where the contents are known; a shortage is passed on whole, in the way that the first argument says, and the second is for an end
-- that is past the data's
unfoldable pub after_contents : {A : Type 0} → (Shortage → A) → A → Contents → (Cursor → ℕ → A) → A
after_contents short past (Err (unread.Short x)) next = short x
after_contents short past (Err unread.Bad) next = past
after_contents short past (Ok (c, end)) next = next c end
