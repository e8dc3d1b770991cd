-- What the searches of both versions share.
use Rattle.std.specs.declared.ops.ControlFlow.{ControlFlow}
use Rattle.std.specs.declared.ops.ControlFlow.TheVariants.{Break, Continue}
use Rattle.std.specs.Prelude.{ℕ, zero, suc, List, length, Option, None, Result, Err, Ok}
use Rattle.wire.specs.Place.{Place, seek_to, align_to, after_move}
use Rattle.wire.specs.declared.settings.Settings.{Settings}
use Rattle.wire.specs.declared.cursor.Cursor.{Cursor}
use Rattle.wire.specs.declared.cursor.Shortage.{Shortage}

-- what a search says: a value's length and where it starts, or that the list of headers ended; or that it ran short
abbrev pub Seek : Type 0
Seek = Result (Option (ℕ × Cursor)) Shortage

-- what one header says: it settles the search, or the next one is at the cursor; or it ran short
abbrev pub Turn : Type 0
Turn = Result (ControlFlow (Option (ℕ × Cursor)) Cursor) Shortage

-- "Other headers: skip and align 4.", of XCDR1; of XCDR2: "skipped and aligned alike"
unfoldable pub past_value : List ℕ → Settings → Cursor → ℕ → Place
past_value s set c n = after_move Err (seek_to s c n) (λ d. align_to s set.version d 4)

-- the next header is there
abbrev pub on_to : Place → Turn
on_to (Err x) = Err x
on_to (Ok c) = Ok (Continue c)

-- a header that settles the search, or the next one
unfoldable pub on_turn : Turn → (Cursor → Seek) → Seek
on_turn (Err x) next = Err x
on_turn (Ok (Break found)) next = Ok found
on_turn (Ok (Continue c)) next = next c

-- one header after the other until one settles the search, at most so many
unfoldable pub headers_in : ℕ → (Cursor → Turn) → Cursor → Seek
headers_in zero turn c = Ok None
headers_in (suc n) turn c = on_turn (turn c) (λ d. headers_in n turn d)

-- Each header takes four bytes, so there are more turns than headers, and the count is never used up (proofs/Turns.antt, `never_missing`).
abbrev pub seek_by : List ℕ → (Cursor → Turn) → Cursor → Seek
seek_by s turn c = headers_in (suc (length s)) turn c
