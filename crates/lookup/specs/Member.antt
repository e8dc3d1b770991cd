-- The lookup of a member.
use Rattle.std.specs.Prelude.{ℕ, ◌%◌, ◌^◌, List, ltb, Option, None, Some, Result, Err, Ok}
use Rattle.ground.specs.Choice.{pick}
use Rattle.wire.specs.Place.{cursor_at, align_to, after_move}
use Rattle.wire.specs.declared.settings.Settings.{Settings}
use Rattle.wire.specs.declared.settings.Version.{Version}
use Rattle.wire.specs.declared.settings.Version.TheVariants.{Xcdr1, Xcdr2}
use Rattle.wire.specs.declared.cursor.Cursor.{Cursor}
use Rattle.wire.specs.declared.cursor.Shortage.{Shortage}
use Rattle.lookup.specs.Xcdr1 as xcdr1
use Rattle.lookup.specs.Xcdr2 as xcdr2
use Rattle.lookup.specs.Search.{Seek}

-- the value's length and where it is read, if there is one, and where the reading comes back to; or that the member ran short
abbrev pub Located : Type 0
Located = Result (Option (ℕ × Cursor) × Cursor) Shortage

-- "On a match with length over 0 the origin moves there and the value is read. A match of length 0 ends the lookup and stores nothing. ..
-- A failed lookup stores nothing; position and origin always come back."
unfoldable pub located_v1 : Seek → Cursor → Located
located_v1 (Ok (Some (n, c))) back = pick (ltb 0 n) (Ok (Some (n, cursor_at c.pos c.pos), back)) (Ok (None, back))
located_v1 (Ok None) back = Ok (None, back)
located_v1 (Err x) back = Ok (None, back)

-- "a match of any length reads the value. .. The position comes back." "A failed lookup stores nothing". No XCDR2 search says that the list ended
-- (proofs/Xcdr2Turns.antt, `xcdr2_never_missing`).
unfoldable pub located_v2 : Seek → Cursor → Located
located_v2 (Ok (Some (n, c))) back = Ok (Some (n, c), back)
located_v2 (Ok None) back = Ok (None, back)
located_v2 (Err x) back = Ok (None, back)

-- the id that a version's headers are asked for. XCDR1: "The wanted id is cut to 16 bits."
unfoldable pub asked_for : Version → ℕ → ℕ
asked_for Xcdr1 id = id % 2 ^ 16
asked_for Xcdr2 id = id

-- the version's own search, from the place that comes back
unfoldable pub looked_up : List ℕ → Settings → Version → ℕ → Cursor → Located
looked_up s set Xcdr1 id back = located_v1 (xcdr1.seek_to_pid s set id back) back
looked_up s set Xcdr2 id back = located_v2 (xcdr2.seek_to_pid s set id back) back

-- "XCDR1 lookup: align 4 (if short, the member answers 1), remember position and origin." "XCDR2 lookup: the same first align 4"
unfoldable pub locate : List ℕ → Settings → ℕ → Cursor → Located
locate s set id c = after_move Err (align_to s set.version c 4) (λ back. looked_up s set set.version id back)
