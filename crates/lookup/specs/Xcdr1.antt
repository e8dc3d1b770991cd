-- The XCDR1 search for a header by its id.
use Rattle.std.specs.declared.ops.ControlFlow.TheVariants.{Break}
use Rattle.std.specs.Prelude.{ℕ, ◌%◌, ◌^◌, List, Bool, eqb, Option, None, Some, Result, Err, Ok}
use Rattle.ground.specs.Choice.{pick, both}
use Rattle.wire.specs.Number.{read_number, after_number}
use Rattle.wire.specs.declared.settings.Settings.{Settings}
use Rattle.wire.specs.declared.cursor.Cursor.{Cursor}
use Rattle.wire.specs.declared.cursor.Shortage.{Shortage}
use Rattle.wire.specs.Place.{Place}
use Rattle.lookup.specs.Search.{Seek, Turn, past_value, on_to, seek_by}

-- the id, the length, and the cursor after both; or that they ran short
abbrev pub Header : Type 0
Header = Result (ℕ × ℕ × Cursor) Shortage

-- "id u16 (low 14 bits)"
abbrev pub id_of : ℕ → ℕ
id_of word = word % 2 ^ 14

-- "Headers: id u16 (low 14 bits), length u16."
unfoldable pub header_at : List ℕ → Settings → Cursor → Header
header_at s set c =
    after_number Err (read_number s set c 2) (λ word d.
    after_number Err (read_number s set d 2) (λ n e. Ok (id_of word, n, e)))

-- "0x3F02 with length 0 ends."
abbrev pub is_end : ℕ → ℕ → Bool
is_end id n = both (eqb id 0x3F02) (eqb n 0)

-- .. the search: it has failed, unless it was for 0x3F02 itself
abbrev pub ended : ℕ → Cursor → Option (ℕ × Cursor)
ended wanted c = pick (eqb wanted 0x3F02) (Some (0, c)) None

-- "The wanted id is cut to 16 bits."
abbrev pub is_match : ℕ → ℕ → Bool
is_match wanted id = eqb id (wanted % 2 ^ 16)

-- what a header comes to: the end, a match, or another's
unfoldable pub verdict : List ℕ → Settings → ℕ → ℕ → ℕ → Cursor → Turn
verdict s set wanted id n c =
    pick (is_end id n) (Ok (Break (ended wanted c)))
    (pick (is_match wanted id) (Ok (Break (Some (n, c)))) (on_to (past_value s set c n)))

-- one header, read and judged
unfoldable pub on_header : List ℕ → Settings → ℕ → Header → Turn
on_header s set wanted (Err x) = Err x
on_header s set wanted (Ok (id, n, c)) = verdict s set wanted id n c

unfoldable pub turn_at : List ℕ → Settings → ℕ → Cursor → Turn
turn_at s set wanted c = on_header s set wanted (header_at s set c)

-- the headers one after the other
unfoldable pub seek_to_pid : List ℕ → Settings → ℕ → Cursor → Seek
seek_to_pid s set wanted c = seek_by s (turn_at s set wanted) c

-- where a search for 0x3F02 stands; it never says that there is none (proofs/Xcdr1Turns.antt, `sentinel_never_missing`)
unfoldable pub sentinel_place : Cursor → Seek → Place
sentinel_place c (Ok (Some (n, d))) = Ok d
sentinel_place c (Err x) = Err x
sentinel_place c (Ok None) = Ok c

-- "A Mutable structure then looks for 0x3F02 itself, with no align 4 first (each u16 aligns to 2); there a nonzero length also matches,
-- and the position stays after that header."
unfoldable pub seek_to_sentinel : List ℕ → Settings → Cursor → Place
seek_to_sentinel s set c = sentinel_place c (seek_to_pid s set 0x3F02 c)
