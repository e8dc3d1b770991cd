-- The XCDR2 search for a header by its id.
use Rattle.std.specs.declared.ops.ControlFlow.TheVariants.{Break}
use Rattle.std.specs.Prelude.{ℕ, ◌+◌, ◌-◌, ◌*◌, ◌/◌, ◌%◌, ◌^◌, List, [], ◌∷◌, get_or, eqb, ltb, Some, Err, Ok}
use Rattle.ground.specs.Choice.{pick, ◌‥◌, within}
use Rattle.wire.specs.Place.{cursor_at}
use Rattle.wire.specs.Number.{Number, read_number, after_number}
use Rattle.wire.specs.declared.settings.Mode.{Mode}
use Rattle.wire.specs.declared.settings.Mode.TheVariants.{Crate, Standard}
use Rattle.wire.specs.declared.settings.Settings.{Settings}
use Rattle.wire.specs.declared.cursor.Cursor.{Cursor}
use Rattle.lookup.specs.Search.{Seek, Turn, past_value, on_to, seek_by}

-- "Id is the low 28 bits, LC bits 28 to 30", of the u32 header; bit 31 means nothing
abbrev pub id_of : ℕ → ℕ
id_of emheader = emheader % 2 ^ 28

abbrev pub lc_of : ℕ → ℕ
lc_of emheader = emheader / 2 ^ 28 % 8

-- NEXTINT, a u32 after the header, times the unit
unfoldable pub nextint_times : List ℕ → Settings → ℕ → Cursor → Number
nextint_times s set unit c = after_number Err (read_number s set c 4) (λ n d. Ok (n * unit, d))

-- "lengths 1, 2, 4, 8, then NEXTINT times 1, 1, 4, 8"
abbrev pub fixed_length : ℕ → ℕ
fixed_length lc = get_or (1 ∷ 2 ∷ 4 ∷ 8 ∷ []) lc 0

abbrev pub unit_of : ℕ → ℕ
unit_of lc = get_or (1 ∷ 1 ∷ 4 ∷ 8 ∷ []) (lc - 4) 0

unfoldable pub length_by_lc : List ℕ → Settings → ℕ → Cursor → Number
length_by_lc s set lc c = pick (ltb lc 4) (Ok (fixed_length lc, c)) (nextint_times s set (unit_of lc) c)

unfoldable pub length_of : List ℕ → Settings → ℕ → Cursor → Number
length_of s set emheader c = length_by_lc s set (lc_of emheader) c

-- "LC 5 steps back 4 on a match."; in the standard's mode, order 1: "with LC 5, 6 and 7 NEXTINT is also the first four bytes of the member"
unfoldable pub step_back : Mode → ℕ → ℕ
step_back Crate lc = pick (eqb lc 5) 4 0
step_back Standard lc = pick (within (5 ‥ 7) lc) 4 0

-- where a value stands whose whole header ends at c
abbrev pub value_from : Mode → ℕ → Cursor → Cursor
value_from mode lc c = cursor_at (c.pos - step_back mode lc) c.origin

-- the length that is found: the header's; in the standard's mode the member's own, counted from where its value begins
unfoldable pub length_from : Mode → ℕ → ℕ → ℕ
length_from Crate lc n = n
length_from Standard lc n = n + step_back Standard lc

-- what a header comes to: a match "of any length", or another's
unfoldable pub verdict : List ℕ → Settings → ℕ → ℕ → ℕ → Cursor → Turn
verdict s set wanted emheader n c =
    pick (eqb (id_of emheader) wanted) (Ok (Break (Some (length_from set.mode (lc_of emheader) n, value_from set.mode (lc_of emheader) c)))) (on_to (past_value s set c n))

-- "then u32 headers": the header, the NEXTINT that it may have, and what they come to
unfoldable pub turn_at : List ℕ → Settings → ℕ → Cursor → Turn
turn_at s set wanted c =
    after_number Err (read_number s set c 4) (λ emheader d.
    after_number Err (length_of s set emheader d) (λ n e. verdict s set wanted emheader n e))

-- "The search does not stop at the structure's end." Order 1's "a lookup ends at its DHEADER's end": there the data ends that it is given
unfoldable pub seek_to_pid : List ℕ → Settings → ℕ → Cursor → Seek
seek_to_pid s set wanted c = seek_by s (turn_at s set wanted) c
