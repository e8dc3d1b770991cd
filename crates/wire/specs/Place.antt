-- Where a reading stands, and how it moves.
use Rattle.std.specs.Prelude.{ℕ, ◌+◌, ◌-◌, ◌%◌, ◌^◌, min, List, length, nat_le, Result, Err, Ok}
use Rattle.ground.specs.Choice.{pick}
use Rattle.wire.specs.declared.settings.Version.{Version}
use Rattle.wire.specs.declared.settings.Version.TheVariants.{Xcdr1, Xcdr2}
use Rattle.wire.specs.declared.cursor.Cursor.{Cursor}
use Rattle.wire.specs.declared.cursor.Shortage.{Shortage}

-- where a move leads, or that it ran short
abbrev pub Place : Type 0
Place = Result Cursor Shortage

abbrev pub cursor_at : ℕ → ℕ → Cursor
cursor_at p o = record { pos = p; origin = o }

abbrev pub moved : Cursor → ℕ → Cursor
moved c n = cursor_at (c.pos + n) c.origin

-- where the reading stands, and what is told of the read that ran short
abbrev pub shortage : Cursor → ℕ → ℕ → Shortage
shortage c position need = record { at = c; told = record { position = position; need = need } }

-- a number as a word holds it: itself, or the most that there is. A need of data of 65,532 bytes is never cut (crates/fit/proofs/Told.antt, `reading_told`)
abbrev pub in_a_word : ℕ → ℕ
in_a_word n = min n (2 ^ 64 - 1)

-- order 6: "The need is position plus bytes wanted minus data length (in order 1's mode, minus the end crossed)": where ends are kept, the data that is
-- read from ends there
abbrev pub need_at : List ℕ → ℕ → ℕ → ℕ
need_at s position wanted = in_a_word (position + wanted - length s)

-- "Each primitive read that runs short must tell its position and the bytes it still needed"; document 01: "Refusals keep the position reached."
abbrev pub short_at : List ℕ → Cursor → ℕ → Shortage
short_at s c wanted = shortage c c.pos (need_at s c.pos wanted)

-- the same shortage, with the reading standing at c again: what is told of it stays
abbrev pub brought_back : Shortage → Cursor → Shortage
brought_back x c = record { at = c; told = x.told }

-- "A number is aligned to its own size (FLOAT128 to 16) ..; XCDR2 caps this at 4."
unfoldable pub alignment_of : Version → ℕ → ℕ
alignment_of Xcdr1 size = size
alignment_of Xcdr2 size = min size 4

-- the bytes to the next multiple of the alignment
abbrev pub gap_of : ℕ → ℕ → ℕ
gap_of from alignment = (alignment - from % alignment) % alignment

-- ".., counted from the origin"
unfoldable pub padding_of : Cursor → ℕ → ℕ
padding_of c alignment = gap_of (c.pos - c.origin) alignment

-- past n bytes where the data has them, else short where it stands. Order 6: "any skip counts as a read from where it starts".
-- "A position may pass the end; then even a skip of 0 is 1."
unfoldable pub seek_to : List ℕ → Cursor → ℕ → Place
seek_to s c n = pick (nat_le (c.pos + n) (length s)) (Ok (moved c n)) (Err (short_at s c n))

unfoldable pub align_to : List ℕ → Version → Cursor → ℕ → Place
align_to s v c size = seek_to s c (padding_of c (alignment_of v size))

-- what follows a move; a shortage is passed on whole, in the way that the first argument says
unfoldable pub after_move : {A : Type 0} → (Shortage → A) → Place → (Cursor → A) → A
after_move short (Err x) next = short x
after_move short (Ok c) next = next c
