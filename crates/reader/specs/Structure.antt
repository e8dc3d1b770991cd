-- Structures: their members.
use Rattle.std.specs.Prelude.{ℕ, ◌-◌, List, [], ◌∷◌, Bool, ◌||◌, eqb}
use Rattle.wire.specs.declared.cursor.Cursor.{Cursor}
use Rattle.wire.specs.declared.settings.Settings.{Settings}
use Rattle.book.specs.Types.{BookType, Member}
use Rattle.table.specs.Outcome.{Outcome, read, and_then, or_end_if}
use Rattle.reader.specs.Value.{Nest}
use Rattle.reader.specs.Member.{fmember_of, mmember_of}

-- "If the type is Appendable or the member is UseDefault, answer 1 from a member ends the structure as read."
unfoldable pub absorbs : BookType → Member → Bool
absorbs t m = eqb t.extensibility 1 || eqb m.construct 0

module _ (types : List BookType) (s : List ℕ) (set : Settings) (nest : Nest) where
  -- "Final and Appendable structures: members in order."
  unfoldable pub fmembers_of : BookType → List Member → Cursor → ℕ → Outcome
  fmembers_of t [] c room = read c []
  fmembers_of t (m ∷ ms) c room = or_end_if (absorbs t m) (fmember_of types s set nest m c room) (λ d used. fmembers_of t ms d (room - used))

  -- the members of a Mutable structure, each by its lookup
  unfoldable pub mmembers_of : List Member → Cursor → ℕ → Outcome
  mmembers_of [] c room = read c []
  mmembers_of (m ∷ ms) c room = and_then (mmember_of types s set nest m c room) (λ d used. mmembers_of ms d (room - used))
