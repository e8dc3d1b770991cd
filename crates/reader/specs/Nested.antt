-- Opening a value, and the depth.
use Rattle.wire.specs.declared.cursor.Unread.TheVariants as unread
use Rattle.std.specs.Prelude.{ℕ, zero, suc, ◌-◌, List, [], eqb, Bool, true, false, not, Err, Ok}
use Rattle.ground.specs.Choice.{pick, both}
use Rattle.wire.specs.declared.cursor.Cursor.{Cursor}
use Rattle.wire.specs.declared.settings.Settings.{Settings}
use Rattle.wire.specs.declared.settings.Version.{Version}
use Rattle.wire.specs.declared.settings.Version.TheVariants.{Xcdr1, Xcdr2}
use Rattle.wire.specs.Dheader.{Contents}
use Rattle.wire.specs.Place.{cursor_at, after_move}
use Rattle.wire.specs.Ends.{keeps_ends, cut_at}
use Rattle.wire.specs.Dheader.{undelimited, contents_at, after_contents}
use Rattle.kinds.specs.Kinds.{opens}
use Rattle.book.specs.Types.{BookType, type_no}
use Rattle.book.specs.Asked.{is_mutable, is_structure, is_delimited}
use Rattle.lookup.specs.Xcdr1.{seek_to_sentinel}
use Rattle.table.specs.declared.out.Refusal.TheVariants.{InvalidData, InvalidType, TooDeep}
use Rattle.table.specs.Outcome.{Outcome, read, short, refused, room_for, closed, and_then}
use Rattle.values.specs.Scalar.{enum_of}
use Rattle.reader.specs.Value.{Nest}
use Rattle.reader.specs.Structure.{fmembers_of, mmembers_of}
use Rattle.reader.specs.Union.{members_by}

-- ---- what begins a structure or a union, and what ends it

-- "a Mutable union's DHEADER may fail unheard", where ends are not kept
unfoldable pub may_fail_unheard : Settings → BookType → Bool
may_fail_unheard set t = both (not (keeps_ends set)) (both (is_mutable t) (not (is_structure t)))

-- "the structure then stands at its end, the union does not"; where ends are kept, order 1: "Appendable and Mutable structures and unions end there
-- and unknown members are passed over"
unfoldable pub has_ending : Settings → BookType → Bool
has_ending set t = pick (keeps_ends set) (is_delimited t) (both (is_mutable t) (is_structure t))

module _ (s : List ℕ) (set : Settings) where
  -- its members then stand where it ran short: "Refusals keep the position reached." (`Bad` comes up only where ends are kept, and there all is heard.)
  unfoldable pub unheard : Contents → Contents
  unheard (Err (unread.Short x)) = undelimited s x.at
  unheard (Err unread.Bad) = Err unread.Bad
  unheard (Ok (c, end)) = Ok (c, end)

  -- such a one, or any other: "if that read is short, the value itself answers 1"
  unfoldable pub unheard_if : Bool → Contents → Contents
  unheard_if true given = unheard given
  unheard_if false given = given

  -- what begins it, and where its members then stand
  unfoldable pub beginning_of : BookType → Cursor → Contents
  beginning_of t c = unheard_if (may_fail_unheard set t) (contents_at s set (is_delimited t) c)

  -- by the version: "A Mutable structure then looks for 0x3F02 itself", and in XCDR2 "then stands at its end"
  unfoldable pub ending_by : Version → ℕ → Cursor → Outcome
  ending_by Xcdr1 end c = after_move short (seek_to_sentinel s set c) (λ d. read d [])
  ending_by Xcdr2 end c = read (cursor_at end c.origin) []

  -- any other stands after its last member: "ignore its value"; "A Mutable union does not look for it."
  unfoldable pub ending_if : Bool → ℕ → Cursor → Outcome
  ending_if true end c = ending_by set.version end c
  ending_if false end c = read c []

  -- what ends it
  unfoldable pub ending_of : BookType → ℕ → Cursor → Outcome
  ending_of t end c = ending_if (has_ending set t) end c

module _ (types : List BookType) (s : List ℕ) (set : Settings) (nest : Nest) where
  -- the members of a structure, Mutable or not, and those of a union
  unfoldable pub members_if : Bool → Bool → BookType → Cursor → ℕ → Outcome
  members_if true true t c room = mmembers_of types s set nest t.members c room
  members_if true false t c room = fmembers_of types s set nest t t.members c room
  members_if false mutable t c room = members_by types s set nest mutable t.members c room

  unfoldable pub members_of : BookType → Cursor → ℕ → Outcome
  members_of t c room = members_if (is_structure t) (is_mutable t) t c room

  -- its members, and what ends it
  unfoldable pub contents_of : BookType → ℕ → Cursor → ℕ → Outcome
  contents_of t end c room = and_then (members_of t c room) (λ e used. ending_of s set t end e)

module _ (types : List BookType) (s : List ℕ) (set : Settings) (nest : Nest) where
  -- what begins it, and then its contents, from the data up to where they end
  unfoldable pub delimited_of : BookType → Cursor → ℕ → Outcome
  delimited_of t c room =
      after_contents short (refused InvalidData) (beginning_of s set t c) (λ d end. contents_of types (cut_at set s end) set nest t end d room)

  -- an enum, or a structure or union
  unfoldable pub body_by : Bool → BookType → Cursor → ℕ → Outcome
  body_by true t c room = enum_of s set t.base c room
  body_by false t c room = delimited_of t c room

  -- what stands beneath a value's row: 21 ENUM, 22 STRUCTURE, 23 UNION
  unfoldable pub body_of : BookType → Cursor → ℕ → Outcome
  body_of t c room = body_by (eqb t.kind 21) t c room

  -- "Opening a value asks in order: kind 21 to 23 (else 3), .., room (13)." Order 7: "the position at opening", before any DHEADER
  unfoldable pub opened_if : Bool → ℕ → ℕ → Cursor → ℕ → Outcome
  opened_if false ty id c room = refused InvalidType
  opened_if true ty id c room = room_for room (closed (type_no types ty).kind id ty c.pos (body_of (type_no types ty) c (room - 1)))

-- 12, "TooDeep: a structure, enum or union would open at depth 17 (root is 1)", asked after the kind and before the room
unfoldable pub too_deep_if : Bool → Outcome
too_deep_if false = refused InvalidType
too_deep_if true = refused TooDeep

-- opening where d more values may be opened one in the other
unfoldable pub nested_at : List BookType → Settings → ℕ → Nest
nested_at types set zero s ty id c room = too_deep_if (opens (type_no types ty).kind)
nested_at types set (suc d) s ty id c room = opened_if types s set (nested_at types set d) (opens (type_no types ty).kind) ty id c room

-- a whole reading of the data: the root is the first of 16, with room for so many rows. "The root and an enum's value have id 0."
unfoldable pub reading : List BookType → List ℕ → Settings → ℕ → ℕ → Outcome
reading types s set root room = nested_at types set 16 s root 0 (cursor_at 0 0) room
