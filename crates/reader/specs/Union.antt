-- Unions.
use Rattle.std.specs.Prelude.{ℕ, ◌-◌, List, [], ◌∷◌, Bool, true, false, length, Err, Ok}
use Rattle.std.proofs.Math.Option.{Option, none, some}
use Rattle.wire.specs.declared.cursor.Cursor.{Cursor}
use Rattle.wire.specs.declared.settings.Settings.{Settings}
use Rattle.book.specs.Types.{BookType, Member}
use Rattle.choice.specs.Discriminator.{discriminator_of}
use Rattle.choice.specs.Select.{selected_of}
use Rattle.choice.specs.Discriminator.{Discriminator}
use Rattle.choice.specs.declared.discriminator.Unsaid.TheVariants.{Absent, Unfit}
use Rattle.table.specs.declared.out.Refusal.TheVariants.{InvalidData, InvalidType, NoDiscriminator}
use Rattle.table.specs.Outcome.{Outcome, read, short, refused, prepend}
use Rattle.reader.specs.Value.{Nest, value_of}
use Rattle.reader.specs.Member.{fmember_of, mmember_of}

module _ (types : List BookType) (s : List ℕ) (set : Settings) (nest : Nest) where
  -- a member of a Mutable union is looked up, of another it is read in its place
  unfoldable pub member_by : Bool → Member → Cursor → ℕ → Outcome
  member_by true m c room = mmember_of types s set nest m c room
  member_by false m c room = fmember_of types s set nest m c room

  -- "A Final or Appendable union's discriminator is read as not optional."
  unfoldable pub discriminator_by : Bool → Member → Cursor → ℕ → Outcome
  discriminator_by true m c room = mmember_of types s set nest m c room
  discriminator_by false m c room = value_of types s set nest m.type m.id c room

  -- ".. else 2."
  unfoldable pub on_selected : Bool → Option Member → Cursor → ℕ → Outcome
  on_selected mutable none c room = refused InvalidData
  on_selected mutable (some m) c room = member_by mutable m c room

  -- "Not stored: 14. Kinds 1, 5, 8 to 11, 14 and bitmasks stored as 8: 3."
  unfoldable pub on_discriminator : Bool → Member → List Member → Cursor → ℕ → Discriminator → Outcome
  on_discriminator mutable disc ms c room (Err Absent) = refused NoDiscriminator
  on_discriminator mutable disc ms c room (Err Unfit) = refused InvalidType
  on_discriminator mutable disc ms c room (Ok d) = on_selected mutable (selected_of types disc ms d) c room

  -- after the discriminator: its rows stay, and the selected member follows
  unfoldable pub chosen_of : Bool → Member → List Member → ℕ → Outcome → Outcome
  chosen_of mutable disc ms room (short x) = short x
  chosen_of mutable disc ms room (refused k) = refused k
  chosen_of mutable disc ms room (read c rs) =
      prepend rs (on_discriminator mutable disc ms c (room - length rs) (discriminator_of rs))

  -- the first member is the discriminator; a good book's union has one
  unfoldable pub members_by : Bool → List Member → Cursor → ℕ → Outcome
  members_by mutable [] c room = refused InvalidType
  members_by mutable (m ∷ ms) c room = chosen_of mutable m (m ∷ ms) room (discriminator_by mutable m c room)
