-- What each function of the cycle is held to: its rule over the types that an index finds in a book, where d more values may be opened.
use Rattle.reader.specs.declared.Deserializer.{Deserializer}
use Rattle.std.specs.Prelude.{ℕ, Bool, List}
use Rattle.wire.specs.declared.cursor.Cursor.{Cursor}
use Rattle.wire.specs.declared.settings.Settings.{Settings}
use Rattle.book.specs.Types.{BookType, Member}
use Rattle.book.specs.Places.{types_in}
use Rattle.table.specs.Outcome.{Outcome, and_then}
use Rattle.choice.specs.Discriminator.{Discriminator}
use Rattle.reader.specs.Value.{Nest, elements_of, list_value, value_of}
use Rattle.reader.specs.Member.{found_value, mmember_of, optional_by, fmember_of}
use Rattle.reader.specs.Structure.{fmembers_of, mmembers_of}
use Rattle.reader.specs.Union.{discriminator_by, on_discriminator, members_by}
use Rattle.reader.specs.Nested.{ending_by, members_of, body_of, nested_at}
use Rattle.reader.specs.Code.Run.{run_of}

module _ (x : Deserializer) (d : ℕ) where
  abbrev pub its_types : List BookType
  its_types = types_in x.types

  abbrev pub bytes : List ℕ
  bytes = x.reader.bytes.now

  abbrev pub set : Settings
  set = x.reader.set

  abbrev pub nest : Nest
  nest = nested_at its_types set d

  abbrev pub run_in : ℕ → ℕ → ℕ → Cursor → ℕ → Outcome
  run_in ty id count c room = run_of nest bytes ty id count 0 c room

  abbrev pub elements_in : ℕ → ℕ → ℕ → Cursor → ℕ → Outcome
  elements_in = elements_of its_types bytes set nest

  abbrev pub list_in : BookType → ℕ → Cursor → ℕ → Outcome
  list_in = list_value its_types bytes set nest

  abbrev pub value_in : ℕ → ℕ → Cursor → ℕ → Outcome
  value_in = value_of its_types bytes set nest

  -- from the member's own data
  abbrev pub found_in : Member → ℕ → Cursor → ℕ → Outcome
  found_in = found_value its_types bytes set nest

  abbrev pub mmember_in : Member → Cursor → ℕ → Outcome
  mmember_in = mmember_of its_types bytes set nest

  abbrev pub optional_in : Member → Cursor → ℕ → Outcome
  optional_in = optional_by its_types bytes set nest set.version

  abbrev pub fmember_in : Member → Cursor → ℕ → Outcome
  fmember_in = fmember_of its_types bytes set nest

  abbrev pub fmembers_in : BookType → Cursor → ℕ → Outcome
  fmembers_in t c room = fmembers_of its_types bytes set nest t t.members c room

  abbrev pub mmembers_in : BookType → ℕ → Cursor → ℕ → Outcome
  mmembers_in t end c room = and_then (mmembers_of its_types bytes set nest t.members c room) (λ e used. ending_by bytes set set.version end e)

  abbrev pub union_in : Bool → BookType → Cursor → ℕ → Outcome
  union_in mutable t c room = members_by its_types bytes set nest mutable t.members c room

  abbrev pub discriminator_in : Bool → Member → Cursor → ℕ → Outcome
  discriminator_in = discriminator_by its_types bytes set nest

  abbrev pub chosen_in : Bool → Member → BookType → Cursor → ℕ → Discriminator → Outcome
  chosen_in mutable disc t c room v = on_discriminator its_types bytes set nest mutable disc t.members c room v

  abbrev pub members_in : BookType → Cursor → ℕ → Outcome
  members_in = members_of its_types bytes set nest

  abbrev pub body_in : BookType → Cursor → ℕ → Outcome
  body_in = body_of its_types bytes set nest
