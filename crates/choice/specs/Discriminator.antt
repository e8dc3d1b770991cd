-- What a union's discriminator says.
use Rattle.std.specs.Prelude.{◌%◌, ◌^◌, List, [], ◌∷◌, eqb, ℤ, Result, Ok, Err}
use Rattle.std.specs.Int.{w32}
use Rattle.std.proofs.Common.{to_z}
use Rattle.ground.specs.Choice.{pick, among}
use Rattle.table.specs.declared.rows.Row.{Row}
use Rattle.choice.specs.declared.discriminator.Unsaid.{Unsaid}
use Rattle.choice.specs.declared.discriminator.Unsaid.TheVariants.{Absent, Unfit}

-- its value as an i32, or why there is none
abbrev pub Discriminator : Type 0
Discriminator = Result ℤ Unsaid

-- "the discriminator's value as an i32, with a UINT32 carried over at its bit pattern": the low 32 bits of the row's word.
-- "Kinds 1, 5, 8 to 11, 14 and bitmasks stored as 8: 3.", so that 3, 4, 6, 7, 12 and 13 are left
unfoldable pub discriminator_in : Row → Discriminator
discriminator_in r = pick (among (3 ∷ 4 ∷ 6 ∷ 7 ∷ 12 ∷ 13 ∷ []) r.kind) (Ok (to_z w32 (r.a % 2 ^ 32))) (Err Unfit)

-- an enum's value stands in the row beneath its own
unfoldable pub enum_in : List Row → Discriminator
enum_in [] = Err Unfit
enum_in (r ∷ rs) = discriminator_in r

-- by the rows that it left. "Not stored: 14."
unfoldable pub discriminator_of : List Row → Discriminator
discriminator_of [] = Err Absent
discriminator_of (r ∷ rs) = pick (eqb r.kind 21) (enum_in rs) (discriminator_in r)
