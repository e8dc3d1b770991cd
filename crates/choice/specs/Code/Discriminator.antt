-- What a union's discriminator says, read back from the table: `at_of` (proofs/Discriminators.antt) says that it is `discriminator_of`.
use Rattle.choice.specs.declared.discriminator.Unsaid.{Unsaid}
use Rattle.choice.specs.declared.discriminator.Unsaid.TheVariants as unsaid
use Rattle.table.specs.declared.out.Trouble.{Trouble}
use Rattle.table.specs.declared.out.Trouble.TheVariants as trouble
use Rattle.table.specs.declared.out.Refusal.TheVariants as refusal
use Rattle.std.specs.Prelude.{ℕ, ◌+◌, ◌-◌, List, eqb, leb, Err}
use Rattle.ground.specs.Choice.{pick}
use Rattle.table.specs.Rows.{row_at}
use Rattle.choice.specs.declared.discriminator.Unsaid.TheVariants.{Absent, Unfit}
use Rattle.choice.specs.Discriminator.{Discriminator, discriminator_in}

-- by rows n to m - 1 of a table
unfoldable pub discriminator_at : List ℕ → ℕ → ℕ → Discriminator
discriminator_at t n m =
    pick (leb m n) (Err Absent)
    (pick (eqb (row_at t n).kind 21)
    (pick (eqb (m - n) 1) (Err Unfit) (discriminator_in (row_at t (n + 1))))
    (discriminator_in (row_at t n)))

-- why a discriminator has no value, as the refusal that it comes to
abbrev pub unsaid_trouble : Unsaid → Trouble
unsaid_trouble unsaid.Absent = trouble.Refused refusal.NoDiscriminator
unsaid_trouble unsaid.Unfit = trouble.Refused refusal.InvalidType
