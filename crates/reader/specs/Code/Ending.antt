-- What a DHEADER's end makes of a list's answer, where ends are kept, and what a lookup makes of a member's. It is proved to be what the rules say of a list
-- (proofs/ValueSteps.antt) and of a member (proofs/BeginningSteps.antt).
use Rattle.std.specs.Prelude.{ℕ, Bool, true, false, eqb, Err, Ok}
use Rattle.table.specs.declared.out.Trouble.{Trouble}
use Rattle.ground.specs.Choice.{pick}
use Rattle.wire.specs.Place.{brought_back}
use Rattle.wire.specs.declared.cursor.Cursor.{Cursor}
use Rattle.table.specs.Code.Outcome.{Out}
use Rattle.table.specs.declared.out.Trouble.TheVariants as trouble
use Rattle.table.specs.declared.out.Refusal.TheVariants.{InvalidData}

-- a list ends exactly there, or is 2
unfoldable pub ending_at : ℕ → Out → Out
ending_at end (Ok (c, n)) = pick (eqb c.pos end) (Ok (c, n)) (Err (trouble.Refused InvalidData))
ending_at end (Err e) = Err e

-- a member that was not read ends the structure, after n rows; where the flag says so and bytes ran short, as read
unfoldable pub ended_if : Bool → ℕ → Trouble → Out
ended_if true n (trouble.Short x) = Ok (x.at, n)
ended_if false n (trouble.Short x) = Err (trouble.Short x)
ended_if flag n (trouble.Refused k) = Err (trouble.Refused k)

-- the place comes back, whatever was read
unfoldable pub coming_back : Cursor → Out → Out
coming_back c (Ok (d, n)) = Ok (c, n)
coming_back c (Err (trouble.Short x)) = Err (trouble.Short (brought_back x c))
coming_back c (Err (trouble.Refused k)) = Err (trouble.Refused k)
