-- What the code answers for an outcome, and what it leaves in the table.
use Rattle.table.specs.declared.out.Trouble.TheVariants as trouble
use Rattle.std.specs.Prelude.{ℕ, ◌+◌, ◌≡◌, List, length, Result, Err, Ok}
use Rattle.wire.specs.declared.cursor.Cursor.{Cursor}
use Rattle.wire.specs.declared.cursor.Unread.{Unread}
use Rattle.wire.specs.declared.cursor.Unread.TheVariants as unread
use Rattle.table.specs.declared.out.Trouble.{Trouble}
use Rattle.table.specs.declared.out.Refusal.TheVariants.{InvalidData}
use Rattle.table.specs.Outcome.{Outcome, read, short, refused, rows_of}
use Rattle.table.specs.Code.Rows.{Filled}

-- bytes that no such value has are InvalidData
abbrev pub unread_trouble : Unread → Trouble
unread_trouble (unread.Short x) = trouble.Short x
unread_trouble unread.Bad = trouble.Refused InvalidData

-- the place after the value, and the number of rows that then stand in the table; or why there is none
abbrev pub Out : Type 0
Out = Result (Cursor × ℕ) Trouble

-- an outcome's answer, after n rows
unfoldable pub answer : ℕ → Outcome → Out
answer n (read c rs) = Ok (c, n + length rs)
answer n (short x) = Err (trouble.Short x)
answer n (refused k) = Err (trouble.Refused k)

pub record Done (o : Outcome) (n : ℕ) (before after : List ℕ) (r : Out) : Type 0 where
  pub answered : r ≡ answer n o
  pub table : Filled before after n (rows_of o)
