-- THE NUMBER THAT THE CHECK GIVES BACK.
use Rattle.std.specs.Prelude.{ℕ, Bool, List, ltb}
use Rattle.ground.specs.Choice.{pick}
use Rattle.book.specs.Types.{type_count, types_of}
use Rattle.book.specs.Rules.{book_ok}
use Rattle.book.specs.Fault.{fault_number, fault_of}
use Rattle.fit.specs.Ids.{clauses_for}
use Rattle.fit.specs.Code.Check.{fits}

-- 0 where it passes, "Otherwise 8, 9, then 16."; order 2: "8 becomes 17 to 23". `fits` is the working out of `Passes`: `check_says` (proofs/Demand3.antt) has what each number says
unfoldable pub check_of : List ℕ → ℕ → Bool → ℕ
check_of book root onlyXcdr2 = pick (book_ok book) (pick (ltb root (type_count book)) (pick (fits (clauses_for onlyXcdr2) (types_of book) root) 0 16) 9) (fault_number (fault_of book))
