-- Laws of the check itself: one for each answer. Assumes nothing.
use Prim.Native.Nat.{ℕ, ◌-◌, ◌≤◌, ◌<◌}
use mathlib.Core.Path.{◌≡◌, sym, ap, ◌∙◌}
use mathlib.Core.Bool.{Bool, true, false}
use mathlib.Core.List.{List}
use native.Mathlib.Omega.{arith}
use lib.ListN.{length, take}
use borrow.Author.Tests.{lt-ltb, le-ltb}
use Rattle.ground.specs.Choice.{pick}
use Rattle.book.specs.Types.{BookType, type_count, types_of}
use Rattle.book.specs.Places.{types_by, index_count, indexed}
use Rattle.book.specs.Rules.{head_ok, book_ok}
use Rattle.book.specs.Fault.{Verdict, is_right, fault_number, fault_of}
use Rattle.book.proofs.Good.{head_good, count_good, index_good}
use Rattle.book.proofs.Faults.{book_right}
use Rattle.fit.specs.Ids.{clauses_for}
use Rattle.fit.specs.Check.{check_of}
use Rattle.fit.specs.Code.Check.{fits}

-- "Otherwise 8, 9, then 16.", by what the judge found: of a book that breaks a rule, its number
module _ (b : List ℕ) (root : ℕ) (onlyXcdr2 : Bool) (told : Verdict) (found : told ≡ fault_of b) (t : Bool) (right : t ≡ is_right told) where
  judged : book_ok b ≡ t
  judged = sym (book_right b) ∙ (rw (← found, ← right))

  pub check_book : t ≡ false → (r : ℕ) → r ≡ fault_number told → r ≡ check_of b root onlyXcdr2
  unfolding check_of
  check_book z r e = rw (judged, z, ← found) e

  -- a book of which nothing is told has 64 types at most
  module _ (z : t ≡ true) (n : ℕ) (counted : n ≡ type_count b) where
    good : book_ok b ≡ true
    good = judged ∙ z

    pub judge_few : n ≤ 64
    judge_few = omega (arith, (count_good b good).1)

    pub check_root : n ≤ root → 9 ≡ check_of b root onlyXcdr2
    unfolding check_of
    check_root h = rw (good, ← counted, le-ltb root n h)

    -- the types of the book are those that its whole index finds
    module _ (low : root < n) (l u : List ℕ) (long : length l ≡ 64) (written : u ≡ pick (head_ok b) (indexed b l) l)
        (r : Bool) (is : r ≡ fits (clauses_for onlyXcdr2) (types_by b (take (n - 0) u)) root) where
      same : r ≡ fits (clauses_for onlyXcdr2) (types_of b) root
      same =
          let m : n - 0 ≡ index_count b (length l) = omega (arith, counted, judge_few) in
          let w : u ≡ indexed b l = rw (head_good b good) at written in
          let e : types_by b (take (n - 0) u) ≡ types_of b = rw (m, w) (index_good b l good (omega arith)) in
          is ∙ ap (λ (types : List BookType). fits (clauses_for onlyXcdr2) types root) e

      pub check_fit : r ≡ true → 0 ≡ check_of b root onlyXcdr2
      unfolding check_of
      check_fit h = rw (good, ← counted, lt-ltb root n low, ← same, h)

      pub check_unfit : r ≡ false → 16 ≡ check_of b root onlyXcdr2
      unfolding check_of
      check_unfit h = rw (good, ← counted, lt-ltb root n low, ← same, h)
