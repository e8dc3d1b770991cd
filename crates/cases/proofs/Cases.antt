-- Laws of a case as bytes: where it ends, and what is read of it. Assumes nothing.
use Rattle.std.specs.Prelude.{Option, None, Some}
use mathlib.Core.Path.{◌≡◌, refl, sym, ap, ◌∙◌}
use mathlib.Core.Bool.{Bool, true, false}
use mathlib.Core.List.{List}
use Prim.Native.Nat.{ℕ, ◌+◌, ◌-◌, ◌^◌, ◌≤◌, ◌<◌}
use native.Mathlib.Nat.{add-sub_cancel_left}
use native.Mathlib.Omega.{arith}
use mir.Syntax.{w64}
use mir.Val.{Fits}
use lib.Dec.{leb, eqb}
use lib.ListN.{length, take, drop}
use borrow.Author.Tests.{eqb-true}
use Rattle.ground.specs.Choice.{pick, both, ◌‥◌, within}
use Rattle.ground.proofs.Tests.{both_second}
use Rattle.wire.specs.declared.settings.Mode.TheVariants.{Crate}
use Rattle.table.specs.Rows.{capacity}
use Rattle.sinotayam.specs.declared.answer.Answer.{Answer}
use Rattle.sinotayam.specs.Answer.{Settled}
use Rattle.sinotayam.specs.Entry.{read_of}
use Rattle.cases.specs.declared.input.Case.{Case}
use Rattle.cases.specs.Input.{Input, case, book_size, root_of, message_size, case_size, input_of, Replied}

-- A CASE ENDS WITH ITS BYTES
module _ (s : List ℕ) where
  abbrev right : Bool
  right = both (within (4 ‥ 65536) (book_size s)) (both (leb (message_size s) 65536) (eqb (length s) (case_size s)))

  ends_if : (g : Bool) (c : Case) → right ≡ g → pick g (Some (case (book_size s) (root_of s) (message_size s))) None ≡ Some c → c.book + 6 + c.message ≡ length s
  ends_if true c h e =
      let k : case (book_size s) (root_of s) (message_size s) ≡ c = cc in
      let p : book_size s ≡ c.book = ap (λ (x : Case). x.book) k in
      let q : message_size s ≡ c.message = ap (λ (x : Case). x.message) k in
      let l : both (leb (message_size s) 65536) (eqb (length s) (case_size s)) ≡ true = both_second (within (4 ‥ 65536) (book_size s)) (both (leb (message_size s) 65536) (eqb (length s) (case_size s))) h in
      omega (arith, eqb-true (length s) (case_size s) (both_second (leb (message_size s) 65536) (eqb (length s) (case_size s)) l))
  ends_if false c h e = let z : ◌≡◌ {A = ℕ} 0 1 = cc in absurd (omega arith)

  module _ (x : Input) (is : x ≡ input_of s) (c : Case) (e : x ≡ Some c) where
    ends : c.book + 6 + c.message ≡ length s
    unfolding input_of
    ends = ends_if right c refl (sym is ∙ e)

    pub case_start : length s < 2 ^ 64 → Fits w64 (c.book + 6)
    case_start h = omega (arith, ends)

    pub case_end : length s < 2 ^ 64 → Fits w64 (c.book + 6 + c.message)
    case_end h = omega (arith, ends)

    pub book_in : c.book ≤ length s
    book_in = omega (arith, ends)

    pub message_in : c.book + 6 + c.message ≤ length s
    message_in = omega (arith, ends)

    -- the code lends the book, and the message six bytes after it
    pub replied_case : (t u : List ℕ) (a : Answer) → Settled (read_of (take c.book s) c.root (take (c.book + 6 + c.message - (c.book + 6)) (drop (c.book + 6) s)) Crate (capacity t)) t u a → Replied (input_of s) s t u (Some a)
    unfolding Replied
    replied_case t u a d =
        rw (sym is ∙ e) (a, refl, rw (add-sub_cancel_left (c.book + 6) c.message) at d)

  pub replied_wrong : (x : Input) (r : Option Answer) → x ≡ input_of s → x ≡ None → r ≡ None → (t : List ℕ) → Replied (input_of s) s t t r
  unfolding Replied
  replied_wrong x r is e f t = rw (sym is ∙ e) (f, refl)
