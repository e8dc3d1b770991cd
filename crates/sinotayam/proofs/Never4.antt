-- NO PUBLIC CALL EVER ANSWERS 4 (order 13). The statements cite only definitions of `specs/`. Assumes nothing.
use Rattle.std.specs.Prelude.{Ok, Err, None, Some}
use Prim.Native.Nat.{ℕ, ◌%◌}
use mathlib.Core.Path.{◌≡◌, refl, sym, ◌∙◌}
use mathlib.Core.Bool.{Bool, true, false}
use mathlib.Core.List.{List}
use native.Mathlib.Omega.{arith}
use Rattle.ground.specs.Choice.{pick}
use Rattle.wire.specs.declared.settings.Mode.{Mode}
use Rattle.book.specs.Fault.{Verdict, reason_number, fault_number, fault_of}
use Rattle.book.proofs.Faults.{reason_told, told_wrong, told_nothing}
use Rattle.table.specs.Rows.{capacity}
use Rattle.fit.specs.Check.{check_of}
use Rattle.fit.specs.Demand3.{Checked, fit, bad_book, bad_root, unfit}
use Rattle.fit.proofs.Demand3.{check_says}
use Rattle.sinotayam.specs.declared.answer.Answer.{Answer}
use Rattle.sinotayam.specs.Text.{Span}
use Rattle.sinotayam.specs.Answer.{Result, code_of, Settled, Returned}
use Rattle.sinotayam.specs.Entry.{read_of, read_data_of}
use Rattle.sinotayam.specs.Prepared.{has_places, prepare_of, read_prepared, read_data_prepared}
use Rattle.sinotayam.specs.Text.{span_number, span_in, text_number}
use Rattle.sinotayam.specs.Room.{Listed, Steady}
use Rattle.sinotayam.proofs.Numbers.{listed_not_four}
use Rattle.sinotayam.proofs.Bigger.{read_steady, read_data_steady, read_prepared_steady, read_data_prepared_steady}

-- 4 IS NO NUMBER OF THE TABLE
pub never_4 : Listed 4 → ⊥
never_4 l = (listed_not_four l).other refl

-- ---- the calls that read, by what they promise: `Settled`, and `Returned` for C

module _ (answer : ℕ → Result) (steady : Steady answer) (lent after : List ℕ) where
  pub call_never_4 : (r : Answer) → Settled (answer (capacity lent)) lent after r → code_of r.status ≡ 4 → ⊥
  call_never_4 r d e = (listed_not_four (steady.listed (capacity lent))).other (sym d.number ∙ e)

  pub word_never_4 : (r : ℕ) → Returned (answer (capacity lent)) lent after r → r % 256 ≡ 4 → ⊥
  word_never_4 r d e =
      let n = listed_not_four (steady.listed (capacity lent)) in
      n.other (omega (arith, n.small, d.word))

-- ONE FOR EACH CALL
module _ (book : List ℕ) (root : ℕ) (mode : Mode) (lent after : List ℕ) where
  module _ (message : List ℕ) where
    pub read_never_4 : (r : Answer) → Settled (read_of book root message mode (capacity lent)) lent after r → code_of r.status ≡ 4 → ⊥
    read_never_4 = call_never_4 (read_of book root message mode) (read_steady book root mode message) lent after

    pub sinotayam_read_never_4 : (r : ℕ) → Returned (read_of book root message mode (capacity lent)) lent after r → r % 256 ≡ 4 → ⊥
    sinotayam_read_never_4 = word_never_4 (read_of book root message mode) (read_steady book root mode message) lent after

    module _ (index : List ℕ) where
      pub read_prepared_never_4 : (r : Answer) → Settled (read_prepared book index root message mode (capacity lent)) lent after r → code_of r.status ≡ 4 → ⊥
      read_prepared_never_4 = call_never_4 (read_prepared book index root message mode) (read_prepared_steady book root mode index message) lent after

      pub sinotayam_read_prepared_never_4 : (r : ℕ) → Returned (read_prepared book index root message mode (capacity lent)) lent after r → r % 256 ≡ 4 → ⊥
      sinotayam_read_prepared_never_4 = word_never_4 (read_prepared book index root message mode) (read_prepared_steady book root mode index message) lent after

  module _ (id s : List ℕ) where
    pub read_data_never_4 : (r : Answer) → Settled (read_data_of book root id s mode (capacity lent)) lent after r → code_of r.status ≡ 4 → ⊥
    read_data_never_4 = call_never_4 (read_data_of book root id s mode) (read_data_steady book root mode id s) lent after

    pub read_data_prepared_never_4 : (index : List ℕ) (r : Answer) → Settled (read_data_prepared book index root id s mode (capacity lent)) lent after r → code_of r.status ≡ 4 → ⊥
    read_data_prepared_never_4 index = call_never_4 (read_data_prepared book index root id s mode) (read_data_prepared_steady book root mode index id s) lent after

-- ---- the other calls promise these very numbers, to Rust and to C

checked_not_four : {book : List ℕ} {root n : ℕ} {only : Bool} → Checked book root only n → n ≡ 4 → ⊥
checked_not_four (fit good low p) e = omega arith
checked_not_four (bad_book {k} {why} bad) e = omega (arith, (reason_told why).low)
checked_not_four (bad_root good out) e = omega arith
checked_not_four (unfit good low p) e = omega arith

pub check_never_4 : (book : List ℕ) (root : ℕ) (only : Bool) → check_of book root only ≡ 4 → ⊥
check_never_4 book root only = checked_not_four (check_says book root only)

pub prepare_never_4 : (book lent : List ℕ) → prepare_of book lent ≡ 4 → ⊥
unfolding prepare_of fault_number
prepare_never_4 book lent e = by_fault_law (fault_of book) refl
  where
    by_room : (room : Bool) → ◌≡◌ {A = ℕ} (pick room 0 13) 4 → ⊥
    by_room true h = omega arith
    by_room false h = omega arith

    by_fault_law : (f : Verdict) → fault_of book ≡ f → ⊥
    by_fault_law (Ok u) h = by_room (has_places book lent) (rw (told_nothing book h) at e)
    by_fault_law (Err x) h =
        let z : reason_number x.reason ≡ 4 = rw (told_wrong book x.at x.reason h, h) at e in
        omega (arith, (reason_told x.reason).low)

span_not_four : (p : Span) → span_number p ≡ 4 → ⊥
unfolding span_number
span_not_four (Some (start, n)) e = omega arith
span_not_four None e = omega arith

pub text_never_4 : (table : List ℕ) (row : ℕ) (s : List ℕ) → text_number table row s ≡ 4 → ⊥
text_never_4 table row s = span_not_four (span_in table row s)
