-- DEMAND 3, AND THE CHECK BOTH WAYS. The statements cite only definitions of `specs/`: `check_of` and `Checked` say what the check gives back,
-- `reading` is the reader's written rules, `Untroubled` what is left of them.
use Prim.Native.Nat.{ℕ}
use mathlib.Core.Path.{◌≡◌, refl, sym, ◌∙◌}
use mathlib.Core.Bool.{Bool, true, false}
use mathlib.Core.List.Memᴰ
use mathlib.Core.List.{List}
use native.Mathlib.Omega.{arith}
use lib.Dec.{ltb}
use borrow.Author.Tests.{ltb-true, ltb-false}
use Rattle.ground.proofs.Tests.{apart}
use Rattle.wire.specs.declared.settings.Settings.{Settings}
use Rattle.wire.specs.Place.{cursor_at}
use Rattle.book.specs.Types.{BookType, type_count, types_of}
use Rattle.book.specs.Rules.{book_ok}
use Rattle.std.specs.Prelude.{Ok, Err}
use Rattle.book.specs.Fault.{Verdict, fault_number, fault_of}
use Rattle.book.proofs.Faults.{reason_told, told_nothing}
use Rattle.table.specs.Outcome.{Outcome, number_of, refusal_number, rows_of}
use Rattle.reader.specs.Nested.{reading}
use Rattle.fit.specs.Fit.{check_clauses, Passes}
use Rattle.fit.specs.Ids.{clauses_for}
use Rattle.shape.specs.Shape.{Opened}
use Rattle.fit.specs.Check.{check_of}
use Rattle.fit.specs.Code.Check.{fits}
use Rattle.fit.specs.Demand3.{Checked, fit, bad_book, bad_root, unfit, finished_reading, too_few_bytes, invalid_data, full_table, absent_discriminator, AreBytes, Untroubled}
use Rattle.fit.proofs.Ends.{Ends, finished, wanting, broken, by_test}
use Rattle.fit.proofs.Scalars.{Allowed, bad_data, no_room_law, no_discriminator}
use Rattle.fit.proofs.Settling.{nested_settles}
use Rattle.fit.proofs.Exact.{fits_passes, passes_fits}
use Rattle.fit.proofs.Fits.{passes_fewer}
use Rattle.fit.proofs.Books.{links_down, right_type}

-- THE CHECK'S NUMBER SAYS THIS, for any book and any root, and for both uses
pub check_says : (book : List ℕ) (root : ℕ) (onlyXcdr2 : Bool) → Checked book root onlyXcdr2 (check_of book root onlyXcdr2)
unfolding check_of fault_number
check_says book root onlyXcdr2 =
    let F : ℕ → Type 0 = Checked book root onlyXcdr2 in
    by_test F (book_ok book) (λ good.
    by_test F (ltb root (type_count book)) (λ low.
    by_test F (fits (clauses_for onlyXcdr2) (types_of book) root) (λ e. fit good (ltb-true root (type_count book) low) (fits_passes (clauses_for onlyXcdr2) (types_of book) root e)) (λ e.
    unfit good (ltb-true root (type_count book) low) (λ p. apart (sym e ∙ passes_fits (clauses_for onlyXcdr2) (types_of book) (links_down book good) root p))))
    (λ out. bad_root good (ltb-false root (type_count book) out))) (λ bad. by_fault_law (fault_of book) refl bad)
  where
    by_fault_law : (f : Verdict) → fault_of book ≡ f → book_ok book ≡ false → Checked book root onlyXcdr2 (fault_number f)
    by_fault_law (Ok u) e bad = absurd (apart (sym bad ∙ told_nothing book e))
    by_fault_law (Err f) e bad = bad_book {k = f.at} {why = f.reason} e

pub passing : {book : List ℕ} {root n : ℕ} {onlyXcdr2 : Bool} → Checked book root onlyXcdr2 n → n ≡ 0 → (book_ok book ≡ true) × Passes (clauses_for onlyXcdr2) (types_of book) root
passing (fit good low p) e = (good, p)
passing (bad_book {k} {why} bad) e = absurd (omega (arith, (reason_told why).low))
passing (bad_root good out) e = absurd (omega arith)
passing (unfit good low p) e = absurd (omega arith)

-- what passes by either use passes by document 01's clauses, which is all that a reading asks
document_01 : {types : List BookType} {root : ℕ} (onlyXcdr2 : Bool) → Passes (clauses_for onlyXcdr2) types root → Passes check_clauses types root
unfolding clauses_for
document_01 onlyXcdr2 p = passes_fewer check_clauses (λ clause o. Memᴰ.tail o) p

untroubled : {types : List BookType} {s : List ℕ} {root : ℕ} {o : Outcome} → Ends (Opened types s root 0) Allowed o → Untroubled types s root o
unfolding number_of refusal_number rows_of
untroubled (finished v) = record { number = finished_reading; rows = λ e. v }
untroubled wanting = record { number = too_few_bytes; rows = λ e. absurd (omega arith) }
untroubled (broken bad_data) = record { number = invalid_data; rows = λ e. absurd (omega arith) }
untroubled (broken no_room_law) = record { number = full_table; rows = λ e. absurd (omega arith) }
untroubled (broken no_discriminator) = record { number = absent_discriminator; rows = λ e. absurd (omega arith) }

-- DEMAND 3: for every book and root that the check passes, all data, all settings and every room; for both uses. A type that passes for XCDR2 only
-- has no trouble with XCDR1 data either: ids make none
pub demand_3 : (book s : List ℕ) → AreBytes s → (set : Settings) (root room : ℕ) (onlyXcdr2 : Bool) → check_of book root onlyXcdr2 ≡ 0 → Untroubled (types_of book) s root (reading (types_of book) s set root room)
unfolding reading
demand_3 book s bytes set root room onlyXcdr2 e =
    let p = passing (check_says book root onlyXcdr2) e in
    let q = document_01 onlyXcdr2 p.1 in
    untroubled (nested_settles (types_of book) s set (right_type book p.0) 16 s (record { bytes = bytes; fits = omega arith }) root 0 (cursor_at 0 0) room q.kind q.fit)
