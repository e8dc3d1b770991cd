-- ORDER 6 OF THE CALLS: nothing is told of an answer that is not 1, and of 1 the need is over 0. The statements cite only definitions of `specs/`. Assumes
-- nothing.
use Rattle.std.specs.Prelude.{Ok, Err, None, Some}
use Prim.Native.Nat.{ℕ, ◌+◌, ◌^◌, ◌≤◌, ◌<◌}
use mathlib.Core.Path.{◌≡◌, refl, sym, ◌∙◌}
use mathlib.Core.Bool.{Bool, true, false}
use mathlib.Core.List.{List}
use native.Mathlib.Omega.{arith}
use lib.Dec.{eqb, leb, ltb}
use lib.ListN.{length, get_or, drop, length-drop}
use lib.Seq.{get_or-drop}
use borrow.Author.Tests.{ltb-true, ltb-false}
use Rattle.wire.specs.declared.cursor.Told.{Told}
use Rattle.wire.specs.declared.settings.Mode.{Mode}
use Rattle.wire.specs.Identifier.{Representation, settings_of}
use Rattle.book.specs.Types.{BookType, types_of, type_no}
use Rattle.book.specs.Fault.{Verdict, fault_of}
use Rattle.table.specs.Outcome.{Outcome, read, short, refused, refusal_number, number_of, told_of}
use Rattle.table.specs.declared.out.Refusal.TheVariants as refusal
use Rattle.reader.specs.Nested.{reading}
use Rattle.book.proofs.Faults.{reason_told}
use Rattle.fit.specs.Demand3.{AreBytes}
use Rattle.fit.proofs.Told.{reading_told, bounds_by, bounds_of}
use Rattle.sinotayam.specs.declared.answer.Status.{Status}
use Rattle.sinotayam.specs.declared.answer.Status.TheVariants.{InvalidData, NotPrepared, BadBook, BadRoot, TooLong}
use Rattle.sinotayam.specs.declared.answer.Answer.{Answer}
use Rattle.sinotayam.specs.Answer.{Result, code_of, refused_by, result_of, Settled}
use Rattle.sinotayam.specs.Entry.{refused_if, short_if, under_four, by_identifier, message_by, data_by, by_fault, with_book, read_of, read_data_of}
use Rattle.sinotayam.specs.Prepared.{places_in, types_in, with_index, read_prepared, read_data_prepared}
use Rattle.sinotayam.specs.Told.{ToldOf1, ToldByCall}

-- ---- what is refused before the reading, and the reading

-- a status that is not 1
told_refused : (n : Status) → (code_of n ≡ 1 → ⊥) → ToldOf1 (refused_by n)
told_refused n f = record { nothing = λ o. refl; some = λ e. absurd (f e) }

told_if : (t : Bool) (n : Status) (next : Result) → (code_of n ≡ 1 → ⊥) → (t ≡ false → ToldOf1 next) → ToldOf1 (refused_if t n next)
unfolding refused_if
told_if true n next f q = told_refused n f
told_if false n next f q = q refl

-- a book that breaks a rule is told by 17 to 23
told_fault : (f : Verdict) (next : Result) → ToldOf1 next → ToldOf1 (by_fault f next)
unfolding by_fault code_of
told_fault (Ok u) next q = q
told_fault (Err x) next q = told_refused (BadBook x.reason) (λ e. omega (arith, (reason_told x.reason).low))

told_short : (t : Bool) (told : Told) (next : Result) → (t ≡ true → 0 < told.need) → ToldOf1 next → ToldOf1 (short_if t told next)
unfolding short_if code_of
told_short true told next h q = record { nothing = λ o. absurd (o refl); some = λ e. h refl }
told_short false told next h q = q

told_outcome : (o : Outcome) → ((x : _) → o ≡ short x → 0 < x.told.need) → ToldOf1 (result_of o)
unfolding result_of number_of refusal_number told_of
told_outcome (read c rs) h = record { nothing = λ o. refl; some = λ e. absurd (omega arith) }
told_outcome (short x) h = record { nothing = λ o. absurd (o refl); some = λ e. h x refl }
told_outcome (refused refusal.InvalidData) h = record { nothing = λ o. refl; some = λ e. absurd (omega arith) }
told_outcome (refused refusal.InvalidType) h = record { nothing = λ o. refl; some = λ e. absurd (omega arith) }
told_outcome (refused refusal.Unsupported) h = record { nothing = λ o. refl; some = λ e. absurd (omega arith) }
told_outcome (refused refusal.TooDeep) h = record { nothing = λ o. refl; some = λ e. absurd (omega arith) }
told_outcome (refused refusal.NoRoom) h = record { nothing = λ o. refl; some = λ e. absurd (omega arith) }
told_outcome (refused refusal.NoDiscriminator) h = record { nothing = λ o. refl; some = λ e. absurd (omega arith) }

module _ (types : List BookType) (bounds : (ty : ℕ) → (type_no types ty).bound < 2 ^ 32) (root room : ℕ) where
  told_identifier : (s : List ℕ) → AreBytes s → length s ≤ 65532 → (r : Representation) → ToldOf1 (by_identifier types root s room r)
  unfolding by_identifier code_of
  told_identifier s bytes fits None = told_refused InvalidData (λ e. omega arith)
  told_identifier s bytes fits (Some set) = told_outcome (reading types s set root room) (λ x e. (reading_told types s set root room bytes fits bounds x e).some)

  told_message : (message : List ℕ) (mode : Mode) → AreBytes message → ToldOf1 (message_by types root message mode room)
  unfolding message_by code_of
  told_message message mode bytes =
      told_if (leb (length types) root) BadRoot _ (λ e. omega arith) (λ r.
      told_if (ltb 65536 (length message)) TooLong _ (λ e. omega arith) (λ t.
      let l : length message ≤ 65536 = ltb-false 65536 (length message) t in
      let k : length (drop 4 message) ≤ 65532 = simp length-drop (omega arith) in
      told_short (ltb (length message) 4) (under_four (length message)) _ (λ u. omega (arith, ltb-true (length message) 4 u))
      (told_identifier (drop 4 message) (λ i. rw (get_or-drop) (bytes (4 + i))) k (settings_of mode (get_or message 0 0) (get_or message 1 0)))))

  told_data : (id s : List ℕ) (mode : Mode) → AreBytes s → ToldOf1 (data_by types root id s mode room)
  unfolding data_by code_of
  told_data id s mode bytes =
      told_if (leb (length types) root) BadRoot _ (λ e. omega arith) (λ r.
      told_if (ltb 65532 (length s)) TooLong _ (λ e. omega arith) (λ t.
      told_identifier s bytes (ltb-false 65532 (length s) t) (settings_of mode (get_or id 0 0) (get_or id 1 0))))

-- ---- FOR EVERY BOOK, ROOT, MESSAGE, MODE AND ROOM. What a slice lends are bytes

module _ (book : List ℕ) (good : AreBytes book) (root room : ℕ) (mode : Mode) where
  pub read_told : (message : List ℕ) → AreBytes message → ToldOf1 (read_of book root message mode room)
  unfolding with_book
  read_told message bytes = told_fault (fault_of book) _ (told_message (types_of book) (bounds_of book good) root room message mode bytes)

  pub read_data_told : (id s : List ℕ) → AreBytes s → ToldOf1 (read_data_of book root id s mode room)
  unfolding with_book
  read_data_told id s bytes = told_fault (fault_of book) _ (told_data (types_of book) (bounds_of book good) root room id s mode bytes)

  -- with any index
  module _ (index : List ℕ) where
    pub read_prepared_told : (message : List ℕ) → AreBytes message → ToldOf1 (read_prepared book index root message mode room)
    unfolding with_index code_of
    read_prepared_told message bytes =
        told_if (eqb (length (places_in index)) 0) NotPrepared _ (λ e. omega arith) (λ t. told_message (types_in book index) (bounds_by book (places_in index) good) root room message mode bytes)

    pub read_data_prepared_told : (id s : List ℕ) → AreBytes s → ToldOf1 (read_data_prepared book index root id s mode room)
    unfolding with_index code_of
    read_data_prepared_told id s bytes =
        told_if (eqb (length (places_in index)) 0) NotPrepared _ (λ e. omega arith) (λ t. told_data (types_in book index) (bounds_by book (places_in index) good) root room id s mode bytes)

-- AND OF THE CALLS THEMSELVES, by what they promise: what a call tells is what its result does
pub call_told : (w : Result) (before after : List ℕ) (r : Answer) → ToldOf1 w → Settled w before after r → ToldByCall r
call_told w before after r t d =
    record {
      nothing = λ o. d.told ∙ t.nothing (λ e. o (d.number ∙ e));
      some = λ e. rw d.told (t.some (sym d.number ∙ e));
    }
