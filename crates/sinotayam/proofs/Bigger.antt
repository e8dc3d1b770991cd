-- ORDER 13 OF THE CALLS: a bigger table changes nothing, and some table is big enough. The statements cite only definitions of `specs/`. Assumes
-- nothing.
use Rattle.std.specs.Prelude.{Ok, Err, None, Some}
use Prim.Native.Nat.{ℕ, ◌%◌, ◌≤◌, ◌<◌}
use mathlib.Core.Path.{◌≡◌, refl, sym, ap, ◌∙◌}
use mathlib.Core.Bool.{Bool, true, false}
use mathlib.Core.List.{List}
use native.Mathlib.Omega.{arith}
use lib.Dec.{eqb, leb, ltb}
use lib.ListN.{length, get_or, drop}
use Rattle.wire.specs.declared.cursor.Told.{Told}
use Rattle.wire.specs.declared.settings.Mode.{Mode}
use Rattle.wire.specs.Identifier.{Representation, settings_of}
use Rattle.book.specs.Types.{BookType, types_of}
use Rattle.book.specs.Fault.{Verdict, fault_of}
use Rattle.book.proofs.Faults.{reason_told}
use Rattle.table.specs.Rows.{capacity}
use Rattle.table.specs.Outcome.{Outcome, read, short, refused, refusal_number, number_of}
use Rattle.table.specs.declared.out.Refusal.TheVariants as refusal
use Rattle.reader.specs.Nested.{reading}
use Rattle.fit.specs.Room.{SameIfRoom, SomeRoom}
use Rattle.fit.proofs.Bigger.{bigger_table, some_table}
use Rattle.sinotayam.specs.declared.answer.Status.{Status}
use Rattle.sinotayam.specs.declared.answer.Status.TheVariants.{Read, NotEnoughData, InvalidData, InvalidType, NotPrepared, BadRoot, TooLong, Unsupported, TooDeep, NoRoom, NoDiscriminator, BadBook}
use Rattle.sinotayam.specs.declared.answer.Answer.{Answer}
use Rattle.sinotayam.specs.Answer.{Result, code_of, refused_by, result_of, Settled, Returned}
use Rattle.sinotayam.specs.Entry.{refused_if, short_if, under_four, by_identifier, message_by, data_by, by_fault, with_book, read_of, read_data_of}
use Rattle.sinotayam.specs.Prepared.{places_in, types_in, with_index, read_prepared, read_data_prepared}
use Rattle.sinotayam.specs.Room.{Listed, Steady, SameCall, SameWord}
use Rattle.sinotayam.proofs.Numbers.{listed_not_four}
use Rattle.sinotayam.proofs.OneOutcome.{one_answer}

-- ---- what is refused before the reading, and the reading

-- a status that says nothing of the table
steady_refused : (n : Status) → (code_of n ≡ 13 → ⊥) → Steady (λ room. refused_by n)
steady_refused n f = record { same = λ few more h o. refl; some = (0, λ more h e. f e); listed = λ room. (n, refl) }

steady_if : (t : Bool) (n : Status) (next : ℕ → Result) → Steady (λ room. refused_by n) → Steady next → Steady (λ room. refused_if t n (next room))
unfolding refused_if
steady_if true n next p q = p
steady_if false n next p q = q

-- a message that is too short is so with every table
steady_short : (t : Bool) (told : Told) (next : ℕ → Result) → Steady next → Steady (λ room. short_if t told (next room))
unfolding short_if code_of
steady_short true told next q = record { same = λ few more h o. refl; some = (0, λ more h e. omega arith); listed = λ room. (NotEnoughData, refl) }
steady_short false told next q = q

outcome_listed : (o : Outcome) → Listed (number_of o)
unfolding number_of refusal_number code_of
outcome_listed (read c rs) = (Read, refl)
outcome_listed (short x) = (NotEnoughData, refl)
outcome_listed (refused refusal.InvalidData) = (InvalidData, refl)
outcome_listed (refused refusal.InvalidType) = (InvalidType, refl)
outcome_listed (refused refusal.Unsupported) = (Unsupported, refl)
outcome_listed (refused refusal.TooDeep) = (TooDeep, refl)
outcome_listed (refused refusal.NoRoom) = (NoRoom, refl)
outcome_listed (refused refusal.NoDiscriminator) = (NoDiscriminator, refl)

steady_reading : (answer : ℕ → Outcome) → SameIfRoom number_of answer → SomeRoom number_of answer → Steady (λ room. result_of (answer room))
unfolding result_of
steady_reading answer same some =
    record {
      same = λ few more h n. ap result_of (same few more h n);
      some = some;
      listed = λ room. outcome_listed (answer room);
    }

module _ (types : List BookType) (root : ℕ) where
  steady_identifier : (s : List ℕ) (r : Representation) → Steady (λ room. by_identifier types root s room r)
  unfolding by_identifier code_of
  steady_identifier s None = steady_refused InvalidData (λ e. omega arith)
  steady_identifier s (Some set) = steady_reading (reading types s set root) (bigger_table types s set root) (some_table types s set root)

  steady_message : (message : List ℕ) (mode : Mode) → Steady (λ room. message_by types root message mode room)
  unfolding message_by code_of
  steady_message message mode =
      steady_if (leb (length types) root) BadRoot _ (steady_refused BadRoot (λ e. omega arith))
      (steady_if (ltb 65536 (length message)) TooLong _ (steady_refused TooLong (λ e. omega arith))
      (steady_short (ltb (length message) 4) (under_four (length message)) _
      (steady_identifier (drop 4 message) (settings_of mode (get_or message 0 0) (get_or message 1 0)))))

  steady_data : (id s : List ℕ) (mode : Mode) → Steady (λ room. data_by types root id s mode room)
  unfolding data_by code_of
  steady_data id s mode =
      steady_if (leb (length types) root) BadRoot _ (steady_refused BadRoot (λ e. omega arith))
      (steady_if (ltb 65532 (length s)) TooLong _ (steady_refused TooLong (λ e. omega arith))
      (steady_identifier s (settings_of mode (get_or id 0 0) (get_or id 1 0))))

-- ---- FOR EVERY BOOK, ROOT, MESSAGE AND MODE: what each reading call comes to

steady_book : (book : List ℕ) (next : List BookType → ℕ → Result) → Steady (next (types_of book)) → Steady (λ room. with_book book (λ types. next types room))
unfolding with_book by_fault code_of
steady_book book next p = by_fault_law (fault_of book)
  where
    by_fault_law : (f : Verdict) → Steady (λ room. by_fault f (next (types_of book) room))
    by_fault_law (Ok u) = p
    by_fault_law (Err x) = steady_refused (BadBook x.reason) (λ e. omega (arith, (reason_told x.reason).low))

steady_index : (book index : List ℕ) (next : List BookType → ℕ → Result) → Steady (next (types_in book index)) → Steady (λ room. with_index book index (λ types. next types room))
unfolding with_index code_of
steady_index book index next p =
    steady_if (eqb (length (places_in index)) 0) NotPrepared (next (types_in book index)) (steady_refused NotPrepared (λ e. omega arith)) p

module _ (book : List ℕ) (root : ℕ) (mode : Mode) where
  pub read_steady : (message : List ℕ) → Steady (read_of book root message mode)
  read_steady message = steady_book book (λ types room. message_by types root message mode room) (steady_message (types_of book) root message mode)

  pub read_data_steady : (id s : List ℕ) → Steady (read_data_of book root id s mode)
  read_data_steady id s = steady_book book (λ types room. data_by types root id s mode room) (steady_data (types_of book) root id s mode)

  -- with any index
  module _ (index : List ℕ) where
    pub read_prepared_steady : (message : List ℕ) → Steady (read_prepared book index root message mode)
    read_prepared_steady message =
        steady_index book index (λ types room. message_by types root message mode room) (steady_message (types_in book index) root message mode)

    pub read_data_prepared_steady : (id s : List ℕ) → Steady (read_data_prepared book index root id s mode)
    read_data_prepared_steady id s = steady_index book index (λ types room. data_by types root id s mode room) (steady_data (types_in book index) root id s mode)

-- ---- AND OF THE CALLS THEMSELVES, by what they promise: `Settled`, and `Returned` for C

module _ (answer : ℕ → Result) (steady : Steady answer) (lent after larger afterLarger : List ℕ) (wider : capacity lent ≤ capacity larger) where
  pub call_bigger : (r q : Answer) → Settled (answer (capacity lent)) lent after r → Settled (answer (capacity larger)) larger afterLarger q → (code_of r.status ≡ 13 → ⊥) → SameCall lent after r larger afterLarger q
  call_bigger r q d e n =
      let w : answer (capacity larger) ≡ answer (capacity lent) = steady.same (capacity lent) (capacity larger) wider (λ z. n (d.number ∙ z)) in
      let f : Settled (answer (capacity lent)) larger afterLarger q = rw w at e in
      record { answer = one_answer q r (f.number ∙ sym d.number) (f.count ∙ sym d.count) (f.told ∙ sym d.told); rows = ((answer (capacity lent)).rows, d.count, d.table, f.table) }

  pub word_bigger : (r q : ℕ) → Returned (answer (capacity lent)) lent after r → Returned (answer (capacity larger)) larger afterLarger q → (r % 256 ≡ 13 → ⊥) → SameWord lent after r larger afterLarger q
  word_bigger r q d e n =
      let w : answer (capacity larger) ≡ answer (capacity lent) = steady.same (capacity lent) (capacity larger) wider (λ z. n (omega (arith, d.word))) in
      let f : Returned (answer (capacity lent)) larger afterLarger q = rw w at e in
      let small : (answer (capacity lent)).number < 256 = (listed_not_four (steady.listed (capacity lent))).small in
      record { word = f.word ∙ sym d.word; rows = ((answer (capacity lent)).rows, omega (arith, d.word), d.table, f.table) }

-- ONE FOR EACH CALL: two calls that differ in their tables alone, the second's with room for as many rows or more
module _ (book : List ℕ) (root : ℕ) (mode : Mode) (lent after larger afterLarger : List ℕ) (wider : capacity lent ≤ capacity larger) where
  module _ (message : List ℕ) where
    pub read_bigger : (r q : Answer) → Settled (read_of book root message mode (capacity lent)) lent after r → Settled (read_of book root message mode (capacity larger)) larger afterLarger q → (code_of r.status ≡ 13 → ⊥) → SameCall lent after r larger afterLarger q
    read_bigger = call_bigger (read_of book root message mode) (read_steady book root mode message) lent after larger afterLarger wider

    pub sinotayam_read_bigger : (r q : ℕ) → Returned (read_of book root message mode (capacity lent)) lent after r → Returned (read_of book root message mode (capacity larger)) larger afterLarger q → (r % 256 ≡ 13 → ⊥) → SameWord lent after r larger afterLarger q
    sinotayam_read_bigger = word_bigger (read_of book root message mode) (read_steady book root mode message) lent after larger afterLarger wider

    module _ (index : List ℕ) where
      pub read_prepared_bigger : (r q : Answer) → Settled (read_prepared book index root message mode (capacity lent)) lent after r → Settled (read_prepared book index root message mode (capacity larger)) larger afterLarger q → (code_of r.status ≡ 13 → ⊥) → SameCall lent after r larger afterLarger q
      read_prepared_bigger = call_bigger (read_prepared book index root message mode) (read_prepared_steady book root mode index message) lent after larger afterLarger wider

      pub sinotayam_read_prepared_bigger : (r q : ℕ) → Returned (read_prepared book index root message mode (capacity lent)) lent after r → Returned (read_prepared book index root message mode (capacity larger)) larger afterLarger q → (r % 256 ≡ 13 → ⊥) → SameWord lent after r larger afterLarger q
      sinotayam_read_prepared_bigger = word_bigger (read_prepared book index root message mode) (read_prepared_steady book root mode index message) lent after larger afterLarger wider

  module _ (id s : List ℕ) where
    pub read_data_bigger : (r q : Answer) → Settled (read_data_of book root id s mode (capacity lent)) lent after r → Settled (read_data_of book root id s mode (capacity larger)) larger afterLarger q → (code_of r.status ≡ 13 → ⊥) → SameCall lent after r larger afterLarger q
    read_data_bigger = call_bigger (read_data_of book root id s mode) (read_data_steady book root mode id s) lent after larger afterLarger wider

    pub read_data_prepared_bigger : (index : List ℕ) (r q : Answer) → Settled (read_data_prepared book index root id s mode (capacity lent)) lent after r → Settled (read_data_prepared book index root id s mode (capacity larger)) larger afterLarger q → (code_of r.status ≡ 13 → ⊥) → SameCall lent after r larger afterLarger q
    read_data_prepared_bigger index = call_bigger (read_data_prepared book index root id s mode) (read_data_prepared_steady book root mode index id s) lent after larger afterLarger wider
