-- DEMAND 3 OF THE CALLS: a message, or data, of a type that the check passes. The statements cite only definitions of `specs/`. Assumes nothing.
use Rattle.std.specs.Prelude.{None, Some}
use Prim.Native.Nat.{ℕ, ◌+◌, ◌%◌, ◌<◌}
use mathlib.Core.Path.{◌≡◌, refl, sym, ◌∙◌}
use mathlib.Core.Bool.{Bool, true, false}
use mathlib.Core.List.{List}
use native.Mathlib.Omega.{arith}
use lib.Dec.{leb, ltb}
use lib.ListN.{length, get_or, drop, length-drop}
use lib.Seq.{get_or-drop}
use borrow.Author.Tests.{ltb-true, lt-leb}
use Rattle.wire.specs.declared.cursor.Told.{Told}
use Rattle.wire.specs.declared.settings.Mode.{Mode}
use Rattle.wire.specs.Identifier.{Representation, settings_of}
use Rattle.book.proofs.Faults.{reason_told, right_told}
use Rattle.book.specs.Types.{BookType, types_of, type_count}
use Rattle.book.proofs.Good.{length_types}
use Rattle.table.specs.Rows.{capacity}
use Rattle.fit.specs.Check.{check_of}
use Rattle.fit.specs.Demand3.{AreBytes, Checked, fit, bad_book, bad_root, unfit, finished_reading, too_few_bytes, invalid_data, full_table, absent_discriminator}
use Rattle.fit.proofs.Demand3.{check_says, demand_3}
use Rattle.sinotayam.specs.declared.answer.Status.{Status}
use Rattle.sinotayam.specs.declared.answer.Status.TheVariants.{InvalidData, BadRoot, TooLong}
use Rattle.sinotayam.specs.declared.answer.Answer.{Answer}
use Rattle.sinotayam.specs.Answer.{Result, code_of, refused_by, result_of, Settled, Returned}
use Rattle.sinotayam.specs.Entry.{refused_if, short_if, under_four, by_identifier, message_by, data_by, by_fault, with_book, read_of, read_data_of}
use Rattle.sinotayam.specs.Prepared.{prepare_of, prepared_from, read_prepared, read_data_prepared}
use Rattle.sinotayam.specs.Demand3.{CallNumber, of_reading, over_limit, Safe, SafeCall, SafeWord}
use Rattle.sinotayam.proofs.Preparing.{prepared_same}

module _ (book s : List ℕ) (root : ℕ) where
  -- what is refused before the reading begins
  before : (n : Status) → CallNumber s (code_of n) → (code_of n ≡ 0 → ⊥) → Safe book s root (refused_by n)
  before n t f = record { number = t; rows = λ e. absurd (f e) }

  by_refused : (t : Bool) (n : Status) (next : Result) → (t ≡ true → Safe book s root (refused_by n)) → (t ≡ false → Safe book s root next) → Safe book s root (refused_if t n next)
  unfolding refused_if
  by_refused true n next p q = p refl
  by_refused false n next p q = q refl

  -- a message that is too short tells of no row
  by_short : (t : Bool) (told : Told) (next : Result) → Safe book s root next → Safe book s root (short_if t told next)
  unfolding short_if code_of
  by_short true told next q = record { number = of_reading too_few_bytes; rows = λ e. absurd (omega arith) }
  by_short false told next q = q

  too_long_law : (t : Bool) (next : Result) → (t ≡ true → 65532 < length s) → Safe book s root next → Safe book s root (refused_if t TooLong next)
  unfolding code_of
  too_long_law t next long rest = by_refused t TooLong next (λ e. before TooLong (over_limit (long e)) (λ z. omega arith)) (λ e. rest)

  identified : AreBytes s → (room : ℕ) (only : Bool) (r : Representation) → check_of book root only ≡ 0 → Safe book s root (by_identifier (types_of book) root s room r)
  unfolding by_identifier code_of result_of
  identified bytes room only None e = before InvalidData (of_reading invalid_data) (λ z. omega arith)
  identified bytes room only (Some set) e =
      let u = demand_3 book s bytes set root room only e in
      record { number = of_reading u.number; rows = u.rows }

  -- a type that the check passes is one of a good book
  taken : (next : List BookType → Result) (only : Bool) (n : ℕ) → Checked book root only n → n ≡ 0 → Safe book s root (next (types_of book)) → Safe book s root (with_book book (λ types. refused_if (leb (length types) root) BadRoot (next types)))
  unfolding with_book by_fault refused_if
  taken next only n (fit good low p) z safe =
      let out : leb (length (types_of book)) root ≡ false = rw (length_types book) (lt-leb (type_count book) root low) in
      rw (right_told book good, out) safe
  taken next only n (bad_book {k} {why} bad) z safe = absurd (omega (arith, (reason_told why).low))
  taken next only n (bad_root good out) z safe = absurd (omega arith)
  taken next only n (unfit good low p) z safe = absurd (omega arith)

-- a message's data are bytes where the message is
data_bytes : (message : List ℕ) → AreBytes message → AreBytes (drop 4 message)
data_bytes message bytes i = rw (get_or-drop) (bytes (4 + i))

-- FOR EVERY BOOK AND ROOT THAT THE CHECK PASSES, for any encoding or for XCDR2 only, every room and both modes
module _ (book : List ℕ) (root room : ℕ) (mode : Mode) (only : Bool) (passes : check_of book root only ≡ 0) where
  -- every message: its data is what stands after the four-byte header
  pub message_demand_3 : (message : List ℕ) → AreBytes message → Safe book (drop 4 message) root (read_of book root message mode room)
  unfolding message_by code_of
  message_demand_3 message bytes =
      let s = drop 4 message in
      let long : ltb 65536 (length message) ≡ true → 65532 < length (drop 4 message) = λ e. simp length-drop (omega (arith, ltb-true 65536 (length message) e)) in
      taken book s root _ only (check_of book root only) (check_says book root only) passes
      (too_long_law book s root (ltb 65536 (length message)) _ long
      (by_short book s root (ltb (length message) 4) (under_four (length message)) _
      (identified book s root (data_bytes message bytes) room only (settings_of mode (get_or message 0 0) (get_or message 1 0)) passes)))

  -- all data
  pub data_demand_3 : (id s : List ℕ) → AreBytes s → Safe book s root (read_data_of book root id s mode room)
  unfolding data_by
  data_demand_3 id s bytes =
      taken book s root _ only (check_of book root only) (check_says book root only) passes
      (too_long_law book s root (ltb 65532 (length s)) _ (λ e. ltb-true 65532 (length s) e)
      (identified book s root bytes room only (settings_of mode (get_or id 0 0) (get_or id 1 0)) passes))

  -- and with the index that `prepare` leaves where it says 0
  module _ (lent : List ℕ) (said : prepare_of book lent ≡ 0) where
    pub prepared_demand_3 : (message : List ℕ) → AreBytes message → Safe book (drop 4 message) root (read_prepared book (prepared_from book lent) root message mode room)
    prepared_demand_3 message bytes = rw (prepared_same book lent (λ types. message_by types root message mode room) said) (message_demand_3 message bytes)

    pub data_prepared_demand_3 : (id s : List ℕ) → AreBytes s → Safe book s root (read_data_prepared book (prepared_from book lent) root id s mode room)
    data_prepared_demand_3 id s bytes = rw (prepared_same book lent (λ types. data_by types root id s mode room) said) (data_demand_3 id s bytes)

-- AND OF THE CALLS THEMSELVES, by what they promise: `Settled`, and `Returned` for C
pub call_demand_3 : (book s : List ℕ) (root : ℕ) (w : Result) (before after : List ℕ) (r : Answer) → Safe book s root w → Settled w before after r → SafeCall book s root before after r
call_demand_3 book s root w before after r safe d =
    record {
      number = rw d.number safe.number;
      rows = λ z. (w.rows, safe.rows (sym d.number ∙ z), d.count, d.table);
    }

small : {s : List ℕ} {n : ℕ} → CallNumber s n → n < 256
small (of_reading finished_reading) = omega arith
small (of_reading too_few_bytes) = omega arith
small (of_reading invalid_data) = omega arith
small (of_reading full_table) = omega arith
small (of_reading absent_discriminator) = omega arith
small (over_limit h) = omega arith

pub word_demand_3 : (book s : List ℕ) (root : ℕ) (w : Result) (before after : List ℕ) (r : ℕ) → Safe book s root w → Returned w before after r → SafeWord book s root before after r
word_demand_3 book s root w before after r safe d =
    let k : w.number < 256 = small safe.number in
    let n : r % 256 ≡ w.number = omega (arith, d.word) in
    record {
      number = rw n safe.number;
      rows = λ z. (w.rows, safe.rows (sym n ∙ z), omega (arith, d.word), d.table);
    }

-- ONE FOR EACH CALL: from `check` = 0 to what the call gives back and what its table holds. What a slice lends are bytes
module _ (book : List ℕ) (root : ℕ) (mode : Mode) (only : Bool) (passes : check_of book root only ≡ 0) (before after : List ℕ) where
  module _ (message : List ℕ) (bytes : AreBytes message) where
    pub read_safe : (r : Answer) → Settled (read_of book root message mode (capacity before)) before after r → SafeCall book (drop 4 message) root before after r
    read_safe r d = call_demand_3 book (drop 4 message) root _ before after r (message_demand_3 book root (capacity before) mode only passes message bytes) d

    pub sinotayam_read_safe : (r : ℕ) → Returned (read_of book root message mode (capacity before)) before after r → SafeWord book (drop 4 message) root before after r
    sinotayam_read_safe r d = word_demand_3 book (drop 4 message) root _ before after r (message_demand_3 book root (capacity before) mode only passes message bytes) d

    -- with the index that `prepare` leaves where it says 0
    module _ (lent : List ℕ) (said : prepare_of book lent ≡ 0) where
      pub read_prepared_safe : (r : Answer) → Settled (read_prepared book (prepared_from book lent) root message mode (capacity before)) before after r → SafeCall book (drop 4 message) root before after r
      read_prepared_safe r d = call_demand_3 book (drop 4 message) root _ before after r (prepared_demand_3 book root (capacity before) mode only passes lent said message bytes) d

      pub sinotayam_read_prepared_safe : (r : ℕ) → Returned (read_prepared book (prepared_from book lent) root message mode (capacity before)) before after r → SafeWord book (drop 4 message) root before after r
      sinotayam_read_prepared_safe r d = word_demand_3 book (drop 4 message) root _ before after r (prepared_demand_3 book root (capacity before) mode only passes lent said message bytes) d

  module _ (id s : List ℕ) (bytes : AreBytes s) where
    pub read_data_safe : (r : Answer) → Settled (read_data_of book root id s mode (capacity before)) before after r → SafeCall book s root before after r
    read_data_safe r d = call_demand_3 book s root _ before after r (data_demand_3 book root (capacity before) mode only passes id s bytes) d

    pub read_data_prepared_safe : (lent : List ℕ) → prepare_of book lent ≡ 0 → (r : Answer) → Settled (read_data_prepared book (prepared_from book lent) root id s mode (capacity before)) before after r → SafeCall book s root before after r
    read_data_prepared_safe lent said r d = call_demand_3 book s root _ before after r (data_prepared_demand_3 book root (capacity before) mode only passes lent said id s bytes) d
