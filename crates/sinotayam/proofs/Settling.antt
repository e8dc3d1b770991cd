-- Laws of a settled answer: a refusal, and a whole reading after which the table is cleared. Assumes nothing.
use Rattle.std.specs.Prelude.{Err, Ok}
use Rattle.table.specs.declared.out.Trouble.TheVariants as trouble
use mathlib.Core.Path.{◌≡◌, refl, ap, ◌∙◌}
use mathlib.Core.List.{List, ◌++◌}
use Prim.Native.Nat.{ℕ, ◌+◌, ◌-◌, ◌*◌, ◌≤◌}
use native.Mathlib.Nat.{sub-zero}
use native.Mathlib.Omega.{arith}
use lib.ListN.{length, replicate}
use Rattle.wire.specs.declared.cursor.Cursor.{Cursor}
use Rattle.wire.specs.declared.cursor.Told.{Told}
use Rattle.wire.specs.declared.cursor.Shortage.{Shortage}
use Rattle.wire.specs.declared.settings.Settings.{Settings}
use Rattle.book.specs.Types.{BookType}
use Rattle.table.specs.declared.rows.Row.{Row}
use Rattle.table.specs.declared.out.Refusal.{Refusal}
use Rattle.table.specs.declared.out.Trouble.{Trouble}
use Rattle.table.specs.Rows.{width, words, capacity, room}
use Rattle.table.specs.Code.Rows.{cleared_from, Filled}
use Rattle.table.specs.Outcome.{Outcome, read, short, refused, refusal_number, number_of, nothing_told, told_of, rows_of}
use Rattle.table.specs.Code.Outcome.{Out, Done}
use Rattle.table.proofs.Filling.{filled_fits}
use Rattle.table.proofs.Outcomes.{was_read, was_short, was_refused}
use Rattle.reader.specs.Nested.{reading}
use Rattle.sinotayam.specs.declared.answer.Status.{Status}
use Rattle.sinotayam.specs.declared.answer.Status.TheVariants.{Read, NotEnoughData}
use Rattle.sinotayam.specs.declared.answer.Answer.{Answer}
use Rattle.sinotayam.specs.Answer.{code_of, Result, refused_by, short_by, result_of, Settled}

-- a refused reading is refused by the number that stands for its reason
refused_as : (n : Status) (k : Refusal) → code_of n ≡ refusal_number k → result_of (refused k) ≡ refused_by n
unfolding result_of number_of rows_of told_of
refused_as n k e = rw e

-- and one that ran short is short, with what is told of it
short_as : (x : Shortage) → result_of (short x) ≡ short_by x.told
unfolding result_of number_of rows_of told_of code_of
short_as x = refl

-- the same result, said in another way
pub settled_same : {w x : Result} {t v : List ℕ} {r : Answer} → w ≡ x → Settled x t v r → Settled w t v r
settled_same e d = rw e d

-- a table as long
pub settled_long : (w : Result) (t u : List ℕ) {v : List ℕ} {r : Answer} → length u ≡ length t → Settled w u v r → Settled w t v r
settled_long w t u e d = record { number = d.number; count = d.count; told = d.told; table = rw e at d.table }

pub settled_cleared : (t v : List ℕ) (n : Status) → v ≡ cleared_from (width * 0) t → Settled (refused_by n) t v (record { status = n; rows = 0; told = nothing_told })
unfolding words
settled_cleared t v n f = record { number = refl; count = refl; told = refl; table = f }

-- with what is told of it, a refusal is short
pub settled_telling : (t v : List ℕ) (a : Answer) (told : Told) → Settled (refused_by NotEnoughData) t v a → Settled (short_by told) t v (record { status = a.status; rows = a.rows; told = told })
settled_telling t v a told d = record { number = d.number; count = d.count; told = refl; table = d.table }

-- over rows that are a variable: `rw` cannot rewrite m inside `(was_read h q).new`, which is made from m
settled_rows : (o : Outcome) (t u v : List ℕ) (e : Cursor) (m : ℕ) (rs : List Row) → o ≡ read e rs → m ≡ 0 + length rs → Filled t u 0 rs → v ≡ cleared_from (width * m) u → Settled (result_of o) t v (record { status = Read; rows = m; told = nothing_told })
unfolding result_of number_of rows_of told_of code_of
settled_rows o t u v e m rs p q f g =
    let k : m ≡ length rs = omega arith in
    record {
      number = rw p;
      count = rw p k;
      told = rw p;
      table = rw (p, g, k, f.long) (ap (λ (l : List ℕ). l ++ replicate (length t - width * length rs) 0) f.rows);
    }

module _ (types : List BookType) (s : List ℕ) (set : Settings) (root : ℕ) (t u : List ℕ) (r : Out) (h : Done (reading types s set root (room t 0)) 0 t u r) where
  is_reading : reading types s set root (capacity t) ≡ reading types s set root (room t 0)
  unfolding room
  is_reading = rw sub-zero

  pub whole_fits : (e : Cursor) (m : ℕ) → r ≡ Ok (e, m) → width * m ≤ length u
  whole_fits e m q =
      let w = was_read h q in
      let f : width * length w.new ≤ length t - width * 0 = filled_fits w.filled in
      omega (arith, w.count, w.filled.long)

  pub whole_read : (e : Cursor) (m : ℕ) (v : List ℕ) → r ≡ Ok (e, m) → v ≡ cleared_from (width * m) u → Settled (result_of (reading types s set root (capacity t))) t v (record { status = Read; rows = m; told = nothing_told })
  whole_read e m v q f = let w = was_read h q in settled_rows _ t u v e m w.new (is_reading ∙ w.is) w.count w.filled f

  pub whole_short : (e : Trouble) (x : Shortage) (v : List ℕ) (a : Answer) → r ≡ Err e → e ≡ trouble.Short x → Settled (short_by x.told) u v a → Settled (result_of (reading types s set root (capacity t))) t v a
  whole_short e x v a p q d =
      let w = was_short h (p ∙ ap Err q) in
      settled_same (ap result_of (is_reading ∙ w.is) ∙ short_as x) (settled_long (short_by x.told) t u w.filled.long d)

  pub whole_refused : (e : Trouble) (k : Refusal) (n : Status) (v : List ℕ) (a : Answer) → r ≡ Err e → e ≡ trouble.Refused k → code_of n ≡ refusal_number k → Settled (refused_by n) u v a → Settled (result_of (reading types s set root (capacity t))) t v a
  whole_refused e k n v a p q f d =
      let w = was_refused h (p ∙ ap Err q) in
      settled_same (ap result_of (is_reading ∙ w.is) ∙ refused_as n k f) (settled_long (refused_by n) t u w.filled.long d)
