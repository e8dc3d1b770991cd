-- Laws of outcomes: what an answer tells of the outcome, what makes an answer right, and a run of values so far. Assumes nothing.
use Rattle.std.specs.Prelude.{Err, Ok}
use Rattle.table.specs.declared.out.Trouble.TheVariants as trouble
use mathlib.Core.Path.{◌≡◌, refl, sym, ap, ◌∙◌}
use mathlib.Core.List.{List, [], ◌∷◌, ◌++◌, append-nil, append_assoc}
use Prim.Native.Nat.{ℕ, ◌+◌, ◌-◌, ◌*◌, ◌≤◌}
use native.Mathlib.Nat.{add-zero}
use native.Mathlib.Omega.{arith}
use lib.ListN.{length, length-append}
use mathlib.Core.Bool.{Bool, true, false}
use Rattle.wire.specs.declared.cursor.Cursor.{Cursor}
use Rattle.wire.specs.declared.cursor.Shortage.{Shortage}
use Rattle.table.specs.declared.rows.Row.{Row}
use Rattle.table.specs.declared.out.Refusal.{Refusal}
use Rattle.table.specs.declared.out.Trouble.{Trouble}
use Rattle.table.specs.declared.out.Refusal.TheVariants.{NoRoom}
use Rattle.table.specs.Code.Outcome.{Out}
use Rattle.table.specs.Rows.{row, width, room, no_room, row_at}
use Rattle.table.specs.Code.Rows.{put_row, counting, Filled}
use Rattle.table.specs.Outcome.{Outcome, read, short, refused, room_for, prepend, closed, and_then, or_end_if, rows_of}
use Rattle.table.specs.Code.Outcome.{answer, Done}
use Rattle.table.proofs.Filling.{filled_none, filled_then, filled_over, filled_kept, filled_below, filled_row, filled_one, filled_first, full_none, full_more, full_fits, room_used}

-- ---- what makes an answer right

pub is_read : {o : Outcome} {n m : ℕ} {a b : List ℕ} {c : Cursor} {rs : List Row} → o ≡ read c rs → m ≡ n + length rs → Filled a b n rs → Done o n a b (Ok (c, m))
unfolding answer rows_of
is_read {c = c} e k f = record { answered = rw e (ap (λ (y : ℕ). Ok (c, y)) k); table = rw e f }

pub is_short : {o : Outcome} {n : ℕ} {a b : List ℕ} {x : Shortage} → o ≡ short x → Filled a b n [] → Done o n a b (Err (trouble.Short x))
unfolding answer rows_of
is_short e f = record { answered = rw e; table = rw e f }

pub is_refused : {o : Outcome} {n : ℕ} {k : Refusal} {a b : List ℕ} → o ≡ refused k → Filled a b n [] → Done o n a b (Err (trouble.Refused k))
unfolding answer rows_of
is_refused e f = record { answered = rw e; table = rw e f }

-- the same outcome, said in another way
pub is_same : {o p : Outcome} {n : ℕ} {a b : List ℕ} {r : Out} → o ≡ p → Done p n a b r → Done o n a b r
is_same e d = rw e d

-- ---- what an answer tells of the outcome

pub record WasRead (o : Outcome) (n : ℕ) (a b : List ℕ) (c : Cursor) (m : ℕ) : Type 0 where
  pub new : List Row
  pub is : o ≡ read c new
  pub count : m ≡ n + length new
  pub filled : Filled a b n new

pub was_read : {o : Outcome} {n m : ℕ} {a b : List ℕ} {c : Cursor} {r : Out} → Done o n a b r → r ≡ Ok (c, m) → WasRead o n a b c m
unfolding answer rows_of
was_read {o = read d rs} {n} {m} {c = c} h e =
    let p : ◌≡◌ {A = Out} (Ok (d, n + length rs)) (Ok (c, m)) = sym h.answered ∙ e in
    let q : ◌≡◌ {A = Cursor × ℕ} (d, n + length rs) (c, m) = cc in
    record { new = rs; is = ap (λ (x : Cursor × ℕ). read x.0 rs) q; count = sym (ap (λ (x : Cursor × ℕ). x.1) q); filled = h.table }
was_read {o = short d} {n} {m} h e = let z : ◌≡◌ {A = ℕ} 0 1 = cc (h.answered, e) in absurd (omega arith)
was_read {o = refused d} {n} {m} h e = let z : ◌≡◌ {A = ℕ} 0 1 = cc (h.answered, e) in absurd (omega arith)

pub record WasShort (o : Outcome) (n : ℕ) (a b : List ℕ) (x : Shortage) : Type 0 where
  pub is : o ≡ short x
  pub filled : Filled a b n []

pub was_short : {o : Outcome} {n : ℕ} {a b : List ℕ} {x : Shortage} {r : Out} → Done o n a b r → r ≡ Err (trouble.Short x) → WasShort o n a b x
unfolding answer rows_of
was_short {o = read d rs} h e = let z : ◌≡◌ {A = ℕ} 0 1 = cc (h.answered, e) in absurd (omega arith)
was_short {o = short d} h e = record { is = cc (h.answered, e); filled = h.table }
was_short {o = refused d} h e = let z : ◌≡◌ {A = ℕ} 0 1 = cc (h.answered, e) in absurd (omega arith)

pub record WasRefused (o : Outcome) (n : ℕ) (a b : List ℕ) (k : Refusal) : Type 0 where
  pub is : o ≡ refused k
  pub filled : Filled a b n []

pub was_refused : {o : Outcome} {n : ℕ} {k : Refusal} {a b : List ℕ} {r : Out} → Done o n a b r → r ≡ Err (trouble.Refused k) → WasRefused o n a b k
unfolding answer rows_of
was_refused {o = read d rs} h e = let z : ◌≡◌ {A = ℕ} 0 1 = cc (h.answered, e) in absurd (omega arith)
was_refused {o = short d} h e = let z : ◌≡◌ {A = ℕ} 0 1 = cc (h.answered, e) in absurd (omega arith)
was_refused {o = refused d} h e = record { is = cc (h.answered, e); filled = h.table }

-- ---- no answer, for whichever of the two reasons

abbrev pub failing : Trouble → Outcome
failing (trouble.Short x) = short x
failing (trouble.Refused k) = refused k

pub record Failed (o : Outcome) (n : ℕ) (a b : List ℕ) (e : Trouble) : Type 0 where
  pub is : o ≡ failing e
  pub filled : Filled a b n []

pub was_failed : {o : Outcome} {n : ℕ} {a b : List ℕ} {e : Trouble} {r : Out} → Done o n a b r → r ≡ Err e → Failed o n a b e
was_failed {e = trouble.Short x} h q = let w = was_short h q in record { is = w.is; filled = w.filled }
was_failed {e = trouble.Refused k} h q = let w = was_refused h q in record { is = w.is; filled = w.filled }

pub is_failed : {o : Outcome} {n : ℕ} {e : Trouble} {a b : List ℕ} → o ≡ failing e → Filled a b n [] → Done o n a b (Err e)
is_failed {e = trouble.Short x} q f = is_short q f
is_failed {e = trouble.Refused k} q f = is_refused q f

-- ---- one value and then the rest, by what the one came to

module _ (rest : Cursor → ℕ → Outcome) where
  pub then_read : {o : Outcome} {c : Cursor} {rs : List Row} → o ≡ read c rs → and_then o rest ≡ prepend rs (rest c (length rs))
  unfolding and_then
  then_read e = rw e

  pub then_short : {o : Outcome} {x : Shortage} → o ≡ short x → and_then o rest ≡ short x
  unfolding and_then
  then_short e = rw e

  pub then_refused : {o : Outcome} {k : Refusal} → o ≡ refused k → and_then o rest ≡ refused k
  unfolding and_then
  then_refused e = rw e

  pub then_failed : {o : Outcome} (e : Trouble) → o ≡ failing e → and_then o rest ≡ failing e
  then_failed (trouble.Short x) q = then_short q
  then_failed (trouble.Refused k) q = then_refused q

  pub end_read : (f : Bool) {o : Outcome} {c : Cursor} {rs : List Row} → o ≡ read c rs → or_end_if f o rest ≡ prepend rs (rest c (length rs))
  unfolding or_end_if
  end_read true e = rw e
  end_read false e = rw e

  pub end_ended : (f : Bool) {o : Outcome} {x : Shortage} → f ≡ true → o ≡ short x → or_end_if f o rest ≡ read x.at []
  unfolding or_end_if
  end_ended f g e = rw (g, e)

  pub end_short : (f : Bool) {o : Outcome} {x : Shortage} → f ≡ false → o ≡ short x → or_end_if f o rest ≡ short x
  unfolding or_end_if
  end_short f g e = rw (g, e)

  pub end_refused : (f : Bool) {o : Outcome} {k : Refusal} → o ≡ refused k → or_end_if f o rest ≡ refused k
  unfolding or_end_if
  end_refused true e = rw e
  end_refused false e = rw e

-- nothing follows
pub then_nil : (o : Outcome) → and_then o (λ d used. read d []) ≡ o
unfolding and_then prepend
then_nil (read c rs) = ap (read c) (append-nil rs)
then_nil (short x) = refl
then_nil (refused k) = refl

-- ---- room for a row

module _ (t : List ℕ) (n : ℕ) (o : Outcome) (f : Bool) (is : f ≡ no_room t n) where
  pub no_room_law : f ≡ true → room_for (room t n) o ≡ refused NoRoom
  unfolding room_for
  no_room_law e = rw (full_none t n f is e)

  pub some_room : f ≡ false → room_for (room t n) o ≡ o
  unfolding room_for
  some_room e = rw (full_more t n f is e)

-- ---- a run of values so far: what the whole run comes to is the rows so far, before what the rest comes to

pub record Sofar (whole rest : Outcome) (n : ℕ) (a b : List ℕ) (m : ℕ) : Type 0 where
  pub new : List Row
  pub same : whole ≡ prepend new rest
  pub count : m ≡ n + length new
  pub filled : Filled a b n new

pub prepend_nil : (o : Outcome) → o ≡ prepend [] o
unfolding prepend
prepend_nil (read c rs) = refl
prepend_nil (short c) = refl
prepend_nil (refused k) = refl

pub prepend_then : (rs ss : List Row) (o : Outcome) → prepend rs (prepend ss o) ≡ prepend (rs ++ ss) o
unfolding prepend
prepend_then rs ss (read c more) = ap (read c) (sym (append_assoc rs ss more))
prepend_then rs ss (short c) = refl
prepend_then rs ss (refused k) = refl

pub sofar_start : {whole rest : Outcome} {n : ℕ} {a : List ℕ} → whole ≡ rest → Sofar whole rest n a a n
sofar_start {whole} {rest} {n} {a} e = record { new = []; same = e ∙ prepend_nil rest; count = sym (add-zero n); filled = filled_none a n }

pub sofar_more : {whole rest next : Outcome} {n m k : ℕ} {a b c : List ℕ} {rs : List Row} → Sofar whole rest n a b m → rest ≡ prepend rs next → k ≡ m + length rs → Filled b c m rs → Sofar whole next n a c k
sofar_more {next = next} {n} {m} {b = b} {c} {rs} s e l f =
    record {
      new = s.new ++ rs;
      same = s.same ∙ ap (prepend s.new) e ∙ prepend_then s.new rs next;
      count = rw length-append (omega (arith, l, s.count));
      filled = filled_then s.filled (rw s.count at f);
    }

pub sofar_read : {whole rest : Outcome} {n m : ℕ} {a b c : List ℕ} {d : Cursor} → Sofar whole rest n a b m → rest ≡ read d [] → Filled b c m [] → Done whole n a c (Ok (d, m))
unfolding prepend
sofar_read {n = n} {m} {b = b} {c} {d} s e f =
    is_read {rs = s.new} (s.same ∙ ap (prepend s.new) e ∙ ap (read d) (append-nil s.new)) s.count
    (rw append-nil at (filled_then s.filled (rw s.count at f)))

pub sofar_short : {whole rest : Outcome} {n m : ℕ} {a b c : List ℕ} {x : Shortage} → Sofar whole rest n a b m → rest ≡ short x → Filled b c m [] → Done whole n a c (Err (trouble.Short x))
unfolding prepend
sofar_short {n = n} {m} {b = b} {c} s e f =
    is_short (s.same ∙ ap (prepend s.new) e)
    (filled_kept (filled_then s.filled (rw s.count at f)))

pub sofar_refused : {whole rest : Outcome} {n m : ℕ} {k : Refusal} {a b c : List ℕ} → Sofar whole rest n a b m → rest ≡ refused k → Filled b c m [] → Done whole n a c (Err (trouble.Refused k))
unfolding prepend
sofar_refused {n = n} {m} {b = b} {c} s e f =
    is_refused (s.same ∙ ap (prepend s.new) e)
    (filled_kept (filled_then s.filled (rw s.count at f)))

pub sofar_failed : {whole rest : Outcome} {n m : ℕ} {e : Trouble} {a b c : List ℕ} → Sofar whole rest n a b m → rest ≡ failing e → Filled b c m [] → Done whole n a c (Err e)
sofar_failed {e = trouble.Short x} s q f = sofar_short s q f
sofar_failed {e = trouble.Refused k} s q f = sofar_refused s q f

-- a turn of a loop: the next part was done, and the rest goes on from there
module _ {whole rest o : Outcome} {n m : ℕ} {a u v : List ℕ} {r : Out} (next : Cursor → ℕ → Outcome) (inv : Sofar whole rest n a u m) (more : rest ≡ and_then o (λ d used. next d (room u m - used))) (h : Done o m u v r) where
  pub turn_read : (d : Cursor) (k : ℕ) → r ≡ Ok (d, k) → Sofar whole (next d (room v k)) n a v k
  turn_read d k q =
      let w = was_read h q in
      let z : room u m - length w.new ≡ room v k = room_used u v m (length w.new) w.filled.long ∙ ap (room v) (sym w.count) in
      sofar_more inv (more ∙ then_read _ w.is ∙ ap (λ (x : ℕ). prepend w.new (next d x)) z) w.count w.filled

  pub turn_short : (x : Shortage) → r ≡ Err (trouble.Short x) → Done whole n a v (Err (trouble.Short x))
  turn_short x q = let w = was_short h q in sofar_short inv (more ∙ then_short _ w.is) w.filled

  pub turn_failed : (e : Trouble) → r ≡ Err e → Done whole n a v (Err e)
  turn_failed e q = let w = was_failed h q in sofar_failed inv (more ∙ then_failed _ e w.is) w.filled

  pub turn_refused : (k : Refusal) → r ≡ Err (trouble.Refused k) → Done whole n a v (Err (trouble.Refused k))
  turn_refused k q = let w = was_refused h q in sofar_refused inv (more ∙ then_refused _ w.is) w.filled

-- a row that is written first, and counts what stands beneath it when that is done
module _ {whole : Outcome} (kind id ty opening : ℕ) (beneath : ℕ → Outcome) (u : List ℕ) (m : ℕ) (f : Bool) (full : f ≡ no_room u m) (is : whole ≡ room_for (room u m) (closed kind id ty opening (beneath (room u m - 1)))) where
  pub row_full : f ≡ true → Done whole m u u (Err (trouble.Refused NoRoom))
  row_full e = is_refused (is ∙ no_room_law u m _ f full e) (filled_none u m)

  module _ (fits : f ≡ false) (w : List ℕ) (put : w ≡ put_row u m (row kind id ty 0 opening)) (v : List ℕ) (r : Out) (h : Done (beneath (room w (m + 1))) (m + 1) w v r) where
    first : Filled u w m (row kind id ty 0 opening ∷ [])
    first = rw put (filled_one u m (row kind id ty 0 opening) (full_fits u m f full fits))

    is_closed : whole ≡ closed kind id ty opening (beneath (room w (m + 1)))
    is_closed = is ∙ some_room u m _ f full fits ∙ ap (λ (x : ℕ). closed kind id ty opening (beneath x)) (room_used u w m 1 first.long)

    -- it stands as it was written
    still : {rs : List Row} → Filled w v (m + 1) rs → row_at v m ≡ row kind id ty 0 opening
    still g = filled_first (filled_then first g)

    pub row_read : (e : Cursor) (k : ℕ) (y : List ℕ) → r ≡ Ok (e, k) → y ≡ put_row v m (counting (row_at v m) (k - m - 1)) → Done whole m u y (Ok (e, k))
    unfolding closed counting
    row_read e k y q p =
        let x = was_read h q in
        let l : k - m - 1 ≡ length x.new = omega (arith, x.count) in
        let fits_there : width * m + width ≤ length w = rw first.long (full_fits u m f full fits) in
        is_read {rs = row kind id ty (length x.new) opening ∷ x.new} (is_closed ∙ ap (closed kind id ty opening) x.is) (omega (arith, x.count))
        (rw (p, still x.filled, l) (filled_over first (filled_row (row kind id ty (length x.new) opening) fits_there x.filled)))

    pub row_short : (x : Shortage) → r ≡ Err (trouble.Short x) → Done whole m u v (Err (trouble.Short x))
    unfolding closed
    row_short x q = let z = was_short h q in is_short (is_closed ∙ ap (closed kind id ty opening) z.is) (filled_over first (filled_below z.filled))

    pub row_refused : (x : Refusal) → r ≡ Err (trouble.Refused x) → Done whole m u v (Err (trouble.Refused x))
    unfolding closed
    row_refused x q = let z = was_refused h q in is_refused (is_closed ∙ ap (closed kind id ty opening) z.is) (filled_over first (filled_below z.filled))

    pub row_failed : (e : Trouble) → r ≡ Err e → Done whole m u v (Err e)
    row_failed (trouble.Short x) q = row_short x q
    row_failed (trouble.Refused k) q = row_refused k q

-- rows that were written first
pub is_after : {o : Outcome} {n : ℕ} {a b c : List ℕ} {rs : List Row} {r : Out} → Filled a b n rs → Done o (n + length rs) b c r → Done (prepend rs o) n a c r
unfolding prepend answer rows_of
is_after {o = read d ss} {n} {rs = rs} f h =
    record { answered = h.answered ∙ ap ((λ y. Ok (d, y))) (rw length-append (omega arith)); table = filled_then f h.table }
is_after {o = short d} f h = record { answered = h.answered; table = filled_kept (filled_then f h.table) }
is_after {o = refused k} f h = record { answered = h.answered; table = filled_kept (filled_then f h.table) }

-- a read's count is not below where it began
pub count_from : {o : Outcome} {n m : ℕ} {a b : List ℕ} {c : Cursor} {r : Out} → Done o (n + 1) a b r → r ≡ Ok (c, m) → n ≤ m
count_from h e = omega (arith, (was_read h e).count)

pub count_past : {o : Outcome} (n : ℕ) {m : ℕ} {a b : List ℕ} {c : Cursor} {r : Out} → Done o (n + 1) a b r → r ≡ Ok (c, m) → 1 ≤ m - n
count_past n h e = omega (arith, (was_read h e).count)
