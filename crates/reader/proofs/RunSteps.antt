-- Laws of a run of opened values: what each turn shows, and that it is what the rules say of a member's value and of a list's. Assumes nothing.
use Rattle.std.specs.Prelude.{Err, Ok}
use Prim.Native.Nat.{ℕ, zero, suc, ◌+◌, ◌-◌, ◌≤◌, ◌<◌}
use mathlib.Core.Path.{◌≡◌, refl, sym, ap}
use mathlib.Core.List.{List, []}
use native.Mathlib.Nat.{sub-zero}
use native.Mathlib.Omega.{arith}
use mir.Syntax.{w64}
use mir.Val.{Fits}
use lib.ListN.{length}
use Rattle.wire.specs.declared.cursor.Cursor.{Cursor}
use Rattle.wire.specs.declared.settings.Settings.{Settings}
use Rattle.wire.specs.Place.{cursor_at}
use Rattle.book.specs.Types.{BookType}
use Rattle.table.specs.declared.out.Trouble.{Trouble}
use Rattle.table.specs.Code.Outcome.{Out}
use Rattle.table.specs.Rows.{room}
use Rattle.table.specs.Outcome.{Outcome, read, short, refused, prepend, and_then}
use Rattle.table.specs.Code.Outcome.{Done}
use Rattle.table.proofs.Filling.{filled_none}
use Rattle.table.proofs.Outcomes.{is_same, then_nil, Sofar, sofar_start, sofar_read, turn_read, turn_failed}
use Rattle.reader.specs.Value.{Nest, opened_from}
use Rattle.reader.specs.Nested.{nested_at, reading}
use Rattle.reader.specs.Code.Run.{run_of}

more : (nest : Nest) (s : List ℕ) (ty count id i : ℕ) (c : Cursor) (k : ℕ) → i < count → run_of nest s ty id (count - i) i c k ≡ and_then (nest s ty id c k) (λ d used. run_of nest s ty (i + 1) (count - (i + 1)) (i + 1) d (k - used))
unfolding run_of
more nest s ty count id i c k h = let e : count - i ≡ suc (count - (i + 1)) = omega arith in rw e

none : (nest : Nest) (s : List ℕ) (ty count id i : ℕ) (c : Cursor) (k : ℕ) → count ≤ i → run_of nest s ty id (count - i) i c k ≡ read c []
unfolding run_of
none nest s ty count id i c k h = let e : count - i ≡ 0 = omega arith in rw e

-- the values so far, with those that are left
pub record RunSofar (nest : Nest) (s : List ℕ) (ty count : ℕ) (whole : Outcome) (n : ℕ) (a u : List ℕ) (id i : ℕ) (c : Cursor) (m : ℕ) : Type 0 where
  pub so : Sofar whole (run_of nest s ty id (count - i) i c (room u m)) n a u m

pub run_start : (nest : Nest) (s : List ℕ) (ty count id : ℕ) (c : Cursor) (a : List ℕ) (n : ℕ) → RunSofar nest s ty count (run_of nest s ty id count 0 c (room a n)) n a a id 0 c n
run_start nest s ty count id c a n = record { so = sofar_start (rw sub-zero) }

module _ {nest : Nest} {s : List ℕ} {ty count : ℕ} {whole : Outcome} {n : ℕ} {a u : List ℕ} {id i : ℕ} {c : Cursor} {m : ℕ} (inv : RunSofar nest s ty count whole n a u id i c m) where
  module _ (l : i < count) {v : List ℕ} {r : Out} (h : Done (nest s ty id c (room u m)) m u v r) where
    abbrev those_after : Cursor → ℕ → Outcome
    those_after d k = run_of nest s ty (i + 1) (count - (i + 1)) (i + 1) d k

    pub run_turn : {d : Cursor} {k : ℕ} → r ≡ Ok (d, k) → RunSofar nest s ty count whole n a v (i + 1) (i + 1) d k
    run_turn {d} {k} q = record { so = turn_read those_after inv.so (more nest s ty count id i c (room u m) l) h d k q }

    pub run_failed : {e : Trouble} → r ≡ Err e → Done whole n a v (Err e)
    run_failed {e} q = turn_failed those_after inv.so (more nest s ty count id i c (room u m) l) h e q

  pub run_end : count ≤ i → Done whole n a u (Ok (c, m))
  run_end h = sofar_read inv.so (none nest s ty count id i c (room u m) h) (filled_none u m)

  pub run_long : {k : ℕ} → length a < k → length u < k
  run_long h = rw inv.so.filled.long h

-- one value alone, and a list's values
pub run_single : (nest : Nest) (s : List ℕ) (ty id : ℕ) (c : Cursor) (k : ℕ) → run_of nest s ty id 1 0 c k ≡ nest s ty id c k
unfolding run_of
run_single nest s ty id c k = then_nil (nest s ty id c k)

-- a whole reading
pub reading_is : (types : List BookType) (s : List ℕ) (set : Settings) (root : ℕ) (t u : List ℕ) (r : Out) (c : Cursor) → c ≡ cursor_at 0 0 → Done (run_of (nested_at types set 16) s root 0 1 0 c (room t 0)) 0 t u r → Done (reading types s set root (room t 0)) 0 t u r
unfolding reading
reading_is types s set root t u r c made h = is_same (sym (run_single (nested_at types set 16) s root 0 (cursor_at 0 0) (room t 0))) (rw made at h)

module _ (types : List BookType) (s : List ℕ) (set : Settings) (nest : Nest) (ty : ℕ) where
  rest : (o : Outcome) (left i room : ℕ) → ((d : Cursor) (k : ℕ) → run_of nest s ty (i + 1) left (i + 1) d k ≡ opened_from types s set nest ty left (i + 1) d k)
      → and_then o (λ d used. run_of nest s ty (i + 1) left (i + 1) d (room - used)) ≡ and_then o (λ d used. opened_from types s set nest ty left (i + 1) d (room - used))
  unfolding and_then
  rest (read c rs) left i room h = ap (prepend rs) (h c (room - length rs))
  rest (short x) left i room h = refl
  rest (refused k) left i room h = refl

  pub run_list : (left i : ℕ) (c : Cursor) (k : ℕ) → run_of nest s ty i left i c k ≡ opened_from types s set nest ty left i c k
  unfolding opened_from run_of
  run_list zero i c k = refl
  run_list (suc left) i c k = rest (nest s ty i c k) left i k (λ d j. run_list left (i + 1) d j)

-- the next number, and fewer left
pub next_fits : (i count : ℕ) → i < count → Fits w64 count → Fits w64 (i + 1)
next_fits i count h k = omega (arith, k)

pub nearer : (i count : ℕ) → i < count → count - (i + 1) < count - i
nearer i count h = omega arith
