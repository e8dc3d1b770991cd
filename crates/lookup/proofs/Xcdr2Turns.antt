-- The XCDR2 search: a law for each way through its functions, that a header moves on, and that no header ends the search. Assumes
-- nothing.
use Rattle.std.specs.declared.ops.ControlFlow.TheVariants.{Break, Continue}
use Rattle.std.specs.Prelude.{Err, None, Ok, Some}
use Prim.Native.Nat.{ℕ, ◌*◌, ◌<◌, ◌≤◌, ◌^◌}
use mathlib.Core.Path.{◌≡◌, sym, ap, ◌∙◌}
use mathlib.Core.Bool.{Bool, true, false}
use mathlib.Core.List.{List}
use native.Mathlib.Omega.{arith}
use native.Mathlib.Nat.{mul-le-mul, le_of_lt}
use lib.ListN.{length}
use lib.Dec.{eqb, ltb}
use Rattle.ground.specs.Choice.{pick}
use Rattle.wire.specs.Number.{read_number}
use Rattle.wire.specs.Code.Reads.{ReadIs}
use Rattle.wire.specs.declared.settings.Settings.{Settings}
use Rattle.wire.specs.declared.cursor.Cursor.{Cursor}
use Rattle.wire.specs.Number.{Number}
use Rattle.wire.proofs.Numbers.{Moved, short_got, got_inv, read_inv, number_inv}
use Rattle.lookup.specs.Search.{past_value, on_to}
use Rattle.lookup.specs.Xcdr2.{id_of, lc_of, nextint_times, length_by_lc, length_of, value_from, length_from, verdict, turn_at, seek_to_pid}
use Rattle.lookup.proofs.Turns.{short_goes, short_done, found_done, not_done, on_inv, on_there, pick_never, then_moved, past_moves, never_missing}

-- eight times a u32 is far from what a word holds
pub times_fits : (n u : ℕ) → n < 256 ^ 4 → u ≤ 8 → n * u ≤ 2 ^ 35
times_fits n u h k = omega (arith, mul-le-mul (le_of_lt h) k)

-- a whole header moves the cursor on, by its four bytes at least and not past the end
got_same : (m : ℕ) (y : Cursor) (n : ℕ) (d : Cursor) → ◌≡◌ {A = Number} (Ok (m, y)) (Ok (n, d)) → y ≡ d
got_same m y n d e = (got_inv e).1

module _ (s : List ℕ) (set : Settings) where
  nextint_moves : (unit : ℕ) (c : Cursor) (n : ℕ) (d : Cursor) → nextint_times s set unit c ≡ Ok (n, d) → Moved s c 4 d
  unfolding nextint_times
  nextint_moves unit c n d e =
      let a = number_inv Err (Ok (n, d)) (λ x. short_got x n d) (read_number s set c 4) _ e in
      rw (got_same _ a.1 n d a.3) at (read_inv s set c 4 a.0 a.1 a.2)

  length_moves : (v : ℕ) (c : Cursor) (n : ℕ) (d : Cursor) → c.pos ≤ length s → length_of s set v c ≡ Ok (n, d) → Moved s c 0 d
  unfolding length_of length_by_lc
  length_moves v c n d h e = go (ltb (lc_of v) 4) _ _ e
    where
      go : (t : Bool) (m unit : ℕ) → pick t (Ok (m, c)) (nextint_times s set unit c) ≡ Ok (n, d) → Moved s c 0 d
      go true m unit q =
          let g = got_same m c n d q in
          let p = ap (λ (x : Cursor). x.pos) g in
          record { on = omega (arith, p); inside = omega (arith, p); kept = sym (ap (λ (x : Cursor). x.origin) g) }
      go false m unit q =
          let a = nextint_moves unit c n d q in
          record { on = omega (arith, a.on); inside = a.inside; kept = a.kept }

  -- after the header and what else it has
  whole_moves : (c : Cursor) (v : ℕ) (d : Cursor) (n : ℕ) (y : Cursor) → read_number s set c 4 ≡ Ok (v, d) → length_of s set v d ≡ Ok (n, y) → Moved s c 4 y
  whole_moves c v d n y e f =
      let a = read_inv s set c 4 v d e in
      then_moved a (length_moves v d n y a.inside f)

  pub turn_moves : (wanted : ℕ) (c z : Cursor) → turn_at s set wanted c ≡ Ok (Continue z) → Moved s c 4 z
  unfolding turn_at verdict
  turn_moves wanted c z e =
      let a = number_inv Err (Ok (Continue z)) (λ x. short_goes x z) (read_number s set c 4) _ e in
      let b = number_inv Err (Ok (Continue z)) (λ x. short_goes x z) (length_of s set a.0 a.1) _ a.3 in
      then_moved (whole_moves c a.0 a.1 b.0 b.1 a.2 b.2)
      (past_moves s set b.1 b.0 z (on_inv _ z
      (not_done (eqb (id_of a.0) wanted) (Some (length_from set.mode (lc_of a.0) b.0, value_from set.mode (lc_of a.0) b.1)) (on_to (past_value s set b.1 b.0)) z b.3)))

-- .. and the search on
pub moves_on : (s : List ℕ) (set : Settings) (wanted : ℕ) (c d : Cursor) → Ok (Continue d) ≡ turn_at s set wanted c → (c.pos < d.pos) × (d.pos ≤ length s)
moves_on s set wanted c d e = let m = turn_moves s set wanted c d (sym e) in (omega (arith, m.on), m.inside)

-- a step back has its bytes
pub turn_room : (s : List ℕ) (set : Settings) (c : Cursor) (r : Number) → ReadIs s set c 4 r → (v : ℕ) (d : Cursor) → r ≡ Ok (v, d) → (q : Number) → q ≡ length_of s set v d → (n : ℕ) (y : Cursor) → q ≡ Ok (n, y) → (b : ℕ) → b ≤ 4 → b ≤ y.pos
turn_room s set c r is v d first q then n y told b h = let a = whole_moves s set c v d n y (sym is.is ∙ first) (sym then ∙ told) in omega (arith, a.on)

-- no header ends the search
module _ (s : List ℕ) (set : Settings) (wanted : ℕ) where
  there : (c : Cursor) → turn_at s set wanted c ≡ Ok (Break None) → ⊥
  unfolding turn_at verdict
  there c e =
      let a = number_inv Err (Ok (Break None)) short_done (read_number s set c 4) _ e in
      let b = number_inv Err (Ok (Break None)) short_done (length_of s set a.0 a.1) _ a.3 in
      pick_never (eqb (id_of a.0) wanted) (Ok (Break (Some (length_from set.mode (lc_of a.0) b.0, value_from set.mode (lc_of a.0) b.1)))) (on_to (past_value s set b.1 b.0)) (Ok (Break None))
      (found_done (length_from set.mode (lc_of a.0) b.0) (value_from set.mode (lc_of a.0) b.1)) (on_there (past_value s set b.1 b.0)) b.3

  pub xcdr2_never_missing : (c : Cursor) → seek_to_pid s set wanted c ≡ Ok None → ⊥
  unfolding seek_to_pid
  xcdr2_never_missing c e = never_missing s (turn_at s set wanted) (turn_moves s set wanted) there c e
