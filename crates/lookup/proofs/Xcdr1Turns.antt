-- The XCDR1 search: a law for each way through its functions, that a header moves on, and that the search for 0x3F02 is never told that
-- there is none. Assumes nothing.
use Rattle.std.specs.declared.ops.ControlFlow.TheVariants.{Break, Continue}
use Rattle.std.specs.Prelude.{Err, None, Ok, Some}
use Prim.Native.Nat.{ℕ, ◌<◌, ◌≤◌}
use mathlib.Core.Path.{◌≡◌, refl, sym, ap, ◌∙◌}
use mathlib.Core.Bool.{Bool, ◌&&◌}
use mathlib.Core.List.{List}
use native.Mathlib.Omega.{arith}
use lib.ListN.{length}
use lib.Dec.{eqb}
use Rattle.ground.proofs.Tests.{and_both}
use Rattle.wire.specs.Number.{read_number}
use Rattle.wire.specs.declared.settings.Settings.{Settings}
use Rattle.wire.specs.declared.cursor.Cursor.{Cursor}
use Rattle.wire.specs.declared.cursor.Shortage.{Shortage}
use Rattle.wire.specs.Place.{Place}
use Rattle.wire.proofs.Numbers.{Moved, read_inv, number_inv}
use Rattle.lookup.specs.Search.{Seek, past_value, on_to}
use Rattle.lookup.specs.Xcdr1.{header_at, is_end, ended, is_match, verdict, on_header, turn_at, seek_to_pid, seek_to_sentinel}
use Rattle.lookup.specs.Xcdr1.{Header}
use Rattle.lookup.proofs.Turns.{short_goes, short_done, found_done, not_done, on_inv, on_there, pick_never, then_moved, past_moves, never_missing}

-- the code's test of the end
pub is_end_law : (id n : ℕ) (t : Bool) → (eqb id 0x3F02 && eqb n 0) ≡ t → is_end id n ≡ t
is_end_law id n t e = sym (and_both (eqb id 0x3F02) (eqb n 0)) ∙ e

-- a header moves the cursor on, by its four bytes at least and not past the end
short_got : (x : Shortage) (id n : ℕ) (d : Cursor) → ◌≡◌ {A = Header} (Err x) (Ok (id, n, d)) → ⊥
short_got x id n d e = let z : ◌≡◌ {A = ℕ} 0 1 = cc in omega arith

got_same : (i m : ℕ) (y : Cursor) (id n : ℕ) (d : Cursor) → ◌≡◌ {A = Header} (Ok (i, m, y)) (Ok (id, n, d)) → y ≡ d
got_same i m y id n d e = let p : ◌≡◌ {A = ℕ × ℕ × Cursor} (i, m, y) (id, n, d) = cc in ap (λ (x : ℕ × ℕ × Cursor). x.2) p

module _ (s : List ℕ) (set : Settings) where
  pub header_moves : (c : Cursor) (id n : ℕ) (d : Cursor) → header_at s set c ≡ Ok (id, n, d) → Moved s c 4 d
  unfolding header_at
  header_moves c id n d e =
      let a = number_inv Err (Ok (id, n, d)) (λ x. short_got x id n d) (read_number s set c 2) _ e in
      let b = number_inv Err (Ok (id, n, d)) (λ x. short_got x id n d) (read_number s set a.1 2) _ a.3 in
      rw (got_same _ _ b.1 id n d b.3) at (then_moved (read_inv s set c 2 a.0 a.1 a.2) (read_inv s set a.1 2 b.0 b.1 b.2))

  header_turn_moves : (wanted : ℕ) (c y : Cursor) (h : Header) → header_at s set c ≡ h → on_header s set wanted h ≡ Ok (Continue y) → Moved s c 4 y
  unfolding on_header verdict
  header_turn_moves wanted c y (Err x) f e = absurd (short_goes x y e)
  header_turn_moves wanted c y (Ok (id, n, d)) f e =
      then_moved (header_moves c id n d f)
      (past_moves s set d n y (on_inv _ y (not_done (is_match wanted id) (Some (n, d)) (on_to (past_value s set d n)) y (not_done (is_end id n) (ended wanted d) _ y e))))

  pub turn_moves : (wanted : ℕ) (c y : Cursor) → turn_at s set wanted c ≡ Ok (Continue y) → Moved s c 4 y
  unfolding turn_at
  turn_moves wanted c y e = header_turn_moves wanted c y (header_at s set c) refl e

-- .. and the search on
pub moves_on : (s : List ℕ) (set : Settings) (wanted : ℕ) (c d : Cursor) → Ok (Continue d) ≡ turn_at s set wanted c → (c.pos < d.pos) × (d.pos ≤ length s)
moves_on s set wanted c d e = let m = turn_moves s set wanted c d (sym e) in (omega (arith, m.on), m.inside)

-- the search for 0x3F02 itself is never told that there is none
module _ (s : List ℕ) (set : Settings) where
  header_there : (h : Header) → on_header s set 0x3F02 h ≡ Ok (Break None) → ⊥
  unfolding on_header verdict
  header_there (Err x) e = short_done x e
  header_there (Ok (id, n, c)) e =
      pick_never (is_end id n) (Ok (Break (Some (0, c)))) _ (Ok (Break None)) (found_done 0 c)
      (pick_never (is_match 0x3F02 id) (Ok (Break (Some (n, c)))) _ (Ok (Break None)) (found_done n c) (on_there (past_value s set c n))) e

  sentinel_there : (c : Cursor) → turn_at s set 0x3F02 c ≡ Ok (Break None) → ⊥
  unfolding turn_at
  sentinel_there c e = header_there (header_at s set c) e

  pub sentinel_never_missing : (c : Cursor) → seek_to_pid s set 0x3F02 c ≡ Ok None → ⊥
  unfolding seek_to_pid
  sentinel_never_missing c e = never_missing s (turn_at s set 0x3F02) (turn_moves s set 0x3F02) sentinel_there c e

pub sentinel_not : (s : List ℕ) (set : Settings) (c : Cursor) (f : Seek) → f ≡ seek_to_pid s set 0x3F02 c → (r : Place) → f ≡ Ok None → r ≡ seek_to_sentinel s set c
sentinel_not s set c f is r e = absurd (sentinel_never_missing s set c (sym is ∙ e))
