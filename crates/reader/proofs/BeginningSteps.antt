-- Laws of what begins a structure or a union, and of what ends a Mutable structure. Assumes nothing.
use Rattle.std.specs.Prelude.{Err, Ok}
use Rattle.table.specs.declared.out.Trouble.TheVariants as trouble
use Prim.Native.Nat.{ℕ}
use mathlib.Core.Path.{◌≡◌, sym, ap, ◌∙◌}
use mathlib.Core.List.{List, []}
use native.Mathlib.Nat.{add-zero}
use Rattle.wire.specs.declared.cursor.Cursor.{Cursor}
use Rattle.wire.specs.declared.cursor.Shortage.{Shortage}
use Rattle.wire.specs.Place.{Place}
use Rattle.wire.specs.declared.settings.Settings.{Settings}
use Rattle.wire.specs.declared.settings.Version.{Version}
use Rattle.wire.specs.declared.settings.Version.TheVariants.{Xcdr1, Xcdr2}
use Rattle.wire.specs.Place.{cursor_at}
use Rattle.wire.proofs.Moves.{after_at, after_short}
use Rattle.lookup.specs.Xcdr1.{seek_to_sentinel}
use Rattle.table.specs.Code.Outcome.{Out}
use Rattle.table.specs.Outcome.{Outcome, read, short, refused, back_to, rows_of}
use Rattle.table.specs.Code.Outcome.{Done, answer}
use Rattle.table.proofs.Filling.{filled_none}
use Rattle.table.proofs.Outcomes.{is_read, is_short}
use Rattle.reader.specs.Code.Ending.{coming_back}
use Rattle.reader.specs.Nested.{ending_by}

-- the place comes back, whatever was read
pub came_done : (c : Cursor) {o : Outcome} {n : ℕ} {a b : List ℕ} {r y : Out} → Done o n a b r → y ≡ coming_back c r → Done (back_to c o) n a b y
unfolding back_to coming_back answer rows_of
came_done c {o = read d rs} h e = record { answered = e ∙ ap (coming_back c) h.answered; table = h.table }
came_done c {o = short x} h e = record { answered = e ∙ ap (coming_back c) h.answered; table = h.table }
came_done c {o = refused k} h e = record { answered = e ∙ ap (coming_back c) h.answered; table = h.table }

-- what came back stands where it had to
pub came_read : (c : Cursor) (r : Out) {y : Out} {d : Cursor} {n : ℕ} → y ≡ coming_back c r → y ≡ Ok (d, n) → ◌≡◌ {A = Out} (Ok (c, n)) (coming_back c r)
unfolding coming_back
came_read c (Ok (e, m)) {d = d} {n = n} h q =
    let same : ◌≡◌ {A = Cursor × ℕ} (d, n) (c, m) = cc in
    ap (λ (x : Cursor × ℕ). Ok (c, x.1)) same
came_read c (Err (trouble.Short x)) h q = absurd cc
came_read c (Err (trouble.Refused k)) h q = absurd cc

-- what ends a Mutable structure
module _ (s : List ℕ) (set : Settings) (end : ℕ) (c : Cursor) (n : ℕ) (t : List ℕ) where
  pub ending_marker : set.version ≡ Xcdr1 → (g : Place) → g ≡ seek_to_sentinel s set c → (d : Cursor) → g ≡ Ok d → Done (ending_by s set set.version end c) n t t (Ok (d, n))
  unfolding ending_by
  ending_marker v g is d q = is_read {rs = []} (ap (λ (w : Version). ending_by s set w end c) v ∙ after_at _ _ (sym is ∙ q)) (sym (add-zero n)) (filled_none t n)

  pub ending_short : set.version ≡ Xcdr1 → (g : Place) → g ≡ seek_to_sentinel s set c → (x : Shortage) → g ≡ Err x → Done (ending_by s set set.version end c) n t t (Err (trouble.Short x))
  unfolding ending_by
  ending_short v g is x q = is_short (ap (λ (w : Version). ending_by s set w end c) v ∙ after_short _ _ (sym is ∙ q)) (filled_none t n)

  pub ending_at_law : set.version ≡ Xcdr2 → (d : Cursor) → d ≡ cursor_at end c.origin → Done (ending_by s set set.version end c) n t t (Ok (d, n))
  unfolding ending_by
  ending_at_law v d e = is_read {rs = []} (ap (λ (w : Version). ending_by s set w end c) v ∙ ap (λ (y : Cursor). read y []) (sym e)) (sym (add-zero n)) (filled_none t n)
