-- What an outcome may be, and one law for each way in which outcomes are put together. Assumes nothing.
use Rattle.std.specs.Prelude.{Err, Ok}
use Rattle.wire.specs.declared.cursor.Unread.TheVariants as unread
use Prim.Native.Nat.{ℕ, zero, suc}
use mathlib.Core.Path.{◌≡◌, refl}
use mathlib.Core.Bool.{Bool, true, false}
use mathlib.Core.List.{List, [], ◌∷◌, ◌++◌}
use lib.ListN.{length}
use Rattle.ground.specs.Choice.{pick}
use Rattle.wire.specs.declared.cursor.Cursor.{Cursor}
use Rattle.wire.specs.declared.cursor.Shortage.{Shortage}
use Rattle.wire.specs.Place.{Place}
use Rattle.wire.specs.Number.{Number}
use Rattle.wire.specs.Dheader.{Contents}
use Rattle.wire.specs.Dheader.{after_contents}
use Rattle.wire.specs.Place.{after_move}
use Rattle.wire.specs.Number.{after_number}
use Rattle.table.specs.declared.rows.Row.{Row}
use Rattle.table.specs.declared.out.Refusal.{Refusal}
use Rattle.table.specs.declared.out.Refusal.TheVariants.{NoRoom}
use Rattle.table.specs.Rows.{row}
use Rattle.table.specs.Outcome.{Outcome, read, short, refused, room_for, prepend, and_then, or_end_if, closed, back_to}

-- read, with rows of which R holds; or too few bytes; or a refusal of which P holds
pub data Ends (R : List Row → Type 0) (P : Refusal → Type 0) : Outcome → Type 0 where
  finished : {c : Cursor} {rs : List Row} → R rs → Ends R P (read c rs)
  wanting : {x : Shortage} → Ends R P (short x)
  broken : {k : Refusal} → P k → Ends R P (refused k)

module _ {P : Refusal → Type 0} where
  pub ends_prepend : {S Q : List Row → Type 0} {o : Outcome} (rs : List Row) → Ends S P o → ((ss : List Row) → S ss → Q (rs ++ ss)) → Ends Q P (prepend rs o)
  unfolding prepend
  ends_prepend rs (finished {rs = ss} s) q = finished (q ss s)
  ends_prepend rs wanting q = wanting
  ends_prepend rs (broken p) q = broken p

  -- rows of which R holds and then rows of which S holds are rows of which Q holds
  pub ends_then : {R S Q : List Row → Type 0} {o : Outcome} (rest : Cursor → ℕ → Outcome) → Ends R P o → ((c : Cursor) (n : ℕ) → Ends S P (rest c n)) → ((rs ss : List Row) → R rs → S ss → Q (rs ++ ss)) → Ends Q P (and_then o rest)
  unfolding and_then
  ends_then rest (finished {c} {rs} r) more q = ends_prepend rs (more c (length rs)) (λ ss s. q rs ss r s)
  ends_then rest wanting more q = wanting
  ends_then rest (broken p) more q = broken p

  pub ends_end : {R S Q : List Row → Type 0} {o : Outcome} (flag : Bool) (rest : Cursor → ℕ → Outcome) → Ends R P o → Q [] → ((c : Cursor) (n : ℕ) → Ends S P (rest c n)) → ((rs ss : List Row) → R rs → S ss → Q (rs ++ ss)) → Ends Q P (or_end_if flag o rest)
  unfolding or_end_if
  ends_end flag rest (finished {c} {rs} r) none more q = ends_prepend rs (more c (length rs)) (λ ss s. q rs ss r s)
  ends_end true rest wanting none more q = finished none
  ends_end false rest wanting none more q = wanting
  ends_end flag rest (broken p) none more q = broken p

  pub ends_room : {Q : List Row → Type 0} {o : Outcome} (k : ℕ) → P NoRoom → Ends Q P o → Ends Q P (room_for k o)
  unfolding room_for
  ends_room zero p h = broken p
  ends_room (suc k) p h = h

  pub ends_closed : {R Q : List Row → Type 0} {o : Outcome} (kind id ty opening : ℕ) → Ends R P o → ((rs : List Row) → R rs → Q (row kind id ty (length rs) opening ∷ rs)) → Ends Q P (closed kind id ty opening o)
  unfolding closed
  ends_closed kind id ty opening (finished {rs = rs} r) q = finished (q rs r)
  ends_closed kind id ty opening wanting q = wanting
  ends_closed kind id ty opening (broken p) q = broken p

  pub ends_back : {R : List Row → Type 0} {o : Outcome} (c : Cursor) → Ends R P o → Ends R P (back_to c o)
  unfolding back_to
  ends_back c (finished r) = finished r
  ends_back c wanting = wanting
  ends_back c (broken p) = broken p

  -- what holds of the rows may be weakened
  pub ends_as : {R Q : List Row → Type 0} {o : Outcome} → Ends R P o → ((rs : List Row) → R rs → Q rs) → Ends Q P o
  ends_as (finished {rs = rs} r) q = finished (q rs r)
  ends_as wanting q = wanting
  ends_as (broken p) q = broken p

  -- what follows a move, contents, and a number
  pub ends_move : {R : List Row → Type 0} (p : Place) (next : Cursor → Outcome) → ((c : Cursor) → Ends R P (next c)) → Ends R P (after_move short p next)
  unfolding after_move
  ends_move (Err x) next h = wanting
  ends_move (Ok c) next h = h c

  -- contents that end past the data are refused
  pub ends_contents : {R : List Row → Type 0} (k : Refusal) → P k → (g : Contents) (next : Cursor → ℕ → Outcome) → ((c : Cursor) (end : ℕ) → Ends R P (next c end)) → Ends R P (after_contents short (refused k) g next)
  unfolding after_contents
  ends_contents k p (Err (unread.Short x)) next h = wanting
  ends_contents k p (Err unread.Bad) next h = broken p
  ends_contents k p (Ok (c, end)) next h = h c end

  pub ends_number : {R : List Row → Type 0} (n : Number) (next : ℕ → Cursor → Outcome) → ((v : ℕ) (c : Cursor) → n ≡ Ok (v, c) → Ends R P (next v c)) → Ends R P (after_number short n next)
  unfolding after_number
  ends_number (Err x) next h = wanting
  ends_number (Ok (v, c)) next h = h v c refl

-- by the test of a choice, for whatever is said of what is chosen
module _ {A : Type 0} (F : A → Type 0) {x y : A} where
  pub by_test : (t : Bool) → (t ≡ true → F x) → (t ≡ false → F y) → F (pick t x y)
  by_test true p q = p refl
  by_test false p q = q refl
