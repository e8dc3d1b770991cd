-- How many rows an outcome needs: with less room the table is full, and with as much or more the outcome is one and the same. One law for each way in
-- which outcomes are put together. Assumes nothing.
use Rattle.std.specs.Prelude.{Err, Ok}
use Rattle.wire.specs.declared.cursor.Unread.TheVariants as unread
use Prim.Native.Nat.{ℕ, zero, suc, ◌+◌, ◌-◌, ◌≤◌, ◌<◌}
use mathlib.Core.Path.{◌≡◌, refl, ap, ◌∙◌}
use mathlib.Core.Logic.{inl, inr, ◌⊎◌, ⊎_elim}
use mathlib.Core.Bool.{Bool, true, false}
use mathlib.Core.List.{List, []}
use native.Mathlib.Omega.{arith}
use lib.Dec.{ltb}
use lib.ListN.{length}
use borrow.Author.Tests.{ltb-true, ltb-false}
use Rattle.ground.specs.Choice.{pick}
use Rattle.wire.specs.declared.cursor.Cursor.{Cursor}
use Rattle.wire.specs.declared.cursor.Shortage.{Shortage}
use Rattle.wire.specs.Number.{Number}
use Rattle.wire.specs.Dheader.{Contents}
use Rattle.wire.specs.Dheader.{after_contents}
use Rattle.wire.specs.Number.{after_number}
use Rattle.table.specs.declared.rows.Row.{Row}
use Rattle.table.specs.declared.out.Refusal.{Refusal}
use Rattle.table.specs.declared.out.Refusal.TheVariants.{InvalidData, InvalidType, Unsupported, TooDeep, NoRoom, NoDiscriminator}
use Rattle.table.specs.Outcome.{Outcome, read, short, refused, room_for, prepend, and_then, or_end_if, closed, back_to}
use Rattle.fit.proofs.Ends.{Ends, finished, wanting, broken, ends_prepend, ends_closed, ends_back}

-- the refusals that do not tell of the table
pub data Other : Refusal → Type 0 where
  bad_data : Other InvalidData
  bad_type : Other InvalidType
  unsupported : Other Unsupported
  too_deep : Other TooDeep
  no_discriminator : Other NoDiscriminator

-- an outcome that is not that the table is full
abbrev pub Roomy : Outcome → Type 0
Roomy = Ends (λ rs. Unit {0}) Other

-- an outcome that hangs on the room needs so many rows
pub record Needs (o : ℕ → Outcome) : Type 0 where
  pub rows : ℕ
  pub given : Outcome
  pub roomy : Roomy given
  pub less : (k : ℕ) → k < rows → o k ≡ refused NoRoom
  pub enough : (k : ℕ) → rows ≤ k → o k ≡ given

-- what does not hang on the room needs none
pub needs_none : (o : Outcome) → Roomy o → Needs (λ k. o)
needs_none o r = record { rows = 0; given = o; roomy = r; less = λ k h. absurd (omega arith); enough = λ k h. refl }

pub needs_read : (c : Cursor) (rs : List Row) → Needs (λ k. read c rs)
needs_read c rs = needs_none (read c rs) (finished tt)

pub needs_short : (x : Shortage) → Needs (λ k. short x)
needs_short x = needs_none (short x) wanting

pub needs_refused : (n : Refusal) → Other n → Needs (λ k. refused n)
needs_refused n p = needs_none (refused n) (broken p)

pub needs_pick : {o p : ℕ → Outcome} (t : Bool) → Needs o → Needs p → Needs (λ k. pick t (o k) (p k))
needs_pick true s u = s
needs_pick false s u = u

-- a map of outcomes that leaves a full table full
needs_by : {o : ℕ → Outcome} (f : Outcome → Outcome) → f (refused NoRoom) ≡ refused NoRoom → ((p : Outcome) → Roomy p → Roomy (f p)) → Needs o → Needs (λ k. f (o k))
needs_by f e r s =
    record {
      rows = s.rows;
      given = f s.given;
      roomy = r s.given s.roomy;
      less = λ k h. ap f (s.less k h) ∙ e;
      enough = λ k h. ap f (s.enough k h);
    }

pub needs_prepend : {o : ℕ → Outcome} (rs : List Row) → Needs o → Needs (λ k. prepend rs (o k))
unfolding prepend
needs_prepend rs s = needs_by (prepend rs) refl (λ p r. ends_prepend rs r (λ ss u. tt)) s

pub needs_closed : {o : ℕ → Outcome} (kind id ty opening : ℕ) → Needs o → Needs (λ k. closed kind id ty opening (o k))
unfolding closed
needs_closed kind id ty opening s = needs_by (closed kind id ty opening) refl (λ p r. ends_closed kind id ty opening r (λ ss u. tt)) s

pub needs_back : {o : ℕ → Outcome} (c : Cursor) → Needs o → Needs (λ k. back_to c (o k))
unfolding back_to
needs_back c s = needs_by (back_to c) refl (λ p r. ends_back c r) s

-- the same where n rows are used up: what needs none still needs none, and what needs some needs these besides
pub needs_after : {o : ℕ → Outcome} (n : ℕ) → Needs o → Needs (λ k. o (k - n))
needs_after {o} n s = go s.rows s.less s.enough
  where
    go : (r : ℕ) → ((k : ℕ) → k < r → o k ≡ refused NoRoom) → ((k : ℕ) → r ≤ k → o k ≡ s.given) → Needs (λ k. o (k - n))
    go zero l e =
        record { rows = 0; given = s.given; roomy = s.roomy; less = λ k h. absurd (omega arith); enough = λ k h. e (k - n) (omega arith) }
    go (suc r) l e =
        record {
          rows = suc r + n;
          given = s.given;
          roomy = s.roomy;
          less = λ k h. l (k - n) (omega arith);
          enough = λ k h. e (k - n) (omega arith);
        }

-- a row of one's own: one row at least. The larger of a and b is a + (b - a)
pub needs_room : {o : ℕ → Outcome} → Needs o → Needs (λ k. room_for k (o k))
unfolding room_for
needs_room {o} s = record { rows = s.rows + (1 - s.rows); given = s.given; roomy = s.roomy; less = less; enough = enough }
  where
    less : (k : ℕ) → k < s.rows + (1 - s.rows) → room_for k (o k) ≡ refused NoRoom
    less zero h = refl
    less (suc k) h = s.less (suc k) (omega arith)

    enough : (k : ℕ) → s.rows + (1 - s.rows) ≤ k → room_for k (o k) ≡ s.given
    enough zero h = absurd (omega arith)
    enough (suc k) h = s.enough (suc k) (omega arith)

pub below_or_not : (a b : ℕ) → (a < b) ⊎ (b ≤ a)
below_or_not a b = go (ltb a b) refl
  where
    go : (t : Bool) → ltb a b ≡ t → (a < b) ⊎ (b ≤ a)
    go true e = inl (ltb-true a b e)
    go false e = inr (ltb-false a b e)

-- first the one outcome and then, by what it is, another: for whatever puts them so together that a full table stays full
pub needs_then : {o : ℕ → Outcome} (f : ℕ → Outcome → Outcome) → ((k : ℕ) → f k (refused NoRoom) ≡ refused NoRoom) → ((p : Outcome) → Roomy p → Needs (λ k. f k p)) → Needs o → Needs (λ k. f k (o k))
needs_then {o} f e more s =
    let u = more s.given s.roomy in
    record {
      rows = s.rows + (u.rows - s.rows);
      given = u.given;
      roomy = u.roomy;
      less = less u;
      enough = λ k h. rw (s.enough k (omega arith)) (u.enough k (omega arith));
    }
  where
    less : (u : Needs (λ k. f k s.given)) (k : ℕ) → k < s.rows + (u.rows - s.rows) → f k (o k) ≡ refused NoRoom
    less u k h = ⊎_elim (λ p. rw (s.less k p) (e k)) (λ p. rw (s.enough k p) (u.less k (omega arith))) (below_or_not k s.rows)

module _ (o : ℕ → Outcome) (rest : Cursor → ℕ → Outcome) (more : (c : Cursor) → Needs (rest c)) where
  pub needs_and : Needs o → Needs (λ k. and_then (o k) (λ d used. rest d (k - used)))
  unfolding and_then
  needs_and s = needs_then (λ k p. and_then p (λ d used. rest d (k - used))) (λ k. refl) go s
    where
      go : (p : Outcome) → Roomy p → Needs (λ k. and_then p (λ d used. rest d (k - used)))
      go (read c rs) r = needs_prepend rs (needs_after (length rs) (more c))
      go (short x) r = needs_short x
      go (refused n) r = needs_none (refused n) r

  -- a shortage that ends the run as read forgets the rows of what failed, and needs the room that it took to fail
  pub needs_end : (flag : Bool) → Needs o → Needs (λ k. or_end_if flag (o k) (λ d used. rest d (k - used)))
  unfolding or_end_if
  needs_end flag s = needs_then (λ k p. or_end_if flag p (λ d used. rest d (k - used))) (λ k. refl) (go flag) s
    where
      go : (flag : Bool) (p : Outcome) → Roomy p → Needs (λ k. or_end_if flag p (λ d used. rest d (k - used)))
      go flag (read c rs) r = needs_prepend rs (needs_after (length rs) (more c))
      go true (short x) r = needs_read x.at []
      go false (short x) r = needs_short x
      go flag (refused n) r = needs_none (refused n) r

-- what follows has no room to ask for
pub needs_ending : (o : ℕ → Outcome) (rest : Cursor → Outcome) → ((c : Cursor) → Roomy (rest c)) → Needs o → Needs (λ k. and_then (o k) (λ d used. rest d))
needs_ending o rest more s = needs_and o (λ d k. rest d) (λ d. needs_none (rest d) (more d)) s

-- what follows a number, and contents
pub needs_number : (n : Number) (next : ℕ → Cursor → ℕ → Outcome) → ((v : ℕ) (c : Cursor) → Needs (next v c)) → Needs (λ k. after_number short n (λ v c. next v c k))
unfolding after_number
needs_number (Err x) next h = needs_short x
needs_number (Ok (v, c)) next h = h v c

pub needs_contents : (g : Contents) (next : Cursor → ℕ → ℕ → Outcome) → ((c : Cursor) (end : ℕ) → Needs (next c end)) → Needs (λ k. after_contents short (refused InvalidData) g (λ c end. next c end k))
unfolding after_contents
needs_contents (Err (unread.Short x)) next h = needs_short x
needs_contents (Err unread.Bad) next h = needs_refused InvalidData bad_data
needs_contents (Ok (c, end)) next h = h c end
