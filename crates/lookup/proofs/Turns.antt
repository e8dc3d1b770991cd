-- What both searches rest on: a turn that goes on has moved on. So some count of headers is always enough, and the loop, which has no
-- count, finds what the definition finds. Assumes nothing.
use Prim.Native.Nat.{ℕ, zero, suc, ◌+◌, ◌<◌, ◌≤◌}
use mathlib.Core.Path.{◌≡◌, refl, sym, ap, ◌∙◌}
use mathlib.Core.Bool.{Bool, true, false}
use mathlib.Core.List.{List}
use native.Mathlib.Omega.{arith}
use lib.ListN.{length}
use Rattle.std.specs.declared.ops.ControlFlow.TheVariants.{Break, Continue}
use Rattle.std.specs.Prelude.{Option, None, Some, Err, Ok}
use Rattle.ground.specs.Choice.{pick}
use Rattle.wire.specs.Place.{Place, seek_to}
use Rattle.wire.specs.declared.settings.Settings.{Settings}
use Rattle.wire.specs.declared.cursor.Cursor.{Cursor}
use Rattle.wire.specs.declared.cursor.Shortage.{Shortage}
use Rattle.wire.proofs.Moves.{seek_inv, align_inv, move_inv}
use Rattle.wire.proofs.Numbers.{Moved}
use Rattle.lookup.specs.Search.{Seek, Turn, past_value, on_to, on_turn, headers_in, seek_by}

-- a turn that settles the search as this says
abbrev pub done : Seek → Turn
done (Err x) = Err x
done (Ok f) = Ok (Break f)

-- two constructors are never equal
pub short_on : (x : Shortage) (d : Cursor) → ◌≡◌ {A = Place} (Err x) (Ok d) → ⊥
short_on x d e = let z : ◌≡◌ {A = ℕ} 0 1 = cc in omega arith

pub place_same : (d y : Cursor) → ◌≡◌ {A = Place} (Ok d) (Ok y) → d ≡ y
place_same d y e = cc

pub short_goes : (x : Shortage) (d : Cursor) → ◌≡◌ {A = Turn} (Err x) (Ok (Continue d)) → ⊥
short_goes x d e = let z : ◌≡◌ {A = ℕ} 0 1 = cc in omega arith

break_on : (f : Option (ℕ × Cursor)) (d : Cursor) → ◌≡◌ {A = Turn} (Ok (Break f)) (Ok (Continue d)) → ⊥
break_on f d e = let z : ◌≡◌ {A = ℕ} 0 1 = cc in omega arith

on_same : (d y : Cursor) → ◌≡◌ {A = Turn} (Ok (Continue d)) (Ok (Continue y)) → d ≡ y
on_same d y e = cc

pub short_done : (x : Shortage) → ◌≡◌ {A = Turn} (Err x) (Ok (Break None)) → ⊥
short_done x e = let z : ◌≡◌ {A = ℕ} 0 1 = cc in omega arith

pub found_done : (n : ℕ) (d : Cursor) → ◌≡◌ {A = Turn} (Ok (Break (Some (n, d)))) (Ok (Break None)) → ⊥
found_done n d e = let z : ◌≡◌ {A = ℕ} 0 1 = cc in omega arith

-- what went on was not done
pub not_done : (t : Bool) (f : Option (ℕ × Cursor)) (rest : Turn) (d : Cursor) → pick t (Ok (Break f)) rest ≡ Ok (Continue d) → rest ≡ Ok (Continue d)
not_done true f rest d e = absurd (break_on f d e)
not_done false f rest d e = e

-- what goes on to a place goes on there, and settles nothing
pub on_inv : (p : Place) (d : Cursor) → on_to p ≡ Ok (Continue d) → p ≡ Ok d
on_inv (Err x) d e = absurd (short_goes x d e)
on_inv (Ok c) d e = ap (λ (x : Cursor). Ok x) (on_same c d e)

pub on_there : (p : Place) → on_to p ≡ Ok (Break None) → ⊥
on_there (Err x) e = short_done x e
on_there (Ok c) e = break_on None c (sym e)

-- what came of a choice came of one of the two
pub pick_never : {A : Type 0} (t : Bool) (a b y : A) → (a ≡ y → ⊥) → (b ≡ y → ⊥) → pick t a b ≡ y → ⊥
pick_never true a b y f g e = f e
pick_never false a b y f g e = g e

pub then_moved : {s : List ℕ} {c d e : Cursor} {m n : ℕ} → Moved s c m d → Moved s d n e → Moved s c (m + n) e
then_moved a b = record { on = omega (arith, a.on, b.on); inside = b.inside; kept = b.kept ∙ a.kept }

-- past a value that nobody asked for
pub past_moves : (s : List ℕ) (set : Settings) (c : Cursor) (n : ℕ) (y : Cursor) → past_value s set c n ≡ Ok y → Moved s c 0 y
unfolding past_value
past_moves s set c n y e =
    let a = move_inv Err (Ok y) (λ x. short_on x y) (seek_to s c n) _ e in
    let k = seek_inv s c n a.0 a.1 in
    let l = align_inv s set.version a.0 4 y a.2 in
    let kp = ap (λ (z : Cursor). z.pos) k.1 in
    record {
      on = omega (arith, l.0, kp);
      inside = l.1;
      kept = l.2 ∙ sym (ap (λ (z : Cursor). z.origin) k.1);
    }

-- The loop's invariant: some count of headers is enough, and from here on finds what the whole search finds.
pub record Rest (s : List ℕ) (turn : Cursor → Turn) (at c : Cursor) : Type 0 where
  pub count : ℕ
  pub some : 0 < count
  pub enough : length s < count + c.pos
  pub same : headers_in count turn c ≡ seek_by s turn at

pub rest_start : (s : List ℕ) (turn : Cursor → Turn) (at : Cursor) → Rest s turn at at
rest_start s turn at = record { count = suc (length s); some = omega arith; enough = omega arith; same = refl }

-- a turn that settles the search, or runs short
pub rest_done : (s : List ℕ) (turn : Cursor → Turn) (at c : Cursor) (f : Seek) → Rest s turn at c → turn c ≡ done f → f ≡ seek_by s turn at
unfolding headers_in on_turn
rest_done s turn at c f r e = go r.count r.some r.same
  where
    by_turn : (f : Seek) (t : Turn) (next : Cursor → Seek) → t ≡ done f → on_turn t next ≡ f
    by_turn (Err x) t next e = rw e
    by_turn (Ok f) t next e = rw e

    go : (m : ℕ) → 0 < m → headers_in m turn c ≡ seek_by s turn at → f ≡ seek_by s turn at
    go zero h q = absurd (omega arith)
    go (suc m) h q = sym (by_turn f (turn c) (λ d. headers_in m turn d) e) ∙ q

pub rest_settled : (s : List ℕ) (turn : Cursor → Turn) (at c : Cursor) (t : Turn) (f : Option (ℕ × Cursor)) → Rest s turn at c → t ≡ turn c → t ≡ Ok (Break f) → Ok f ≡ seek_by s turn at
rest_settled s turn at c t f r is e = rest_done s turn at c (Ok f) r (sym is ∙ e)

pub rest_short : (s : List ℕ) (turn : Cursor → Turn) (at c : Cursor) (t : Turn) (x : Shortage) → Rest s turn at c → t ≡ turn c → t ≡ Err x → Err x ≡ seek_by s turn at
rest_short s turn at c t x r is e = rest_done s turn at c (Err x) r (sym is ∙ e)

-- where the first turn settles it, the whole search is settled
pub seek_done : (s : List ℕ) (turn : Cursor → Turn) (c : Cursor) (f : Seek) → turn c ≡ done f → seek_by s turn c ≡ f
seek_done s turn c f e = sym (rest_done s turn c c f (rest_start s turn c) e)

-- a turn that goes on moves on
module _ (s : List ℕ) (turn : Cursor → Turn) (at c d : Cursor) (r : Rest s turn at c) (is : turn c ≡ Ok (Continue d)) (on : c.pos < d.pos) (inside : d.pos ≤ length s) where
  pub rest_on : Rest s turn at d
  unfolding headers_in on_turn
  rest_on = go r.count r.some r.enough r.same
    where
      go : (m : ℕ) → 0 < m → length s < m + c.pos → headers_in m turn c ≡ seek_by s turn at → Rest s turn at d
      go zero h l q = absurd (omega arith)
      go (suc m) h l q = record { count = m; some = omega arith; enough = omega arith; same = rw is at q }

module _ (s : List ℕ) (turn : Cursor → Turn) (moves : (c d : Cursor) → turn c ≡ Ok (Continue d) → Moved s c 4 d) where
  -- two counts that are enough find the same
  either : (m n : ℕ) (c : Cursor) → 0 < m → 0 < n → length s < m + c.pos → length s < n + c.pos → headers_in m turn c ≡ headers_in n turn c
  unfolding headers_in on_turn
  either zero n c h k g l = absurd (omega arith)
  either (suc m) zero c h k g l = absurd (omega arith)
  either (suc m) (suc n) c h k g l = go (turn c) refl (λ d. either m n d)
    where
      go : (t : Turn) → turn c ≡ t → ((d : Cursor) → 0 < m → 0 < n → length s < m + d.pos → length s < n + d.pos → headers_in m turn d ≡ headers_in n turn d)
          → on_turn t (λ d. headers_in m turn d) ≡ on_turn t (λ d. headers_in n turn d)
      go (Err x) e next = refl
      go (Ok (Break f)) e next = refl
      go (Ok (Continue d)) e next =
          let a = moves c d e in
          next d (omega arith) (omega arith) (omega arith) (omega arith)

  -- The definition's count is never used up: any larger one finds the same.
  pub enough : (n : ℕ) (c : Cursor) → length s < n → headers_in n turn c ≡ seek_by s turn c
  enough n c h = either n (suc (length s)) c (omega arith) (omega arith) (omega arith) (omega arith)

  -- where the first turn goes on, the whole search is the search from the next header
  pub seek_on : (c d : Cursor) → turn c ≡ Ok (Continue d) → seek_by s turn c ≡ seek_by s turn d
  unfolding headers_in on_turn
  seek_on c d e =
      let a = moves c d e in
      rw e (either (length s) (suc (length s)) d (omega arith) (omega arith) (omega arith) (omega arith))

  -- a search none of whose headers ends it
  module _ (there : (c : Cursor) → turn c ≡ Ok (Break None) → ⊥) where
    not_missing : (n : ℕ) (c : Cursor) → 0 < n → length s < n + c.pos → headers_in n turn c ≡ Ok None → ⊥
    unfolding headers_in on_turn
    not_missing zero c h l e = absurd (omega arith)
    not_missing (suc n) c h l e = go (turn c) refl e (λ d. not_missing n d)
      where
        go : (t : Turn) → turn c ≡ t → on_turn t (λ d. headers_in n turn d) ≡ Ok None
            → ((d : Cursor) → 0 < n → length s < n + d.pos → headers_in n turn d ≡ Ok None → ⊥) → ⊥
        go (Err x) q k next = absurd (short_none x k)
          where
            short_none : (x : Shortage) → ◌≡◌ {A = Seek} (Err x) (Ok None) → ⊥
            short_none x e = let z : ◌≡◌ {A = ℕ} 0 1 = cc in omega arith
        go (Ok (Break f)) q k next = there c (q ∙ settled k)
          where
            settled : ◌≡◌ {A = Seek} (Ok f) (Ok None) → ◌≡◌ {A = Turn} (Ok (Break f)) (Ok (Break None))
            settled e = cc
        go (Ok (Continue d)) q k next =
            let a = moves c d q in
            next d (omega arith) (omega arith) k

    pub never_missing : (c : Cursor) → seek_by s turn c ≡ Ok None → ⊥
    never_missing c e = not_missing (suc (length s)) c (omega arith) (omega arith) e
