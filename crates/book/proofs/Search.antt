-- Laws of the search for a label and for the last default. Assumes nothing.
use Prim.Native.Nat.{ℕ, ◌+◌, ◌<◌, ◌≤◌}
use mathlib.Core.Path.{◌≡◌, refl, sym, ap, ◌∙◌}
use mathlib.Core.Bool.{Bool, true, false}
use mathlib.Core.List.{List, [], ◌∷◌}
use mathlib.Core.Option.{Option, none, some}
use native.Mathlib.Omega.{arith}
use native.Mathlib.Numerals.{add-one}
use lib.ListN.{length, get_or, drop, drop_of_length-le}
use lib.Seq.{drop-cons}
use lib.IntN.{ℤ, pos}
use mir.Syntax.{w32}
use mir.Val.{to_z, of_z, SFits}
use mir.Facts.{to_z-of_z}
use Rattle.wire.specs.Signed.{same_z}
use Rattle.book.specs.declared.member.Run.{Run}
use Rattle.std.specs.Prelude.{Some, None, Option as Found}
use Rattle.book.specs.Types.{Member, default}
use Rattle.book.specs.Places.{member_at, type_at, places_left, listed, Started}
use Rattle.book.specs.Labels.{is_in, or_else, when, first_where, first_with, last_default, told}
use Rattle.book.proofs.Places.{listed_none, listed_some}

-- a label among the labels of a member: what holds of all of them holds of those from i on
unfoldable pub past : ℕ → List ℤ → List ℤ
past i ls = drop i ls

pub in_start : (d : ℤ) (ls : List ℤ) → is_in d (past 0 ls) ≡ is_in d ls
unfolding past
in_start d ls = refl

module _ (d : ℤ) (ls : List ℤ) (i : ℕ) (inv : is_in d (past i ls) ≡ is_in d ls) where
  pub in_found : (n : ℕ) (t : Bool) → n ≡ length ls → i < n → t ≡ same_z d (get_or ls i (pos 0)) → t ≡ true → true ≡ is_in d ls
  unfolding past is_in
  in_found n t e h g z =
      let s : same_z d (get_or ls i (pos 0)) ≡ true = sym g ∙ z in
      rw (drop-cons ls i (pos 0) (omega arith), s) at inv

  pub in_turn : (n : ℕ) (t : Bool) → n ≡ length ls → i < n → t ≡ same_z d (get_or ls i (pos 0)) → t ≡ false → is_in d (past (i + 1) ls) ≡ is_in d ls
  unfolding past is_in
  in_turn n t e h g z =
      let s : same_z d (get_or ls i (pos 0)) ≡ false = sym g ∙ z in
      rw (add-one i) (rw (drop-cons ls i (pos 0) (omega arith), s) at inv)

  pub in_none : (n : ℕ) → n ≡ length ls → n ≤ i → false ≡ is_in d ls
  unfolding past is_in
  in_none n e h = rw (drop_of_length-le ls {i = i} (omega arith)) at inv

-- in a loop a signed parameter stands as its bits
pub in_bits : (d : ℤ) (ls : List ℤ) (t : Bool) → SFits w32 d → t ≡ is_in (to_z w32 (of_z w32 d)) ls → t ≡ is_in d ls
in_bits d ls t f e = e ∙ ap (λ (z : ℤ). is_in z ls) (to_z-of_z {w = w32} {z = d} f)

pub first_bits : (d : ℤ) (ms : List Member) (o : Option Member) → SFits w32 d → o ≡ first_with (to_z w32 (of_z w32 d)) ms → o ≡ first_with d ms
first_bits d ms o f e = e ∙ ap (λ (z : ℤ). first_with z ms) (to_z-of_z {w = w32} {z = d} f)

-- the first member that passes a test
module _ (f : Member → Bool) (b : List ℕ) (s : Run) (whole : Option Member) (inv : first_where f (listed b s) ≡ whole) where
  module _ (p : ℕ) (t : Run) (y : places_left s ≡ p ∷ places_left t) (r : Bool) (e : r ≡ f (member_at b p)) where
    pub where_found : r ≡ true → told b (Some p) ≡ whole
    unfolding first_where when or_else told
    where_found z =
        let g : f (member_at b p) ≡ true = sym e ∙ z in
        rw (listed_some b s p t y, g) at inv

    pub where_turn : r ≡ false → first_where f (listed b t) ≡ whole
    unfolding first_where when or_else
    where_turn z =
        let g : f (member_at b p) ≡ false = sym e ∙ z in
        rw (listed_some b s p t y, g) at inv

  pub where_end : places_left s ≡ [] → told b None ≡ whole
  unfolding first_where told
  where_end h = rw (listed_none b s h) at inv

-- the first member that holds a label
module _ (d : ℤ) (b : List ℕ) (s : Run) (whole : Option Member) (inv : first_with d (listed b s) ≡ whole) where
  module _ (p : ℕ) (t : Run) (y : places_left s ≡ p ∷ places_left t) (r : Bool) (e : r ≡ is_in d (member_at b p).labels) where
    pub first_found : r ≡ true → told b (Some p) ≡ whole
    unfolding first_with
    first_found = where_found (λ m. is_in d m.labels) b s whole inv p t y r e

    pub first_turn : r ≡ false → first_with d (listed b t) ≡ whole
    unfolding first_with
    first_turn = where_turn (λ m. is_in d m.labels) b s whole inv p t y r e

  pub first_end : places_left s ≡ [] → told b None ≡ whole
  unfolding first_with
  first_end = where_end (λ m. is_in d m.labels) b s whole inv

pub ruleset first_laws = (first_found, first_turn, first_end)

-- the last default
pub or_none : (o : Option Member) → or_else o none ≡ o
unfolding or_else
or_none none = refl
or_none (some m) = refl

or_or : (x y z : Option Member) → or_else (or_else x y) z ≡ or_else x (or_else y z)
unfolding or_else
or_or none y z = refl
or_or (some m) y z = refl

-- the last default of those to come, else what was found before
unfoldable pub last_or : List ℕ → Found ℕ → List Member → Option Member
last_or b before ms = or_else (last_default ms) (told b before)

pub last_start : (b : List ℕ) (at : ℕ) (s : Run) → Started b at s → last_or b None (listed b s) ≡ last_default (type_at b at).members
unfolding last_or told
last_start b at s h = rw (h.is, or_none)

module _ (b : List ℕ) (s : Run) (before : Found ℕ) (whole : Option Member) (inv : last_or b before (listed b s) ≡ whole) where
  module _ (p : ℕ) (t : Run) (y : places_left s ≡ p ∷ places_left t) where
    step : or_else (last_default (listed b t)) (or_else (when (default (member_at b p)) (member_at b p)) (told b before)) ≡ whole
    unfolding last_or last_default
    step =
        let i : last_or b before (member_at b p ∷ listed b t) ≡ whole = rw (listed_some b s p t y) at inv in
        sym (or_or (last_default (listed b t)) (when (default (member_at b p)) (member_at b p)) (told b before)) ∙ i

    pub last_turn : (next : Found ℕ) → told b next ≡ or_else (when (default (member_at b p)) (member_at b p)) (told b before) → last_or b next (listed b t) ≡ whole
    unfolding last_or
    last_turn next f = rw f step

    module _ (r : Bool) (e : r ≡ default (member_at b p)) where
      pub last_here : r ≡ true → last_or b (Some p) (listed b t) ≡ whole
      unfolding or_else when told
      last_here z =
          let g : default (member_at b p) ≡ true = sym e ∙ z in
          last_turn (Some p) (rw g)

      pub last_kept : r ≡ false → last_or b before (listed b t) ≡ whole
      unfolding or_else when
      last_kept z =
          let g : default (member_at b p) ≡ false = sym e ∙ z in
          last_turn before (rw g)

  pub last_end : places_left s ≡ [] → told b before ≡ whole
  unfolding last_or or_else last_default
  last_end h = rw (listed_none b s h) at inv

pub ruleset last_laws = (last_here, last_kept, last_end)
