-- Laws of the selection: one for each way that it goes. Assumes nothing.
use Prim.Native.Nat.{ℕ}
use mathlib.Core.Path.{◌≡◌, refl, sym, ap, ◌∙◌}
use mathlib.Core.Bool.{Bool, true, false}
use mathlib.Core.List.{List, [], ◌∷◌}
use mathlib.Core.Option.{Option}
use lib.ListN.{get_or}
use lib.IntN.{ℤ, pos}
use mir.Syntax.{w32}
use mir.Val.{to_z, of_z, SFits}
use mir.Facts.{to_z-of_z}
use borrow.Author.Tests.{eq-eqb, ne_eqb}
use Rattle.ground.specs.Choice.{pick}
use Rattle.book.specs.declared.member.Run.{Run}
use Rattle.std.specs.Prelude.{Some, None, Option as Found}
use Rattle.book.specs.Types.{BookType, Member, default}
use Rattle.book.specs.Rules.{is_enum}
use Rattle.book.specs.Places.{member_at, type_at, types_by, places_left, listed, Started, PlaceOf}
use Rattle.book.specs.Labels.{or_else, first_where, first_with, last_default, told}
use Rattle.book.proofs.Places.{listed_none, listed_some}
use Rattle.book.proofs.Search.{where_found, where_turn, where_end}
use Rattle.choice.specs.Select.{first_default, first_of, first_label, label_of, default_value, by_default_value, selected_of}

-- the first literal with the default flag
module _ (b : List ℕ) (s : Run) (whole : Option Member) (inv : first_default (listed b s) ≡ whole) where
  module _ (p : ℕ) (t : Run) (y : places_left s ≡ p ∷ places_left t) (r : Bool) (e : r ≡ default (member_at b p)) where
    pub default_found : r ≡ true → told b (Some p) ≡ whole
    unfolding first_default
    default_found = where_found default b s whole inv p t y r e

    pub default_turn : r ≡ false → first_default (listed b t) ≡ whole
    unfolding first_default
    default_turn = where_turn default b s whole inv p t y r e

  pub default_end : places_left s ≡ [] → told b None ≡ whole
  unfolding first_default
  default_end = where_end default b s whole inv

pub ruleset default_laws = (default_found, default_turn, default_end)

-- the default value
label_first : (ls : List ℤ) → get_or ls 0 (pos 0) ≡ first_label ls
unfolding first_label
label_first [] = refl
label_first (l ∷ ls) = refl

either_zero : (t : Bool) → pos 0 ≡ pick t (pos 0) (pos 0)
either_zero true = refl
either_zero false = refl

module _ (b : List ℕ) (at : ℕ) where
  -- a type that has no member has no literal
  pub value_zero : (ms : Run) → Started b at ms → places_left ms ≡ [] → pos 0 ≡ default_value (type_at b at)
  unfolding default_value first_default first_where or_else first_of label_of
  value_zero ms s h =
      let e : (type_at b at).members ≡ [] = sym s.is ∙ listed_none b ms h in
      rw e (either_zero (is_enum (type_at b at)))

  pub value_none : (kind : ℕ) → kind ≡ (type_at b at).kind → (kind ≡ 21 → ⊥) → pos 0 ≡ default_value (type_at b at)
  unfolding default_value
  value_none kind e h = rw (← e, ne_eqb kind 21 h)

  module _ (kind : ℕ) (is : kind ≡ (type_at b at).kind) (enum : kind ≡ 21) (f : Found ℕ) (found : told b f ≡ first_default (type_at b at).members) where
    value_is : default_value (type_at b at) ≡ label_of (or_else (told b f) (first_of (type_at b at).members))
    unfolding default_value
    value_is = rw (← is, eq-eqb kind 21 enum, ← found)

    pub value_default : (p : ℕ) → f ≡ Some p → (z : ℤ) → z ≡ get_or (member_at b p).labels 0 (pos 0) → z ≡ default_value (type_at b at)
    unfolding told or_else label_of
    value_default p e z g = g ∙ label_first (member_at b p).labels ∙ sym (value_is ∙ ap (λ (x : Found ℕ). label_of (or_else (told b x) (first_of (type_at b at).members))) e)

    module _ (e : f ≡ None) (ms : Run) (s : Started b at ms) where
      rest : default_value (type_at b at) ≡ label_of (first_of (listed b ms))
      unfolding told or_else
      rest = value_is ∙ ap (λ (x : Found ℕ). label_of (or_else (told b x) (first_of (type_at b at).members))) e ∙ ap (λ (l : List Member). label_of (first_of l)) (sym s.is)

      pub value_first : (p : ℕ) (t : Run) → places_left ms ≡ p ∷ places_left t → (z : ℤ) → z ≡ get_or (member_at b p).labels 0 (pos 0) → z ≡ default_value (type_at b at)
      unfolding first_of label_of
      value_first p t y z g = g ∙ label_first (member_at b p).labels ∙ sym (rest ∙ ap (λ (l : List Member). label_of (first_of l)) (listed_some b ms p t y))

-- a signed result is handed on by its bits
pub same_bits : (z y : ℤ) → SFits w32 z → z ≡ y → to_z w32 (of_z w32 z) ≡ y
same_bits z y f e = to_z-of_z {w = w32} {z = z} f ∙ e

-- by the default value of a discriminator
module _ (b index : List ℕ) (p : ℕ) (ms : List Member) (k : ℕ) (is : k ≡ (member_at b p).construct) where
  pub by_value : k ≡ 0 → (q : ℕ) → PlaceOf b index (member_at b p).type q → (z : ℤ) → z ≡ default_value (type_at b q)
      → (f : Found ℕ) → told b f ≡ first_with z ms → told b f ≡ by_default_value (types_by b index) (member_at b p) ms
  unfolding by_default_value
  by_value e q pl z h f w =
      rw (← is, eq-eqb k 0 e, ← pl.is) (w ∙ ap (λ (y : ℤ). first_with y ms) h)

  pub by_none : (k ≡ 0 → ⊥) → told b None ≡ by_default_value (types_by b index) (member_at b p) ms
  unfolding by_default_value told
  by_none h = rw (← is, ne_eqb k 0 h)

-- the three ways, one after the other; a signed argument is handed on by its bits
module _ (types : List BookType) (b : List ℕ) (disc : Member) (ms : List Member) (d : ℤ) (fits : SFits w32 d) (f : Found ℕ) (by_bits : told b f ≡ first_with (to_z w32 (of_z w32 d)) ms) where
  by_label : told b f ≡ first_with d ms
  by_label = by_bits ∙ ap (λ (z : ℤ). first_with z ms) (to_z-of_z {w = w32} {z = d} fits)

  pub select_first : (q : ℕ) → f ≡ Some q → told b (Some q) ≡ selected_of types disc ms d
  unfolding selected_of or_else told
  select_first q e = rw (← by_label, e)

  module _ (e : f ≡ None) (g : Found ℕ) (last : told b g ≡ last_default ms) where
    pub select_last : (q : ℕ) → g ≡ Some q → told b (Some q) ≡ selected_of types disc ms d
    unfolding selected_of or_else told
    select_last q h = rw (← by_label, e, ← last, h)

    pub select_default : g ≡ None → (h : Found ℕ) → told b h ≡ by_default_value types disc ms → told b h ≡ selected_of types disc ms d
    unfolding selected_of or_else told
    select_default k h w = rw (← by_label, e, ← last, k) w
