-- Laws of the clauses: one for each way that a test of them goes. Assumes nothing.
use Prim.Native.Nat.{ℕ}
use mathlib.Core.Path.{◌≡◌, refl, sym, ap, ◌∙◌}
use mathlib.Core.Bool.{Bool, true, false, ◌&&◌}
use mathlib.Core.List.{List, [], ◌∷◌}
use borrow.Author.Tests.{eq-eqb}
use Rattle.ground.specs.Choice.{both, every}
use Rattle.book.specs.declared.member.Run.{Run}
use Rattle.book.specs.Types.{BookType, type_no}
use Rattle.book.specs.Places.{member_at, type_at, types_by, places_left, listed, Started, PlaceOf}
use Rattle.book.proofs.Places.{listed_none, listed_some}
use Rattle.fit.specs.Fit.{members_supported, element_supported, base_supported, chooses, first_chooses, discriminator_fits, check_clauses, meets}
use Rattle.fit.specs.Ids.{ids_fit, clauses_for}

-- ---- a discriminator
module _ (types : List BookType) (b : List ℕ) (at kind : ℕ) (is : kind ≡ (type_at b at).kind) where
  module _ (e : kind ≡ 23) (ms : Run) (s : Started b at ms) where
    first_is : discriminator_fits types (type_at b at) ≡ first_chooses types (listed b ms)
    unfolding discriminator_fits
    first_is = rw (← is, eq-eqb kind 23 e, ← s.is)

    pub discriminator_empty : places_left ms ≡ [] → false ≡ discriminator_fits types (type_at b at)
    unfolding first_chooses
    discriminator_empty h = sym (first_is ∙ ap (first_chooses types) (listed_none b ms h))

    pub discriminator_first : (p : ℕ) (rest : Run) → places_left ms ≡ p ∷ places_left rest → (index : List ℕ) → types_by b index ≡ types → (q : ℕ) → PlaceOf b index (member_at b p).type q
        → (r : Bool) → r ≡ chooses (type_at b q) → r ≡ discriminator_fits types (type_at b at)
    unfolding first_chooses
    discriminator_first p rest h index same q pl r g =
        let t : type_at b q ≡ type_no types (member_at b p).type = rw (← same) pl.is in
        g ∙ ap chooses t ∙ sym (first_is ∙ ap (first_chooses types) (listed_some b ms p rest h))

-- ---- all of them
in_turn : (a b c d e : Bool) → ((((a && b) && c) && d) && e) ≡ both e (both a (both b (both c (both d true))))
in_turn false b c d false = refl
in_turn false b c d true = refl
in_turn true false c d false = refl
in_turn true false c d true = refl
in_turn true true false d false = refl
in_turn true true false d true = refl
in_turn true true true false false = refl
in_turn true true true false true = refl
in_turn true true true true false = refl
in_turn true true true true true = refl

pub all_met : (only : Bool) (types : List BookType) (t : BookType) (a b c d e : Bool) → a ≡ members_supported types t → b ≡ element_supported types t
    → ((ts : List BookType) → c ≡ base_supported ts t) → d ≡ discriminator_fits types t → ((ts : List BookType) → e ≡ ids_fit only ts t)
    → ((((a && b) && c) && d) && e) ≡ meets (clauses_for only) types t
unfolding meets clauses_for check_clauses every
all_met only types t a b c d e p q r s u = rw (← p, ← q, ← r types, ← s, ← u types) (in_turn a b c d e)
