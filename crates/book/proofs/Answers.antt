-- Laws of what is asked of a type. Assumes nothing.
use Prim.Native.Nat.{ℕ}
use mathlib.Core.Path.{◌≡◌, sym, ap, ◌∙◌}
use mathlib.Core.Bool.{Bool, ◌||◌, or-false}
use mathlib.Core.List.{List, [], ◌∷◌}
use lib.Dec.{eqb}
use borrow.Author.Tests.{eq-eqb, ne_eqb}
use Rattle.ground.specs.Choice.{among}
use Rattle.kinds.specs.Kinds.{is_primitive, bitmask_stored}
use Rattle.book.specs.Types.{BookType, byte, quad, type_of, bounded, type_no}
use Rattle.book.specs.Places.{from, type_at}
use Rattle.book.specs.Asked.{is_sequence, primitive_element, read_as, is_mutable, is_delimited}

pub sequence_is : (t : BookType) (k : ℕ) → k ≡ t.kind → eqb k 25 ≡ is_sequence t
unfolding is_sequence
sequence_is t k e = rw e

pub mutable_is : (t : BookType) (k : ℕ) → k ≡ t.extensibility → eqb k 2 ≡ is_mutable t
unfolding is_mutable
mutable_is t k e = rw e

pub delimited_is : (t : BookType) (e : ℕ) → e ≡ t.extensibility → (eqb e 1 || eqb e 2) ≡ is_delimited t
unfolding is_delimited
delimited_is t e f = let a : (eqb e 1 || eqb e 2) ≡ among (1 ∷ 2 ∷ []) e = simp or-false in a ∙ ap (λ (x : ℕ). among (1 ∷ 2 ∷ []) x) f

module _ (t : BookType) (k : ℕ) (is : k ≡ t.kind) where
  pub read_bitmask : k ≡ 19 → (b : Bool) (n r : ℕ) → b ≡ bounded t → n ≡ t.bound → r ≡ bitmask_stored b n → r ≡ read_as t
  unfolding read_as
  read_bitmask e b n r f g h =
      let z : bitmask_stored b n ≡ bitmask_stored (bounded t) t.bound = rw (f, g) in
      rw (eq-eqb t.kind 19 (sym is ∙ e)) (h ∙ z)

  pub read_other : (k ≡ 19 → ⊥) → k ≡ read_as t
  unfolding read_as
  read_other h = rw (← is, ne_eqb k 19 h)

-- a type's own bytes
module _ (b : List ℕ) (at n : ℕ) where
  pub kind_there : n ≡ byte (from b at) 2 → n ≡ (type_at b at).kind
  unfolding type_of
  kind_there e = e

  pub extensibility_there : n ≡ byte (from b at) 3 → n ≡ (type_at b at).extensibility
  unfolding type_of
  extensibility_there e = e

  pub bounded_there : n ≡ byte (from b at) 5 → eqb n 1 ≡ bounded (type_at b at)
  unfolding type_of bounded
  bounded_there e = rw e

  pub bound_there : n ≡ quad (from b at) 6 → n ≡ (type_at b at).bound
  unfolding type_of
  bound_there e = e

-- the elements' kind, by the number of their type
pub primitive_is : (types : List BookType) (t : BookType) (ty k : ℕ) (r : Bool) → ty ≡ t.element → k ≡ (type_no types ty).kind → r ≡ is_primitive k → r ≡ primitive_element types t
unfolding primitive_element
primitive_is types t ty k r e f g = g ∙ ap is_primitive (f ∙ ap (λ (n : ℕ). (type_no types n).kind) e)
