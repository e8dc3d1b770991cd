-- What a test of a kind says of it, by one computed test over the kinds in question; the stored kind of a type. Assumes nothing.
use Prim.Native.Nat.{ℕ}
use mathlib.Core.Path.{◌≡◌, refl, ap, ◌∙◌}
use mathlib.Core.Bool.{Bool, true, false, not, ◌||◌}
use mathlib.Core.List.{List, [], ◌∷◌}
use lib.Dec.{eqb, T}
use borrow.Author.Tests.{eqb-true, not-true}
use Rattle.ground.specs.Choice.{pick, both, every, among, ◌‥◌, within}
use Rattle.ground.proofs.Tests.{apart, both_first, both_second}
use Rattle.kinds.specs.Kinds.{stored_of, opens, bitmask_stored, stored_by_bound}
use Rattle.book.specs.Types.{BookType, bounded}
use Rattle.shape.specs.Range.{scalar_rows}
use Rattle.shape.specs.Shape.{stored_kind, is_scalar}

pub true_is : (b : Bool) → T b → b ≡ true
true_is true t = refl
true_is false t = absurd t

pub is_true : (b : Bool) → b ≡ true → T b
is_true true e = tt
is_true false e = absurd (apart e)

-- what each of these numbers passes, one of them passes
pub among_each : (f : ℕ → Bool) (xs : List ℕ) → T (every f xs) → (k : ℕ) → among xs k ≡ true → f k ≡ true
unfolding every
among_each f [] t k e = absurd (apart e)
among_each f (x ∷ xs) t k e =
    let all : both (f x) (every f xs) ≡ true = true_is (both (f x) (every f xs)) t in
    go (eqb k x) refl e (both_first (f x) (every f xs) all) (λ h. among_each f xs (is_true (every f xs) (both_second (f x) (every f xs) all)) k h)
  where
    go : (b : Bool) → eqb k x ≡ b → (b || among xs k) ≡ true → f x ≡ true → (among xs k ≡ true → f k ≡ true) → f k ≡ true
    go true q h p r = rw (eqb-true k x q) p
    go false q h p r = r h

-- the kinds of `is_scalar`
abbrev pub scalars : List ℕ
scalars = 1 ∷ 2 ∷ 3 ∷ 4 ∷ 5 ∷ 6 ∷ 7 ∷ 8 ∷ 9 ∷ 10 ∷ 11 ∷ 12 ∷ 13 ∷ 14 ∷ 19 ∷ []

-- a bitmask is stored as 13, 6, 7 or 8
pub bitmask_among : (f : Bool) (n : ℕ) → among (13 ∷ 6 ∷ 7 ∷ 8 ∷ []) (bitmask_stored f n) ≡ true
unfolding bitmask_stored stored_by_bound
bitmask_among f n = go (within (1 ‥ 8) (pick f n 32)) (within (9 ‥ 16) (pick f n 32)) (within (17 ‥ 32) (pick f n 32))
  where
    go : (a b c : Bool) → among (13 ∷ 6 ∷ 7 ∷ 8 ∷ []) (pick a 13 (pick b 6 (pick c 7 8))) ≡ true
    go true b c = refl
    go false true c = refl
    go false false true = refl
    go false false false = refl

module _ (t : BookType) where
  pub by_mask : (P : Type 0) → (eqb t.kind 19 ≡ true → P) → (eqb t.kind 19 ≡ false → P) → P
  by_mask P p q = go (eqb t.kind 19) refl
    where
      go : (b : Bool) → eqb t.kind 19 ≡ b → P
      go true e = p e
      go false e = q e

  -- a bitmask by its bound, any other by its own kind
  pub mask_stored : eqb t.kind 19 ≡ true → stored_kind t ≡ bitmask_stored (bounded t) t.bound
  unfolding stored_kind
  mask_stored e = rw e

  pub plain_stored : eqb t.kind 19 ≡ false → stored_kind t ≡ stored_of t.kind
  unfolding stored_kind
  plain_stored e = rw e

  pub own_stored : (n : ℕ) → t.kind ≡ n → eqb n 19 ≡ false → stored_kind t ≡ stored_of n
  own_stored n e m = plain_stored (rw (← e) at m) ∙ ap stored_of e

  -- the row of a scalar has one of these kinds
  pub scalar_row : is_scalar t ≡ true → among scalar_rows (stored_kind t) ≡ true
  unfolding is_scalar stored_of every
  scalar_row n =
      by_mask (among scalar_rows (stored_kind t) ≡ true) (λ m.
      rw (mask_stored m)
      (among_each (λ k. among scalar_rows k) (13 ∷ 6 ∷ 7 ∷ 8 ∷ []) tt (bitmask_stored (bounded t) t.bound) (bitmask_among (bounded t) t.bound))) (λ m.
      rw (plain_stored m) (rw m at (among_each (λ k. pick (eqb k 19) true (among scalar_rows (stored_of k))) scalars tt t.kind n)))

  -- it is neither opened nor a list's
  pub scalar_stored : is_scalar t ≡ true → (opens (stored_kind t) ≡ false) × (eqb (stored_kind t) 25 ≡ false)
  unfolding opens every
  scalar_stored n =
      let e = scalar_row n in
      (not-true (opens (stored_kind t)) (among_each (λ k. not (opens k)) scalar_rows tt (stored_kind t) e), not-true (eqb (stored_kind t) 25) (among_each (λ k. not (eqb k 25)) scalar_rows tt (stored_kind t) e))
