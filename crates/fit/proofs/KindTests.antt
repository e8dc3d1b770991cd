-- What a test of a kind says of it, by one computed test over the kinds in question: as what kind a type is read. Assumes nothing.
use Prim.Native.Nat.{ℕ, ◌≤◌}
use mathlib.Core.Path.{◌≡◌, refl, sym, ◌∙◌}
use mathlib.Core.Bool.{Bool, true, false, not, ◌||◌}
use mathlib.Core.List.{[], ◌∷◌}
use native.Mathlib.Omega.{arith}
use lib.Dec.{eqb, leb, leb→le, T}
use borrow.Author.Tests.{eqb-true, ne_eqb, not-true}
use Rattle.ground.specs.Choice.{pick, both, every, among}
use Rattle.ground.proofs.Tests.{apart, both_right}
use Rattle.ground.proofs.Between.{passes, between}
use Rattle.book.specs.Types.{BookType, bounded}
use Rattle.book.specs.Asked.{read_as}
use Rattle.kinds.specs.Kinds.{is_primitive, stored_of, opens, unsupported_member, unsupported_element, bitmask_stored}
use Rattle.shape.proofs.KindTests.{true_is, among_each, scalars, bitmask_among, by_mask, mask_stored, plain_stored}
use Rattle.fit.specs.Fit.{chooses}
use Rattle.shape.specs.Shape.{stored_kind, is_scalar}

-- what the 28 kinds pass, a kind passes
pub kind_each : (f : ℕ → Bool) → T (passes f 0 28) → (k : ℕ) → k ≤ 27 → f k ≡ true
kind_each f t k h = true_is (f k) (between f 28 0 t k (omega arith) (omega arith))

-- what is read as a single number or text: any primitive but CHAR16, STRING8, STRING16
abbrev pub readable : ℕ → Bool
readable k = pick (eqb k 15) false (pick (eqb k 16) true (pick (eqb k 17) true (is_primitive k)))

abbrev readable_member : ℕ → Bool
readable_member k =
    pick (eqb k 0) true (pick (unsupported_member k) true (pick (opens k) true (pick (among (25 ∷ 26 ∷ []) k) true (pick (eqb k 19) true (readable k)))))

abbrev readable_element : ℕ → Bool
readable_element k = pick (unsupported_element k) true (pick (opens k) true (pick (eqb k 19) true (readable k)))

-- what is read, and is no bitmask and no text, is a scalar
abbrev unmasked : ℕ → Bool
unmasked k =
    pick (eqb k 19) true
    (pick (eqb k 16) true (pick (eqb k 17) true (pick (readable k) (among scalars k) true)))

member_kinds : (k : ℕ) → k ≤ 27 → readable_member k ≡ true
unfolding unsupported_member opens is_primitive
member_kinds k h = kind_each readable_member tt k h

element_kinds : (k : ℕ) → k ≤ 27 → readable_element k ≡ true
unfolding unsupported_element opens is_primitive
element_kinds k h = kind_each readable_element tt k h

unmasked_kinds : (k : ℕ) → k ≤ 27 → unmasked k ≡ true
unfolding is_primitive
unmasked_kinds k h = kind_each unmasked tt k h

-- what is opened is no bitmask, and is stored as it is
opened_stored : (k : ℕ) → k ≤ 27 → opens k ≡ true → (eqb k 19 ≡ false) × (stored_of k ≡ k)
unfolding opens stored_of
opened_stored k h e =
    (not-true (eqb k 19) (rw e at (kind_each (λ n. pick (opens n) (not (eqb n 19)) true) tt k h)), eqb-true (stored_of k) k (rw e at (kind_each (λ n. pick (opens n) (eqb (stored_of n) n) true) tt k h)))

-- .. and no list, and a union where it is neither an enum nor a structure
pub opened_flat : (k : ℕ) → k ≤ 27 → opens k ≡ true → (eqb k 25 || eqb k 26) ≡ false
unfolding opens
opened_flat k h e = not-true (eqb k 25 || eqb k 26) (rw e at (kind_each (λ n. pick (opens n) (not (eqb n 25 || eqb n 26)) true) tt k h))

pub opened_union : (k : ℕ) → k ≤ 27 → opens k ≡ true → eqb k 21 ≡ false → eqb k 22 ≡ false → k ≡ 23
unfolding opens
opened_union k h e p q = eqb-true k 23 (rw (e, p, q) at (kind_each (λ n. pick (opens n) (pick (eqb n 21) true (pick (eqb n 22) true (eqb n 23))) true) tt k h))

-- an enum's base
pub record Base (k : ℕ) : Type 0 where
  pub reads : readable k ≡ true
  pub stored : stored_of k ≡ k
  pub no_text8 : k ≡ 16 → ⊥
  pub no_text16 : k ≡ 17 → ⊥
  pub chooses : among (3 ∷ 4 ∷ 6 ∷ 7 ∷ 12 ∷ 13 ∷ []) k ≡ true

pub base_is : (k : ℕ) → among (3 ∷ 4 ∷ 12 ∷ []) k ≡ true → Base k
unfolding is_primitive stored_of every
base_is k e =
    record {
      reads = among_each readable (3 ∷ 4 ∷ 12 ∷ []) tt k e;
      stored = eqb-true (stored_of k) k (among_each (λ n. eqb (stored_of n) n) (3 ∷ 4 ∷ 12 ∷ []) tt k e);
      no_text8 = λ (z : k ≡ 16). apart (rw z at e);
      no_text16 = λ (z : k ≡ 17). apart (rw z at e);
      chooses = among_each (λ n. among (3 ∷ 4 ∷ 6 ∷ 7 ∷ 12 ∷ 13 ∷ []) n) (3 ∷ 4 ∷ 12 ∷ []) tt k e;
    }

module _ (t : BookType) where
  plain_read : eqb t.kind 19 ≡ false → read_as t ≡ t.kind
  unfolding read_as
  plain_read e = rw e

  mask_read : eqb t.kind 19 ≡ true → read_as t ≡ bitmask_stored (bounded t) t.bound
  unfolding read_as
  mask_read e = rw e

  -- it is stored as the kind that it is read as is
  pub read_stored : stored_of (read_as t) ≡ stored_kind t
  unfolding stored_of every
  read_stored =
      by_mask t (stored_of (read_as t) ≡ stored_kind t) (λ m.
      rw (mask_read m, mask_stored t m)
      (eqb-true (stored_of (bitmask_stored (bounded t) t.bound)) (bitmask_stored (bounded t) t.bound)
      (among_each (λ k. eqb (stored_of k) k) (13 ∷ 6 ∷ 7 ∷ 8 ∷ []) tt (bitmask_stored (bounded t) t.bound) (bitmask_among (bounded t) t.bound)))) (λ m.
      rw (plain_read m, plain_stored t m))

  mask_readable : eqb t.kind 19 ≡ true → readable (read_as t) ≡ true
  unfolding is_primitive every
  mask_readable e = rw (mask_read e) (among_each readable (13 ∷ 6 ∷ 7 ∷ 8 ∷ []) tt (bitmask_stored (bounded t) t.bound) (bitmask_among (bounded t) t.bound))

  -- a member's kind that is neither NONE, nor opened, nor a list
  pub member_readable : t.kind ≤ 27 → eqb t.kind 0 ≡ false → unsupported_member t.kind ≡ false → opens t.kind ≡ false
      → among (25 ∷ 26 ∷ []) t.kind ≡ false → readable (read_as t) ≡ true
  member_readable h z u o l =
      by_mask t (readable (read_as t) ≡ true) mask_readable (λ m.
      rw (plain_read m) (rw (z, u, o, l, m) at (member_kinds t.kind h)))

  pub element_readable : t.kind ≤ 27 → unsupported_element t.kind ≡ false → opens t.kind ≡ false → readable (read_as t) ≡ true
  element_readable h u o =
      by_mask t (readable (read_as t) ≡ true) mask_readable (λ m.
      rw (plain_read m) (rw (u, o, m) at (element_kinds t.kind h)))

  -- what is read and no text is a scalar
  pub scalar_kind : t.kind ≤ 27 → readable (read_as t) ≡ true → (read_as t ≡ 16 → ⊥) → (read_as t ≡ 17 → ⊥) → is_scalar t ≡ true
  unfolding is_scalar
  scalar_kind h r p q =
      by_mask t (among scalars t.kind ≡ true) (λ m. rw (eqb-true t.kind 19 m)) (λ m.
      let e = plain_read m in
      rw m (rw (m, rw e at r, ne_eqb t.kind 16 (λ z. p (e ∙ z)), ne_eqb t.kind 17 (λ z. q (e ∙ z))) at (unmasked_kinds t.kind h)))

  -- what is read as a text is one
  pub text_kind : (n : ℕ) → among (16 ∷ 17 ∷ []) n ≡ true → read_as t ≡ n → t.kind ≡ n
  unfolding every
  text_kind n h e =
      by_mask t (t.kind ≡ n) (λ m.
      let z = among_each (λ k. not (among (16 ∷ 17 ∷ []) k)) (13 ∷ 6 ∷ 7 ∷ 8 ∷ []) tt n (rw (← e, mask_read m) (bitmask_among (bounded t) t.bound)) in
      absurd (apart (rw h at z))) (λ m. sym (plain_read m) ∙ e)

  -- a discriminator that is a scalar has a row of these kinds
  pub chosen_stored : chooses t ≡ true → is_scalar t ≡ true → among (3 ∷ 4 ∷ 6 ∷ 7 ∷ 12 ∷ 13 ∷ []) (stored_kind t) ≡ true
  unfolding chooses is_scalar stored_of every bounded
  chosen_stored c n =
      by_mask t (among (3 ∷ 4 ∷ 6 ∷ 7 ∷ 12 ∷ 13 ∷ []) (stored_kind t) ≡ true) (λ m.
      rw (mask_stored t m)
      (among_each (λ k. among (3 ∷ 4 ∷ 6 ∷ 7 ∷ 12 ∷ 13 ∷ []) k) (13 ∷ 6 ∷ 7 ∷ []) tt (bitmask_stored (bounded t) t.bound) (rw (eqb-true t.kind 19 m) at c))) (λ m.
      rw (plain_stored t m) (go (among (2 ∷ 3 ∷ 4 ∷ 6 ∷ 7 ∷ 12 ∷ 13 ∷ 21 ∷ []) t.kind) refl (rw m at c)))
    where
      go : (b : Bool) → among (2 ∷ 3 ∷ 4 ∷ 6 ∷ 7 ∷ 12 ∷ 13 ∷ 21 ∷ []) t.kind ≡ b → (b || false) ≡ true → among (3 ∷ 4 ∷ 6 ∷ 7 ∷ 12 ∷ 13 ∷ []) (stored_of t.kind) ≡ true
      go true e h =
          rw n at (among_each (λ k. pick (among scalars k) (among (3 ∷ 4 ∷ 6 ∷ 7 ∷ 12 ∷ 13 ∷ []) (stored_of k)) true) (2 ∷ 3 ∷ 4 ∷ 6 ∷ 7 ∷ 12 ∷ 13 ∷ 21 ∷ []) tt t.kind e)
      go false e h = absurd (apart h)

  -- what is opened is stored as it is
  pub opened_kind : t.kind ≤ 27 → opens t.kind ≡ true → stored_kind t ≡ t.kind
  opened_kind h o = let k = opened_stored t.kind h o in plain_stored t k.0 ∙ k.1

  -- primitives are read as they are
  pub primitive_read : is_primitive t.kind ≡ true → read_as t ≡ t.kind
  unfolding is_primitive
  primitive_read e =
      let i : T (both (leb 1 t.kind) (leb t.kind 15)) = rw e tt in
      let high : t.kind ≤ 15 = leb→le t.kind 15 (both_right (leb 1 t.kind) (leb t.kind 15) i) in
      plain_read (ne_eqb t.kind 19 (λ z. omega arith))
