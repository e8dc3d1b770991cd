-- A column's rule, by one test that antt computes at each code; and what readers ask of the columns. Assumes nothing.
use Prim.Native.Nat.{ℕ, ◌≤◌, ◌<◌, zero-le}
use mathlib.Core.Path.{◌≡◌, refl}
use mathlib.Core.Bool.{Bool, true, false, not, ◌||◌}
use mathlib.Core.List.{List, [], ◌∷◌}
use lib.Dec.{T, eqb, leb, lit<, eqb→eq, leb→le}
use lib.ListN.{get_or}
use borrow.Author.Tests.{ne_eqb, leb-true, leb-false}
use native.Mathlib.Omega.{arith}
use Rattle.ground.specs.Choice.{pick, both, among, ◌‥◌, within}
use Rattle.ground.proofs.Tests.{both_left, both_right, above}
use Rattle.ground.proofs.Between.{passes, between}
use Rattle.kinds.specs.Kinds.{align_of, element_size_of, stored_of, is_primitive, opens}

-- a column of 28 entries that passes the test is the rule's, whichever of the three it is
pub listed : (rule : ℕ → ℕ) (column : List ℕ) (k : ℕ) → k < 28 → T (passes (λ i. eqb (get_or column i 0) (rule i)) 0 28) → get_or column k 0 ≡ rule k
listed rule column k h p = eqb→eq _ _ (between (λ i. eqb (get_or column i 0) (rule i)) 28 0 p k zero-le h)

-- What readers ask of the columns.
pub primitive_range : (k : ℕ) → is_primitive k ≡ true → (1 ≤ k) × (k ≤ 15)
unfolding is_primitive
primitive_range k p =
    let t : T (is_primitive k) = rw p tt in
    (leb→le 1 k (both_left (leb 1 k) (leb k 15) t), leb→le k 15 (both_right (leb 1 k) (leb k 15) t))

-- a primitive but FLOAT128 is a number of 1 to 8 bytes
abbrev word : ℕ → Bool
word k = both (leb 1 (align_of k)) (leb (align_of k) 8)

words : (k : ℕ) → 1 ≤ k → k < 16 → T (eqb k 11 || word k)
unfolding align_of
words = between (λ k. eqb k 11 || word k) 15 1 tt

pub primitive_align : (k : ℕ) → is_primitive k ≡ true → (k ≡ 11 → ⊥) → (0 < align_of k) × (align_of k ≤ 8)
primitive_align k p h =
    let r = primitive_range k p in
    let t : T (word k) = rw (ne_eqb k 11 h) at (words k r.0 (omega arith)) in
    (leb→le 1 (align_of k) (both_left (leb 1 (align_of k)) (leb (align_of k) 8) t), leb→le (align_of k) 8 (both_right (leb 1 (align_of k)) (leb (align_of k) 8) t))

-- "(FLOAT128 to 16)"
pub boolean_align : align_of 1 ≡ 1
unfolding align_of
boolean_align = refl

pub float128_align : align_of 11 ≡ 16
unfolding align_of
float128_align = refl

-- "BYTE is stored as 13."
byte_stored : stored_of 2 ≡ 13
unfolding stored_of
byte_stored = refl

-- any other is stored as its own kind
abbrev own : ℕ → Bool
own k = both (within (0 ‥ 27) k) (not (among (2 ∷ 26 ∷ []) k))

pub own_stored : (k : ℕ) → T (own k) → stored_of k ≡ k
unfolding stored_of
own_stored k t = go (eqb k 2) (eqb k 26) (within (0 ‥ 27) k) t
  where
    go : (byte array listed : Bool) → T (both listed (not (byte || (array || false)))) → pick byte 13 (pick array 25 (pick listed k 0)) ≡ k
    go true array true t = absurd t
    go true array false t = absurd t
    go false true true t = absurd t
    go false true false t = absurd t
    go false false true t = refl
    go false false false t = absurd t

-- "Sequences and arrays: kind 25"
pub sequence_stored : stored_of 25 ≡ 25
unfolding stored_of
sequence_stored = refl

pub array_stored : stored_of 26 ≡ 25
unfolding stored_of
array_stored = refl

-- "a structure, enum or union its own kind"
pub opened_stored : (k : ℕ) → opens k ≡ true → stored_of k ≡ k
unfolding opens
opened_stored k o =
    let t : T (both (leb 21 k) (leb k 23)) = rw o tt in
    let low : 21 ≤ k = leb→le 21 k (both_left (leb 21 k) (leb k 23) t) in
    let high : k ≤ 23 = leb→le k 23 (both_right (leb 21 k) (leb k 23) t) in
    own_stored k (between own 3 21 tt k low (omega arith))

-- a stored kind is one of the 28
pub stored_listed : (k : ℕ) → stored_of k ≤ 27
unfolding stored_of
stored_listed k = go (leb k 27) refl
  where
    go : (t : Bool) → leb k 27 ≡ t → stored_of k ≤ 27
    go true h = leb→le (stored_of k) 27 (between (λ i. leb (stored_of i) 27) 28 0 tt k zero-le (omega (arith, leb-true k 27 h)))
    go false h =
        let l : 27 < k = leb-false k 27 h in
        rw (ne_eqb k 2 (omega arith), ne_eqb k 26 (omega arith), above 0 27 k l) zero-le

-- no length is divided by 0
pub element_some : (k : ℕ) → 0 < element_size_of k
unfolding element_size_of
element_some k = some (among (4 ∷ 7 ∷ 9 ∷ []) k) (among (5 ∷ 8 ∷ 10 ∷ []) k)
  where
    some : (four eight : Bool) → 0 < pick four 4 (pick eight 8 1)
    some true eight = lit< tt
    some false true = lit< tt
    some false false = lit< tt
