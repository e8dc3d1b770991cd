-- What may come of a reading of a fit type, and that a value which opens nothing keeps to it. Assumes nothing.
use Rattle.std.specs.Prelude.{Err, Ok}
use Rattle.wire.specs.declared.cursor.Unread.TheVariants as unread
use Prim.Native.Nat.{ℕ, ◌^◌, ◌<◌}
use mathlib.Core.Path.{◌≡◌, refl, sym, ap, ◌∙◌}
use mathlib.Core.Bool.{Bool, true, false, not}
use mathlib.Core.List.{List, [], ◌∷◌}
use native.Mathlib.Omega.{arith}
use lib.Dec.{eqb, T}
use borrow.Author.Tests.{eqb-true, eqb-false, eq-eqb}
use Rattle.ground.specs.Choice.{pick}
use Rattle.ground.proofs.Tests.{apart}
use Rattle.wire.specs.declared.cursor.Cursor.{Cursor}
use Rattle.wire.specs.declared.settings.Settings.{Settings}
use Rattle.wire.specs.Number.{Number, Boolean, read_number, halves_of, read_float128, read_boolean, on_byte, boolean_in}
use Rattle.wire.proofs.Numbers.{read_inv}
use Rattle.kinds.specs.Kinds.{is_primitive, stored_of, align_of}
use Rattle.text.specs.Text.{Text, string_type, wstring_type}
use Rattle.text.proofs.Places.{string_inv, wstring_inv}
use Rattle.table.specs.declared.rows.Row.{Row}
use Rattle.table.specs.declared.out.Refusal.{Refusal}
use Rattle.table.specs.declared.out.Refusal.TheVariants.{InvalidData, NoRoom, NoDiscriminator}
use Rattle.table.specs.Rows.{row}
use Rattle.table.specs.Outcome.{Outcome}
use Rattle.values.specs.Scalar.{rowed, place_before, bool_word, on_boolean, on_float128, word_of, on_number, on_text, scalar_of}
use Rattle.shape.specs.Range.{in_range}
use Rattle.shape.specs.Shape.{Inside, InData}
use Rattle.fit.specs.Demand3.{AreBytes}
use Rattle.fit.proofs.Ends.{Ends, finished, wanting, broken, ends_room, by_test}
use Rattle.fit.proofs.KindTests.{readable}
use Rattle.fit.proofs.Ranges.{number_below, number_kind, number_range, halves_range}

-- the refusals that are left: InvalidData (2), NoRoom (13), NoDiscriminator (14)
pub data Allowed : Refusal → Type 0 where
  bad_data : Allowed InvalidData
  no_room_law : Allowed NoRoom
  no_discriminator : Allowed NoDiscriminator

-- rows of which R holds, or too few bytes, or a refusal that is allowed
abbrev pub Settles : (List Row → Type 0) → Outcome → Type 0
Settles R = Ends R Allowed

-- ---- a value that opens nothing

rowed_settles : {R : List Row → Type 0} (k : ℕ) (c : Cursor) (r : Row) → R (r ∷ []) → Settles R (rowed k c r)
unfolding rowed
rowed_settles k c r h = ends_room k no_room_law (finished h)

boolean_settles : {R : List Row → Type 0} (id k : ℕ) (v : Boolean) → ((a b : ℕ) (b' : Bool) (c : Cursor) → v ≡ Ok (b', c) → in_range 1 a b ≡ true → R (row 1 id a b (place_before 1 c.pos) ∷ []))
    → Settles R (on_boolean id k v)
unfolding on_boolean bool_word in_range
boolean_settles id k (Ok (true, c)) r = rowed_settles k c _ (r _ _ true c refl refl)
boolean_settles id k (Ok (false, c)) r = rowed_settles k c _ (r _ _ false c refl refl)
boolean_settles id k (Err unread.Bad) r = broken bad_data
boolean_settles id k (Err (unread.Short x)) r = wanting

float128_settles : {R : List Row → Type 0} (id k : ℕ) (n : Number) → ((v : ℕ) (d : Cursor) → n ≡ Ok (v, d) → v < 256 ^ 16)
    → ((a b v : ℕ) (d : Cursor) → n ≡ Ok (v, d) → in_range 11 a b ≡ true → R (row 11 id a b (place_before 16 d.pos) ∷ [])) → Settles R (on_float128 id k (halves_of n))
unfolding on_float128 halves_of
float128_settles id k (Ok (v, c)) small r = rowed_settles k c _ (r _ _ v c refl (halves_range v (small v c refl)))
float128_settles id k (Err x) small r = wanting

number_settles : {R : List Row → Type 0} (kind id k : ℕ) (n : Number) → ((v : ℕ) (d : Cursor) → n ≡ Ok (v, d) → in_range (stored_of kind) (word_of kind v) 0 ≡ true)
    → ((a b v : ℕ) (d : Cursor) → n ≡ Ok (v, d) → in_range (stored_of kind) a b ≡ true → R (row (stored_of kind) id a b (place_before (align_of kind) d.pos) ∷ [])) → Settles R (on_number kind id k n)
unfolding on_number
number_settles kind id k (Ok (v, c)) range r = rowed_settles k c _ (r _ _ v c refl (range v c refl))
number_settles kind id k (Err x) range r = wanting

text_settles : {R : List Row → Type 0} (kind id k : ℕ) (v : Text) → ((start n : ℕ) (c : Cursor) → v ≡ Ok (start, n, c) → R (row kind id start n (place_before 4 start) ∷ [])) → Settles R (on_text kind id k v)
unfolding on_text
text_settles kind id k (Ok (start, n, c)) r = rowed_settles k c _ (r start n c refl)
text_settles kind id k (Err unread.Bad) r = broken bad_data
text_settles kind id k (Err (unread.Short x)) r = wanting

-- a boolean's byte, and where the reading then stands
boolean_inv : (n : Number) (v : Bool) (d : Cursor) → on_byte n ≡ Ok (v, d) → (x : ℕ) × (n ≡ Ok (x, d))
unfolding on_byte boolean_in
boolean_inv (Err x) v d e = absurd (let z : ◌≡◌ {A = ℕ} 0 1 = cc in omega arith)
boolean_inv (Ok (x, c)) v d e = (x, ap (λ (y : Cursor). Ok (x, y)) (go (eqb x 0) (eqb x 1) e))
  where
    place : (b : Bool) → ◌≡◌ {A = Boolean} (Ok (b, c)) (Ok (v, d)) → c ≡ d
    place b e = let p : ◌≡◌ {A = Bool × Cursor} (b, c) (v, d) = cc in ap (λ (x : Bool × Cursor). x.1) p

    go : (p q : Bool) → pick {A = Boolean} p (Ok (false, c)) (pick {A = Boolean} q (Ok (true, c)) (Err unread.Bad)) ≡ Ok (v, d) → c ≡ d
    go true q e = place false e
    go false true e = place true e
    go false false e = absurd (let z : ◌≡◌ {A = ℕ} 0 1 = cc in omega arith)

-- what was read ends inside the data, so it begins there
module _ (s : List ℕ) (set : Settings) where
  number_placed : (c : Cursor) (w v : ℕ) (d : Cursor) → read_number s set c w ≡ Ok (v, d) → InData s (place_before w d.pos)
  unfolding place_before
  number_placed c w v d g = omega (arith, (read_inv s set c w v d g).inside)

  boolean_placed : (c : Cursor) (v : Bool) (d : Cursor) → read_boolean s set c ≡ Ok (v, d) → InData s (place_before 1 d.pos)
  unfolding read_boolean
  boolean_placed c v d g = let n = boolean_inv (read_number s set c 1) v d g in number_placed c 1 n.0 d n.1

  text_placed : (start n size : ℕ) → Inside s start n size → InData s (place_before 4 start)
  unfolding place_before
  text_placed start n size i = omega arith

-- a kind that is stored as it is
own_kind : (n : ℕ) (kind : ℕ) → stored_of n ≡ n → eqb kind n ≡ true → stored_of kind ≡ n
own_kind n kind s e = rw (eqb-true kind n e) s

module _ {R : List Row → Type 0} (s : List ℕ) (bytes : AreBytes s) (set : Settings) (kind id : ℕ) where
  -- by what kind it is read as: a number, or a text that lies inside the data
  pub scalar_settles : (c : Cursor) (k : ℕ) → readable kind ≡ true
      → ((a b p : ℕ) → (kind ≡ 16 → ⊥) → (kind ≡ 17 → ⊥) → in_range (stored_of kind) a b ≡ true → InData s p → R (row (stored_of kind) id a b p ∷ []))
      → ((start n p : ℕ) → kind ≡ 16 → Inside s start n 1 → InData s p → R (row 16 id start n p ∷ []))
      → ((start n p : ℕ) → kind ≡ 17 → Inside s start n 2 → InData s p → R (row 17 id start n p ∷ []))
      → Settles R (scalar_of s set kind id c k)
  unfolding scalar_of stored_of read_float128
  scalar_settles c k h r r8 r16 =
      let F : Outcome → Type 0 = Settles R in
      by_test F (eqb kind 1) (λ e. boolean_settles id k (read_boolean s set c) (λ a b v d g i. rw (own_kind 1 kind refl e) at (r a b _ (other 1 16 e tt) (other 1 17 e tt) (rw (own_kind 1 kind refl e) i) (boolean_placed s set c v d g)))) (λ n1.
      by_test F (eqb kind 11) (λ e. float128_settles id k (read_number s set c 16) (number_below s bytes set c 16) (λ a b v d g i. rw (own_kind 11 kind refl e) at (r a b _ (other 11 16 e tt) (other 11 17 e tt) (rw (own_kind 11 kind refl e) i) (number_placed s set c 16 v d g)))) (λ n11.
      by_test F (eqb kind 15) (λ e. absurd (apart (rw e at h))) (λ n15.
      by_test F (eqb kind 16)
      (λ e. text_settles 16 id k (string_type s set c) (λ start n d g. r8 start n _ (eqb-true kind 16 e) (within8 start n d c g) (text_placed s set start n 1 (within8 start n d c g)))) (λ n16.
      by_test F (eqb kind 17)
      (λ e. text_settles 17 id k (wstring_type s set c) (λ start n d g. r16 start n _ (eqb-true kind 17 e) (within16 start n d c g) (text_placed s set start n 2 (within16 start n d c g)))) (λ n17.
      by_test F (is_primitive kind) (λ e. number_settles kind id k (read_number s set c (align_of kind)) (λ v d g. number_range kind v (number_kind kind e n1 n11 n15) (number_below s bytes set c (align_of kind) v d g)) (λ a b v d g i. r a b _ (eqb-false kind 16 n16) (eqb-false kind 17 n17) i (number_placed s set c (align_of kind) v d g)))
      (λ e. absurd (apart (sym e ∙ (rw (n15, n16, n17) at h)))))))))
    where
      other : (n m : ℕ) → eqb kind n ≡ true → T (not (eqb n m)) → kind ≡ m → ⊥
      other n m e t z = absurd (clash (eqb n m) (rw (eqb-true kind n e) at (eq-eqb kind m z)) t)
        where
          clash : (b : Bool) → b ≡ true → T (not b) → ⊥
          clash true e t = t
          clash false e t = apart e

      within8 : (start n : ℕ) (d c : Cursor) → string_type s set c ≡ Ok (start, n, d) → Inside s start n 1
      within8 start n d c g = omega (arith, (string_inv s start n d set c g).0.room, (string_inv s start n d set c g).0.inside)

      within16 : (start n : ℕ) (d c : Cursor) → wstring_type s set c ≡ Ok (start, n, d) → Inside s start n 2
      within16 start n d c g = omega (arith, (wstring_inv s set start n d c g).room, (wstring_inv s set start n d c g).inside)
