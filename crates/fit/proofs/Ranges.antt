-- A number that is read from bytes has a word in the range of its kind. Assumes nothing.
use Rattle.std.specs.Prelude.{Err, Ok}
use Prim.Native.Nat.{ℕ, zero, suc, ◌+◌, ◌-◌, ◌*◌, ◌/◌, ◌%◌, ◌^◌, ◌≤◌, ◌<◌}
use mathlib.Core.Path.{◌≡◌, refl}
use mathlib.Core.Bool.{Bool, true, false, not, ◌||◌}
use mathlib.Core.List.{List, [], ◌∷◌}
use native.Mathlib.Omega.{arith}
use native.Mathlib.Nat.{add-zero, zero-add, mod-lt, div-lt_iff_lt-mul}
use lib.Dec.{eqb, leb, ltb, lit<}
use lib.ListN.{get_or}
use borrow.Author.Tests.{eqb-true, leb-true, le-leb, lt-ltb, ltb-false, not-true}
use Rattle.ground.specs.Choice.{pick, both, every, among}
use Rattle.ground.proofs.Tests.{both_second}
use Rattle.wire.specs.declared.settings.ByteOrder.{ByteOrder}
use Rattle.wire.specs.declared.settings.ByteOrder.TheVariants.{BigEndian, LittleEndian}
use Rattle.wire.specs.declared.settings.Settings.{Settings}
use Rattle.wire.specs.declared.cursor.Cursor.{Cursor}
use Rattle.wire.specs.Place.{Place, seek_to, align_to}
use Rattle.wire.proofs.Numbers.{got_inv}
use Rattle.wire.specs.Number.{number_at, on_bytes, number_here, on_aligned, read_number}
use Rattle.wire.specs.Signed.{extended}
use Rattle.kinds.specs.Kinds.{align_of, stored_of, is_primitive, is_signed}
use Rattle.values.specs.Scalar.{word_of}
use Rattle.shape.specs.Range.{is_extended, in_range}
use Rattle.shape.proofs.KindTests.{among_each}
use Rattle.fit.specs.Demand3.{AreBytes}
use Rattle.fit.proofs.KindTests.{kind_each}

-- ---- w bytes spell a number below 256 ^ w

module _ (s : List ℕ) (bytes : AreBytes s) where
  pub below : (o : ByteOrder) (w k v p : ℕ) → v < 256 ^ k → number_at o v s p w < 256 ^ (k + w)
  unfolding number_at
  below BigEndian zero k v p h = rw add-zero h
  below BigEndian (suc w) k v p h =
      let e : k + suc w ≡ suc k + w = omega arith in
      rw e (below BigEndian w (suc k) (v * 256 + get_or s p 0) (p + 1) (omega (arith, bytes p)))
  below LittleEndian zero k v p h = rw add-zero h
  below LittleEndian (suc w) k v p h =
      let e : k + suc w ≡ suc k + w = omega arith in
      rw e (below LittleEndian w (suc k) (v * 256 + get_or s (p + w) 0) p (omega (arith, bytes (p + w))))

  pub number_below : (set : Settings) (c : Cursor) (w v : ℕ) (d : Cursor) → read_number s set c w ≡ Ok (v, d) → v < 256 ^ w
  unfolding read_number on_aligned number_here on_bytes
  number_below set c w v d = aligned (align_to s set.version c w)
    where
      got : (p : ℕ) (q : Place) → on_bytes s set.order p w q ≡ Ok (v, d) → v < 256 ^ w
      got p (Err x) e = absurd (let z : ◌≡◌ {A = ℕ} 0 1 = cc in omega arith)
      got p (Ok y) e =
          let z : number_at set.order 0 s p w ≡ v = (got_inv e).0 in
          rw (zero-add, z) at (below set.order w 0 0 p (lit< tt))

      aligned : (q : Place) → on_aligned s set.order w q ≡ Ok (v, d) → v < 256 ^ w
      aligned (Err x) e = absurd (let z : ◌≡◌ {A = ℕ} 0 1 = cc in omega arith)
      aligned (Ok y) e = got y.pos (seek_to s y w) e

-- ---- the word of a number

-- every primitive but BOOLEAN, FLOAT128 and CHAR16: the numbers of up to 8 bytes
abbrev numbers : List ℕ
numbers = 2 ∷ 3 ∷ 4 ∷ 5 ∷ 6 ∷ 7 ∷ 8 ∷ 9 ∷ 10 ∷ 12 ∷ 13 ∷ 14 ∷ []

pub number_kind : (k : ℕ) → is_primitive k ≡ true → eqb k 1 ≡ false → eqb k 11 ≡ false → eqb k 15 ≡ false → among numbers k ≡ true
unfolding is_primitive
number_kind k p n1 n11 n15 =
    let high : k ≤ 15 = leb-true k 15 (both_second (leb 1 k) (leb k 15) p) in
    rw (n1, n11, n15, p) at (kind_each (λ n. pick (eqb n 1) true (pick (eqb n 11) true (pick (eqb n 15) true (pick (both (leb 1 n) (leb n 15)) (among numbers n) true)))) tt k (omega arith))

or_second : (a b : Bool) → b ≡ true → (a || b) ≡ true
or_second true b e = refl
or_second false b e = e

-- extended, of the 256 ^ w numbers of w bytes the upper half stands as far below 2 ^ 64
extended_range : (w v : ℕ) → 256 ^ w ≡ 256 ^ w / 2 + 256 ^ w / 2 → 256 ^ w ≤ 2 ^ 64 → v < 256 ^ w → is_extended w (extended w v) ≡ true
unfolding is_extended extended
extended_range w v even small h = go (ltb v (256 ^ w / 2)) refl
  where
    a : ℕ
    a = v + (2 ^ 64 - 256 ^ w)

    go : (b : Bool) → ltb v (256 ^ w / 2) ≡ b → (ltb (pick b v a) (256 ^ w / 2) || both (leb (2 ^ 64 - 256 ^ w / 2) (pick b v a)) (ltb (pick b v a) (2 ^ 64))) ≡ true
    go true e = rw e
    go false e =
        let low : 256 ^ w / 2 ≤ v = ltb-false v (256 ^ w / 2) e in
        or_second (ltb a (256 ^ w / 2)) _ (rw (le-leb (2 ^ 64 - 256 ^ w / 2) a (omega arith), lt-ltb a (2 ^ 64) (omega arith)))

-- of one of these kinds: stored as a kind that is signed where it is, and as wide
record Plain (k : ℕ) : Type 0 where
  no_boolean : eqb (stored_of k) 1 ≡ false
  no_float128 : eqb (stored_of k) 11 ≡ false
  signed : pick (is_signed k) (is_signed (stored_of k)) (not (is_signed (stored_of k))) ≡ true
  wide : align_of (stored_of k) ≡ align_of k
  even : 256 ^ align_of k ≡ 256 ^ align_of k / 2 + 256 ^ align_of k / 2
  word : 256 ^ align_of k ≤ 2 ^ 64

plain_number : (k : ℕ) → among numbers k ≡ true → Plain k
unfolding stored_of is_signed align_of every
plain_number k e =
    record {
      no_boolean = not-true (eqb (stored_of k) 1) (among_each (λ n. not (eqb (stored_of n) 1)) numbers tt k e);
      no_float128 = not-true (eqb (stored_of k) 11) (among_each (λ n. not (eqb (stored_of n) 11)) numbers tt k e);
      signed = among_each (λ n. pick (is_signed n) (is_signed (stored_of n)) (not (is_signed (stored_of n)))) numbers tt k e;
      wide = eqb-true (align_of (stored_of k)) (align_of k) (among_each (λ n. eqb (align_of (stored_of n)) (align_of n)) numbers tt k e);
      even = eqb-true (256 ^ align_of k) (256 ^ align_of k / 2 + 256 ^ align_of k / 2) (among_each (λ n. eqb (256 ^ align_of n) (256 ^ align_of n / 2 + 256 ^ align_of n / 2)) numbers tt k e);
      word = leb-true (256 ^ align_of k) (2 ^ 64) (among_each (λ n. leb (256 ^ align_of n) (2 ^ 64)) numbers tt k e);
    }

pub number_range : (k v : ℕ) → among numbers k ≡ true → v < 256 ^ align_of k → in_range (stored_of k) (word_of k v) 0 ≡ true
unfolding in_range word_of
number_range k v e h =
    let p = plain_number k e in
    rw (p.no_boolean, p.no_float128, p.wide) (go (is_signed k) (is_signed (stored_of k)) p.signed)
  where
    go : (a b : Bool) → pick a b (not b) ≡ true → pick b (is_extended (align_of k) (pick a (extended (align_of k) v) v)) (ltb (pick a (extended (align_of k) v) v) (256 ^ align_of k)) ≡ true
    go true true q = let p = plain_number k e in extended_range (align_of k) v p.even p.word h
    go true false q = absurd (let z : ◌≡◌ {A = ℕ} 0 1 = cc in omega arith)
    go false true q = absurd (let z : ◌≡◌ {A = ℕ} 0 1 = cc in omega arith)
    go false false q = lt-ltb v (256 ^ align_of k) h

-- FLOAT128 by its halves
pub halves_range : (v : ℕ) → v < 256 ^ 16 → in_range 11 (v % 2 ^ 64) (v / 2 ^ 64) ≡ true
unfolding in_range
halves_range v h =
    let low : v % 2 ^ 64 < 2 ^ 64 = mod-lt v (lit< tt) in
    let high : v / 2 ^ 64 < 2 ^ 64 = (div-lt_iff_lt-mul {k = 2 ^ 64} {x = v} {y = 2 ^ 64} (lit< tt)).1 h in
    rw (lt-ltb (v % 2 ^ 64) (2 ^ 64) low, lt-ltb (v / 2 ^ 64) (2 ^ 64) high)
