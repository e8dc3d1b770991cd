-- Laws of the number that bytes spell: one digit more, and a number of two parts. Assumes nothing.
use Rattle.std.proofs.Math.ListN.{get_or-append}
use Rattle.std.proofs.Math.Seq.{get_or-append_seam}
use Rattle.std.proofs.lemmas.List.{get_or-take, get_or-drop, get_or_past}
use Rattle.std.proofs.Common.{Bool, true, false, ltb, ltb-true, ltb-false, take, drop, length-take, length-drop, [], ◌∷◌, ◌++◌, length, length-append, add-one, ◌≡◌, ℕ, zero, suc, ◌+◌, ◌-◌, ◌*◌, ◌/◌, ◌%◌, ◌^◌, ◌<◌, ◌≤◌, List, get_or, sym, refl, ap, ◌∙◌, add-zero, mod-eq_of_lt, mul_assoc, add-mul, zero-add, arith, lit<}
use native.Mathlib.Nat.{pow-le-pow_right, sub_self, pow-succ', mul-add-mod_self_right, mul-add-div_right, div-eq_of_lt}
use Rattle.wire.specs.Number.{number_at}
use Rattle.wire.specs.Code.Reads.{Bytes}
use Rattle.wire.specs.declared.settings.ByteOrder.{ByteOrder}
use Rattle.wire.specs.declared.settings.ByteOrder.TheVariants.{BigEndian, LittleEndian}

-- one byte more below what v holds: it stays below 256 to the number of bytes, and up to 8 bytes it fits a word
pub more_below : (n v b : ℕ) → v < 256 ^ n → b < 256 → v * 256 + b < 256 ^ (n + 1)
more_below n v b hv hb = rw add-one (omega arith)

pub more_fits : (n v b : ℕ) → n < 8 → v < 256 ^ n → b < 256 → v * 256 + b < 2 ^ 64
more_fits n v b h hv hb =
    let k : suc n ≤ 8 = omega arith in
    omega (arith, pow-le-pow_right {n = 256} (lit< tt) {i = suc n} {j = 8} k)

-- the w bytes from p on, as a part of their own
module _ (s : List ℕ) (p w : ℕ) (inside : p + w ≤ length s) where
  pub part_long : length (take (p + w - p) (drop p s)) ≡ w
  part_long = simp (length-take, length-drop) (omega arith)

  pub part_at : (i : ℕ) → i < length (take (p + w - p) (drop p s)) → get_or (take (p + w - p) (drop p s)) i 0 ≡ get_or s (p + i) 0
  part_at i h = get_or-take (p + w - p) (drop p s) i 0 (omega (arith, part_long)) ∙ get_or-drop p s i 0

-- what stands before and what is taken is made of bytes too
take_bytes : (n : ℕ) (s : List ℕ) → Bytes s → Bytes (take n s)
take_bytes n s bytes k = go (ltb k n) refl
  where
    go : (t : Bool) → ltb k n ≡ t → get_or (take n s) k 0 < 256
    go true h = rw (get_or-take n s k 0 (ltb-true k n h)) (bytes k)
    go false h = rw (get_or_past (take n s) k 0 (let l = length-take n s in let g = ltb-false k n h in omega arith)) (lit< tt)

before_bytes : (r : List ℕ) (b : ℕ) → Bytes (r ++ b ∷ []) → Bytes r
before_bytes r b bytes k = go (ltb k (length r)) refl
  where
    go : (t : Bool) → ltb k (length r) ≡ t → get_or r k 0 < 256
    go true h = rw (get_or-append r (b ∷ []) 0 k (ltb-true k (length r) h)) at (bytes k)
    go false h = rw (get_or_past r k 0 (ltb-false k (length r) h)) (lit< tt)

-- only the bytes count, and not where they stand
pub number_same : (o : ByteOrder) (w v : ℕ) (s t : List ℕ) (p q : ℕ) → ((k : ℕ) → k < w → get_or s (p + k) 0 ≡ get_or t (q + k) 0) → number_at o v s p w ≡ number_at o v t q w
unfolding number_at
number_same BigEndian zero v s t p q e = refl
number_same BigEndian (suc w) v s t p q e =
    let first : get_or s p 0 ≡ get_or t q 0 = rw (add-zero, add-zero) at (e 0 (omega arith)) in
    let rest : (k : ℕ) → k < w → get_or s (p + 1 + k) 0 ≡ get_or t (q + 1 + k) 0 = λ k h. let x : p + 1 + k ≡ p + suc k = omega arith in let y : q + 1 + k ≡ q + suc k = omega arith in rw (x, y) (e (suc k) (omega arith)) in
    rw first (number_same BigEndian w (v * 256 + get_or t q 0) s t (p + 1) (q + 1) rest)
number_same LittleEndian zero v s t p q e = refl
number_same LittleEndian (suc w) v s t p q e =
    rw (e w (omega arith)) (number_same LittleEndian w (v * 256 + get_or t (q + w) 0) s t p q (λ k h. e k (omega arith)))

-- the first of the bytes from p on, the others still to come
pub be_step : (v : ℕ) (s : List ℕ) (p i w b : ℕ) → i < w → b ≡ get_or s (p + i) 0 → number_at BigEndian (v * 256 + b) s (p + (i + 1)) (w - (i + 1)) ≡ number_at BigEndian v s (p + i) (w - i)
unfolding number_at
be_step v s p i w b h e =
    let k : w - i ≡ suc (w - (i + 1)) = omega arith in
    let q : p + i + 1 ≡ p + (i + 1) = omega arith in
    rw (k, e, ← q)

-- the last of these bytes, the others still to come
pub le_step : (v : ℕ) (s r : List ℕ) (b : ℕ) → s ≡ r ++ b ∷ [] → number_at LittleEndian (v * 256 + b) r 0 (length r) ≡ number_at LittleEndian v s 0 (length s)
unfolding number_at
le_step v s r b e =
    let k : length s ≡ suc (length r) = rw e (length-append r (b ∷ []) ∙ add-one (length r)) in
    let last : get_or s (0 + length r) 0 ≡ b = rw (e, zero-add) (get_or-append_seam r b [] 0) in
    let front : (j : ℕ) → j < length r → get_or r (0 + j) 0 ≡ get_or s (0 + j) 0 = λ j h. rw (e, zero-add) (sym (get_or-append r (b ∷ []) 0 j h)) in
    rw k (ap (λ (x : ℕ). number_at LittleEndian (v * 256 + x) r 0 (length r)) (sym last) ∙ number_same LittleEndian (length r) (v * 256 + get_or s (0 + length r) 0) r s 0 0 front)

-- no byte is still to come
pub number_end : (o : ByteOrder) (v : ℕ) (s : List ℕ) (p n r : ℕ) → n ≡ 0 → number_at o v s p n ≡ r → v ≡ r
unfolding number_at
number_end BigEndian v s p zero r z e = e
number_end LittleEndian v s p zero r z e = e
number_end o v s p (suc n) r z e = absurd (omega arith)

pub below_end : (v n w : ℕ) → n ≡ w → v < 256 ^ n → v < 256 ^ w
below_end v n w e h = rw e at h

-- what is left of the w bytes from p on, to be read from the last to the first, v being what was read
pub record Left (s : List ℕ) (p w v : ℕ) (rest : List ℕ) : Type 0 where
  pub reads : number_at LittleEndian v rest 0 (length rest) ≡ number_at LittleEndian 0 s p w
  pub left : length rest ≤ w
  pub below : v < 256 ^ (w - length rest)
  pub bytes : Bytes rest

module _ (s : List ℕ) (p w : ℕ) (fits : w ≤ 8) where
  pub left_all : p + w ≤ length s → Bytes s → (rest : List ℕ) → rest ≡ take (p + w - p) (drop p s) → Left s p w 0 rest
  left_all inside bytes rest e =
      let long : length rest ≡ w = rw e (part_long s p w inside) in
      let at : (k : ℕ) → k < w → get_or rest (0 + k) 0 ≡ get_or s (p + k) 0 = λ k h. rw (e, zero-add) (part_at s p w inside k (omega (arith, part_long s p w inside))) in
      record {
        reads = rw long (number_same LittleEndian w 0 rest s 0 p at);
        left = omega arith;
        below = rw (long, sub_self w) (lit< tt);
        bytes = λ k. rw e (take_bytes (p + w - p) (drop p s) (λ i. rw get_or-drop (bytes (p + i))) k);
      }

  module _ (v b : ℕ) (rest r : List ℕ) (l : Left s p w v rest) (e : rest ≡ r ++ b ∷ []) where
    one_more : length rest ≡ length r + 1
    one_more = rw e (length-append r (b ∷ []))

    digit : b < 256
    digit = let x : get_or rest (length r) 0 ≡ b = rw e (get_or-append_seam r b [] 0) in rw x at (l.bytes (length r))

    pub left_fits : v * 256 + b < 2 ^ 64
    left_fits = more_fits (w - length rest) v b (omega (arith, one_more, l.left)) l.below digit

    pub left_next : Left s p w (v * 256 + b) r
    left_next =
        let n : w - length r ≡ w - length rest + 1 = omega (arith, one_more, l.left) in
        record {
          reads = le_step v rest r b e ∙ l.reads;
          left = omega (arith, one_more, l.left);
          below = rw n (more_below (w - length rest) v b l.below digit);
          bytes = λ k. before_bytes r b (rw e at l.bytes) k;
        }

  pub left_none : (v : ℕ) (rest : List ℕ) → Left s p w v rest → length rest ≡ 0 → (v ≡ number_at LittleEndian 0 s p w) × (v < 256 ^ w)
  left_none v rest l z = (number_end LittleEndian v rest 0 (length rest) _ z l.reads, below_end v (w - length rest) w (omega arith) l.below)

-- a digit below what v holds, and below nothing
carried : (w v b m n : ℕ) → n ≡ (0 * 256 + b) * 256 ^ w + m → (v * 256 + b) * 256 ^ w + m ≡ v * 256 ^ suc w + n
carried w v b m n e =
    rw (e, add-mul (v * 256) b (256 ^ w), mul_assoc v 256 (256 ^ w), pow-succ' 256 w) (let z : 0 * 256 + b ≡ b = omega arith in rw z (omega arith))

-- what v holds stands above the w bytes' own number
pub number_above : (o : ByteOrder) (w v : ℕ) (s : List ℕ) (p : ℕ) → number_at o v s p w ≡ v * 256 ^ w + number_at o 0 s p w
unfolding number_at
number_above BigEndian zero v s p = omega arith
number_above BigEndian (suc w) v s p =
    number_above BigEndian w (v * 256 + get_or s p 0) s (p + 1) ∙ carried w v (get_or s p 0) _ _ (number_above BigEndian w (0 * 256 + get_or s p 0) s (p + 1))
number_above LittleEndian zero v s p = omega arith
number_above LittleEndian (suc w) v s p =
    number_above LittleEndian w (v * 256 + get_or s (p + w) 0) s p ∙ carried w v (get_or s (p + w) 0) _ _ (number_above LittleEndian w (0 * 256 + get_or s (p + w) 0) s p)

-- the first a bytes of a + b stand above the rest
pub be_parts : (a b v : ℕ) (s : List ℕ) (p : ℕ) → number_at BigEndian v s p (a + b) ≡ number_at BigEndian (number_at BigEndian v s p a) s (p + a) b
unfolding number_at
be_parts zero b v s p = simp (zero-add, add-zero)
be_parts (suc a) b v s p =
    let e : suc a + b ≡ suc (a + b) = omega arith in
    let f : p + 1 + a ≡ p + suc a = omega arith in
    rw (e, ← f) (be_parts a b (v * 256 + get_or s p 0) s (p + 1))

-- the last b bytes of a + b stand above the rest
pub le_parts : (a b v : ℕ) (s : List ℕ) (p : ℕ) → number_at LittleEndian v s p (a + b) ≡ number_at LittleEndian (number_at LittleEndian v s (p + a) b) s p a
unfolding number_at
le_parts a zero v s p = simp add-zero
le_parts a (suc b) v s p =
    let e : a + suc b ≡ suc (a + b) = omega arith in
    let f : p + a + b ≡ p + (a + b) = omega arith in
    rw (e, f) (le_parts a b (v * 256 + get_or s (p + (a + b)) 0) s p)

pub one_byte : (o : ByteOrder) (s : List ℕ) (p : ℕ) → get_or s p 0 ≡ number_at o 0 s p 1
unfolding number_at
one_byte BigEndian s p = omega arith
one_byte LittleEndian s p = rw (add-zero p) (omega arith)

-- a number of 16 bytes by its two words, and these back from it
pub be_words : (s : List ℕ) (p high low : ℕ) → high ≡ number_at BigEndian 0 s p 8 → low ≡ number_at BigEndian 0 s (p + 8) 8 → high * 2 ^ 64 + low ≡ number_at BigEndian 0 s p 16
be_words s p high low e f = rw (e, f) (sym (be_parts 8 8 0 s p ∙ number_above BigEndian 8 (number_at BigEndian 0 s p 8) s (p + 8)))

pub le_words : (s : List ℕ) (p low high : ℕ) → low ≡ number_at LittleEndian 0 s p 8 → high ≡ number_at LittleEndian 0 s (p + 8) 8 → high * 2 ^ 64 + low ≡ number_at LittleEndian 0 s p 16
le_words s p low high e f = rw (e, f) (sym (le_parts 8 8 0 s p ∙ number_above LittleEndian 8 (number_at LittleEndian 0 s (p + 8) 8) s p))

pub low_word : (high low : ℕ) → low < 2 ^ 64 → (high * 2 ^ 64 + low) % 2 ^ 64 ≡ low
low_word high low h = mul-add-mod_self_right high (2 ^ 64) low ∙ mod-eq_of_lt h

pub high_word : (high low : ℕ) → low < 2 ^ 64 → (high * 2 ^ 64 + low) / 2 ^ 64 ≡ high
high_word high low h = mul-add-div_right {m = 2 ^ 64} (lit< tt) high low ∙ rw (div-eq_of_lt h) (omega arith)
