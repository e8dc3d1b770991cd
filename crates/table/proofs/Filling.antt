-- Laws of rows in a table. Assumes nothing.
use mathlib.Core.Path.{◌≡◌, refl, sym, ap, ◌∙◌}
use mathlib.Core.List.{List, [], ◌∷◌, ◌++◌, append_assoc}
use Prim.Native.Nat.{ℕ, zero, suc, ◌+◌, ◌-◌, ◌*◌, ◌≤◌, ◌<◌}
use native.Mathlib.Nat.{mul-add, add-zero}
use native.Mathlib.Numerals.{towards_suc}
use native.Mathlib.Omega.{arith}
use lib.ListN.{length, take, drop, set, get_or, length-append, length-take, length-drop}
use lib.Seq.{take-take, drop-drop, take-add, take-append-add, take_at, drop_at, sets-eq, set-get_or, get_or-set_other, length-take-le, get_or-take, get_or-drop}
use mathlib.Core.Bool.{Bool, true, false}
use borrow.Author.Tests.{le-leb, lt-leb, leb-true, leb-false}
use Rattle.table.specs.declared.rows.Row.{Row}
use Rattle.table.specs.Rows.{row, width, words_of, words, capacity, room, no_room, row_at}
use Rattle.table.specs.Code.Rows.{put_row, counting, Filled}

-- ---- what is asked of a row's form: that each row has so many words. The laws below use no more of it, but for those that write and read single words
length_words_of : (r : Row) → length (words_of r) ≡ width
unfolding words_of
length_words_of r = refl

pub length_words : (rs : List Row) → length (words rs) ≡ width * length rs
unfolding words
length_words [] = refl
length_words (r ∷ rs) = rw (length-append, length_words_of) (omega (arith, length_words rs))

pub words_append : (rs ss : List Row) → words (rs ++ ss) ≡ words rs ++ words ss
unfolding words
words_append [] ss = refl
words_append (r ∷ rs) ss = ap (λ (l : List ℕ). words_of r ++ l) (words_append rs ss) ∙ sym (append_assoc (words_of r) (words rs) (words ss))

-- what two lists agree on up to n + m they agree on from n for m
drop_take : {A : Type 0} (n m : ℕ) (l : List A) → take m (drop n l) ≡ drop n (take (n + m) l)
drop_take zero m l = rw native.Mathlib.Nat.zero-add
drop_take (suc n) m [] = rw (native.Mathlib.Nat.suc-add, lib.Seq.take-nil)
drop_take (suc n) m (x ∷ xs) = rw native.Mathlib.Nat.suc-add (drop_take n m xs)

below_agree : {A : Type 0} (n m : ℕ) (l k : List A) → take (n + m) l ≡ take (n + m) k → take n l ≡ take n k
below_agree n m l k e =
    let h : n ≤ n + m = omega arith in
    sym (take-take n (n + m) l h) ∙ ap (take n) e ∙ take-take n (n + m) k h

above_agree : {A : Type 0} (n m : ℕ) (l k : List A) → take (n + m) l ≡ take (n + m) k → take m (drop n l) ≡ take m (drop n k)
above_agree n m l k e = drop_take n m l ∙ ap (drop n) e ∙ sym (drop_take n m k)

-- nothing written
pub filled_none : (t : List ℕ) (n : ℕ) → Filled t t n []
unfolding words
filled_none t n = record { long = refl; kept = refl; rows = refl }

-- what stood below n still does, whatever was written above
pub filled_kept : {a b : List ℕ} {n : ℕ} {rs : List Row} → Filled a b n rs → Filled a b n []
unfolding words
filled_kept f = record { long = f.long; kept = f.kept; rows = refl }

-- what was kept below n + 1 is kept below n
pub filled_below : {a b : List ℕ} {n : ℕ} {rs : List Row} → Filled a b (n + 1) rs → Filled a b n []
unfolding words
filled_below {a} {b} {n} f =
    let agree : take (width * n + width) b ≡ take (width * n + width) a = rw mul-add at f.kept in
    record { long = f.long; kept = below_agree (width * n) width b a agree; rows = refl }

-- rows, and then rows after them
pub filled_then : {a b c : List ℕ} {n : ℕ} {rs ss : List Row} → Filled a b n rs → Filled b c (n + length rs) ss → Filled a c n (rs ++ ss)
filled_then {a} {b} {c} {n} {rs} {ss} f g =
    let k : ℕ = width * length rs in
    let agree : take (width * n + width * length rs) c ≡ take (width * n + width * length rs) b = rw mul-add at g.kept in
    record {
      long = g.long ∙ f.long;
      kept = below_agree (width * n) (width * length rs) c b agree ∙ f.kept;
      rows =
          ap (λ (j : ℕ). take j (drop (width * n) c)) (ap (λ (j : ℕ). width * j) (length-append rs ss) ∙ mul-add width (length rs) (length ss))
          ∙ take-add (width * length rs) (width * length ss) (drop (width * n) c)
          ∙ ap (λ (l : List ℕ). l ++ take (width * length ss) (drop (width * length rs) (drop (width * n) c)))
          (above_agree (width * n) (width * length rs) c b agree ∙ f.rows)
          ∙ ap (λ (l : List ℕ). words rs ++ take (width * length ss) l)
          (drop-drop (width * length rs) (width * n) c ∙ ap (λ (j : ℕ). drop j c) (sym (mul-add width n (length rs))))
          ∙ ap (λ (l : List ℕ). words rs ++ l) g.rows
          ∙ sym (words_append rs ss);
    }

-- rows written over what was written from the same place on
pub filled_over : {a b c : List ℕ} {n : ℕ} {rs ss : List Row} → Filled a b n rs → Filled b c n ss → Filled a c n ss
filled_over f g = record { long = g.long ∙ f.long; kept = g.kept ∙ f.kept; rows = g.rows }

pub length_put_row : (t : List ℕ) (n : ℕ) (r : Row) → width * n + width ≤ length t → length (put_row t n r) ≡ length t
unfolding put_row
length_put_row t n r h = simp (length-append, length-take, length-drop, length_words_of) (omega arith)

-- what the stores of a row's words leave
pub put_row_law : (t : List ℕ) (n : ℕ) (r : Row) → width * n + width ≤ length t
    → set (set (set (set (set t (width * n) r.kind) (width * n + 1) r.id) (width * n + 2) r.a) (width * n + 3) r.b) (width * n + 4) r.place ≡ put_row t n r
unfolding put_row words_of
put_row_law t n r h =
    simp towards_suc
    (simp towards_suc at
    (sets-eq (r.kind ∷ r.id ∷ r.a ∷ r.b ∷ r.place ∷ []) t (width * n) h
    ∙ append_assoc (take (width * n) t) (r.kind ∷ r.id ∷ r.a ∷ r.b ∷ r.place ∷ []) (drop (width * n + width) t)))

-- a row at n, below rows that stand from n + 1 on
pub filled_row : {a b : List ℕ} {n : ℕ} {rs : List Row} (r : Row) → width * n + width ≤ length a → Filled a b (n + 1) rs → Filled a (put_row b n r) n (r ∷ rs)
unfolding put_row words
filled_row {a} {b} {n} {rs} r h f =
    let hb : width * n + width ≤ length b = omega (arith, f.long) in
    let e : length (take (width * n) b) ≡ width * n = length-take-le (width * n) b (omega arith) in
    let agree : take (width * n + width) b ≡ take (width * n + width) a = rw mul-add at f.kept in
    let below : take (width * n) b ≡ take (width * n) a = below_agree (width * n) width b a agree in
    let above : take (width * length rs) (drop (width * n + width) b) ≡ words rs = rw mul-add at f.rows in
    record {
      long = length_put_row b n r hb ∙ f.long;
      kept = take_at (take (width * n) b) _ (width * n) e ∙ below;
      rows =
          ap (take (width * suc (length rs))) (drop_at (take (width * n) b) (words_of r ++ drop (width * n + width) b) (width * n) e)
          ∙ ap (λ (j : ℕ). take j (words_of r ++ drop (width * n + width) b)) one_more
          ∙ take-append-add (words_of r) (drop (width * n + width) b) (width * length rs)
          ∙ ap (λ (l : List ℕ). words_of r ++ l) above;
    }
  where
    one_more : width * suc (length rs) ≡ length (words_of r) + width * length rs
    one_more = omega (arith, length_words_of r)

-- one row
pub filled_one : (t : List ℕ) (n : ℕ) (r : Row) → width * n + width ≤ length t → Filled t (put_row t n r) n (r ∷ [])
filled_one t n r h = filled_row r h (filled_none t (n + 1))

-- where there is room, and where there is none
module _ (t : List ℕ) (n : ℕ) (f : Bool) (is : f ≡ no_room t n) where
  pub full_none : f ≡ true → room t n ≡ 0
  unfolding room no_room
  full_none e = omega (arith, leb-true (capacity t) n (sym is ∙ e))

  below : f ≡ false → n < capacity t
  unfolding no_room
  below e = leb-false (capacity t) n (sym is ∙ e)

  pub full_more : f ≡ false → room t n ≡ suc (room t (n + 1))
  unfolding room
  full_more e = omega (arith, below e)

  -- a row that has a place has all its words
  pub full_fits : f ≡ false → width * n + width ≤ length t
  full_fits e = omega (arith, below e)

pub room_used : (a b : List ℕ) (n k : ℕ) → length b ≡ length a → room a n - k ≡ room b (n + k)
unfolding room
room_used a b n k e = omega arith

-- the rows are in the table
pub filled_fits : {a b : List ℕ} {n : ℕ} {rs : List Row} → Filled a b n rs → width * length rs ≤ length a - width * n
filled_fits {a} {b} {n} {rs} f =
    omega (arith, simp (length-take, length-drop, length_words) at (ap length f.rows), f.long)

-- reading a row back
module _ (t : List ℕ) (n : ℕ) where
  pub row_none : capacity t ≤ n → row 0 0 0 0 0 ≡ row_at t n
  unfolding row_at no_room
  row_none h = rw (le-leb (capacity t) n h)

  pub row_some : n < capacity t
      → row (get_or t (width * n) 0) (get_or t (width * n + 1) 0) (get_or t (width * n + 2) 0) (get_or t (width * n + 3) 0) (get_or t (width * n + 4) 0) ≡ row_at t n
  unfolding row_at no_room
  row_some h = rw (lt-leb (capacity t) n h)

-- the store of the one word that counts the rows beneath
pub put_beneath : (t : List ℕ) (n b : ℕ) → width * n + width ≤ length t → set t (width * n + 3) b ≡ put_row t n (counting (row_at t n) b)
unfolding counting
put_beneath t n b h =
    let other : width * n + 4 ≡ width * n + 3 → ⊥ = λ e. omega arith in
    let last : get_or (set t (width * n + 3) b) (width * n + 4) 0 ≡ get_or t (width * n + 4) 0 = get_or-set_other t (width * n + 3) (width * n + 4) b 0 other in
    let whole : set (set t (width * n + 3) b) (width * n + 4) (get_or t (width * n + 4) 0) ≡ set t (width * n + 3) b = ap (set (set t (width * n + 3) b) (width * n + 4)) (sym last) ∙ set-get_or (set t (width * n + 3) b) (width * n + 4) 0 in
    let all = put_row_law t n (row (get_or t (width * n) 0) (get_or t (width * n + 1) 0) (get_or t (width * n + 2) 0) b (get_or t (width * n + 4) 0)) h in
    sym whole ∙ (simp set-get_or at all) ∙ ap (λ (r : Row). put_row t n (row r.kind r.id r.a b r.place)) (row_some t n (omega arith))

-- the first of the rows that were filled in
pub filled_first : {a b : List ℕ} {n : ℕ} {r : Row} {rs : List Row} → Filled a b n (r ∷ rs) → row_at b n ≡ r
unfolding words words_of
filled_first {a} {b} {n} {r} {rs} f =
    let l : width * suc (length rs) ≤ length a - width * n = filled_fits f in
    let w0 : get_or b (width * n) 0 ≡ r.kind = rw add-zero at (word 0 (omega arith)) in
    let w1 : get_or b (width * n + 1) 0 ≡ r.id = word 1 (omega arith) in
    let w2 : get_or b (width * n + 2) 0 ≡ r.a = word 2 (omega arith) in
    let w3 : get_or b (width * n + 3) 0 ≡ r.b = word 3 (omega arith) in
    let w4 : get_or b (width * n + 4) 0 ≡ r.place = word 4 (omega arith) in
    sym (row_some b n (omega (arith, f.long))) ∙ rw (w0, w1, w2, w3, w4)
  where
    word : (k : ℕ) → k < width → get_or b (width * n + k) 0 ≡ get_or (words (r ∷ rs)) k 0
    word k h =
        let j : k < width * suc (length rs) = omega arith in
        sym (get_or-take (width * suc (length rs)) (drop (width * n) b) k 0 j ∙ get_or-drop (width * n) b k 0) ∙ ap (λ (l : List ℕ). get_or l k 0) f.rows

-- the rows after the first
pub filled_rest : {a b : List ℕ} {n : ℕ} {r : Row} {rs : List Row} → Filled a b n (r ∷ rs) → Filled b b (n + 1) rs
unfolding words
filled_rest {a} {b} {n} {r} {rs} f =
    let e : width * (n + 1) ≡ width * n + width = omega arith in
    let k : width * suc (length rs) ≡ width + width * length rs = omega arith in
    record {
      long = refl;
      kept = refl;
      rows =
          ap (λ (j : ℕ). take (width * length rs) (drop j b)) e
          ∙ ap (take (width * length rs)) (sym (drop-drop width (width * n) b))
          ∙ drop_take width (width * length rs) (drop (width * n) b)
          ∙ ap (λ (j : ℕ). drop width (take j (drop (width * n) b))) (sym k)
          ∙ ap (drop width) f.rows
          ∙ drop_at (words_of r) (words rs) width (length_words_of r);
    }
