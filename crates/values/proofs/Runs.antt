-- Laws of a list of numbers that is there whole: its rows, one turn of the loop after the other, and that the rules say the same of it.
-- Assumes nothing.
use Rattle.std.specs.Prelude.{Option, None, Some, Ok}
use Prim.Native.Nat.{ℕ, zero, suc, ◌+◌, ◌-◌, ◌*◌, ◌^◌, ◌%◌, ◌≤◌, ◌<◌}
use mathlib.Core.Path.{◌≡◌, refl, sym, ap, ◌∙◌}
use mathlib.Core.Bool.{Bool, true, false, not, ◌||◌}
use mathlib.Core.List.{List, [], ◌∷◌, ◌++◌, append-nil, append_assoc}
use native.Mathlib.Numerals.{add-one}
use native.Mathlib.Nat.{mul-le-mul_right, add-zero, suc-mul, zero-mul, sub-zero, mul-le-mul_left}
use native.Mathlib.Omega.{arith}
use mir.Syntax.{w64}
use mir.Val.{Fits}
use lib.ListN.{length, length-append}
use lib.Dec.{T, leb, ltb, eqb, leb→le, eqb→eq}
use borrow.Author.Tests.{ltb-false, eqb-false, not-false}
use Rattle.ground.specs.Choice.{both}
use Rattle.ground.proofs.Tests.{both_left, both_right, neither_first, neither_second}
use Rattle.ground.proofs.Between.{between}
use Rattle.wire.specs.declared.cursor.Cursor.{Cursor}
use Rattle.wire.specs.declared.settings.Settings.{Settings}
use Rattle.wire.specs.declared.settings.Version.{Version}
use Rattle.wire.specs.declared.settings.Version.TheVariants.{Xcdr1, Xcdr2}
use Rattle.wire.specs.declared.settings.ByteOrder.{ByteOrder}
use Rattle.wire.specs.Place.{Place, cursor_at, moved, alignment_of, padding_of, align_to}
use Rattle.wire.specs.Number.{number_at, read_number}
use Rattle.wire.proofs.Moves.{still_aligned, padded_aligned, seek_inv, align_inv}
use Rattle.wire.proofs.Numbers.{read_past, read_aligned}
use Rattle.kinds.specs.Kinds.{align_of, stored_of}
use Rattle.table.specs.declared.rows.Row.{Row}
use Rattle.table.specs.Rows.{row, width, capacity, room}
use Rattle.table.specs.Code.Rows.{put_row, Filled}
use Rattle.table.proofs.Filling.{filled_none, filled_one, filled_then}
use Rattle.table.specs.Outcome.{Outcome, read, room_for, prepend, and_then}
use Rattle.table.proofs.Outcomes.{is_read, then_read}
use Rattle.values.specs.Scalar.{place_before, word_of, scalar_of, on_number, rowed}
use Rattle.values.specs.List.{elements_from}
use Rattle.values.specs.Code.Quick.{is_number, Quickly, rows_from, WhereThere}
use Rattle.values.proofs.Quickly.{quick_is, read_begins, number_is, wide_some, wide_most, ranged}

pub rows_count : (s : List ℕ) (o : ByteOrder) (kind left i p : ℕ) → length (rows_from s o kind left i p) ≡ left
unfolding rows_from
rows_count s o kind zero i p = refl
rows_count s o kind (suc left) i p = ap suc (rows_count s o kind left (i + 1) (p + align_of kind))

abbrev number_row : List ℕ → ByteOrder → ℕ → ℕ → ℕ → Row
number_row s o kind i p = row (stored_of kind) i (word_of kind (number_at o 0 s p (align_of kind))) 0 p

module _ (s : List ℕ) (o : ByteOrder) (kind w count pos n : ℕ) (t₀ : List ℕ) where
  pub record FillSofar (t : List ℕ) (i : ℕ) : Type 0 where
    pub new : List Row
    pub same : rows_from s o kind count 0 pos ≡ new ++ rows_from s o kind (count - i) i (pos + i * w)
    pub some : length new ≡ i
    pub filled : Filled t₀ t n new
    pub room : n + count ≤ capacity t

  pub fill_start : n + count ≤ capacity t₀ → FillSofar t₀ 0
  fill_start k =
      let e : pos + 0 * w ≡ pos = omega (arith, zero-mul w) in
      record { new = []; same = rw (sub-zero, e); some = refl; filled = filled_none t₀ n; room = k }

  module _ (i : ℕ) (h : i < count) (k : pos + count * w ≤ length s) where
    pub turn_inside : pos + i * w + w ≤ length s
    turn_inside =
        let m : i + 1 ≤ count = omega arith in
        omega (arith, mul-le-mul_right w m, add-one i, suc-mul i w, k)

    module _ (small : length s < 2 ^ 64) where
      pub step_fits : Fits w64 (i * w)
      step_fits = omega (arith, turn_inside)

      pub place_fits : Fits w64 (pos + i * w)
      place_fits = omega (arith, turn_inside)

      pub turn_fits : Fits w64 (pos + i * w + w)
      turn_fits = omega (arith, turn_inside)

  module _ (t : List ℕ) (i : ℕ) (inv : FillSofar t i) where
    pub turn_place : i < count → width * (n + i) + width ≤ length t
    turn_place h = omega (arith, inv.room)

    pub fill_turn : i < count → w ≡ align_of kind → (v : ℕ) → v ≡ number_at o 0 s (pos + i * w) w → (x : ℕ) → x ≡ word_of kind v → (y : ℕ) → y ≡ stored_of kind
        → (u : List ℕ) → u ≡ put_row t (n + i) (row y i x 0 (pos + i * w)) → FillSofar u (i + 1)
    unfolding rows_from
    fill_turn h wide v number x word y stored u put =
        let p = pos + i * w in
        let e : count - i ≡ suc (count - (i + 1)) = omega arith in
        let is : u ≡ put_row t (n + i) (number_row s o kind i p) = rw (stored, word, number ∙ ap (λ (x : ℕ). number_at o 0 s p x) wide) at put in
        let f : Filled t u (n + i) (number_row s o kind i p ∷ []) = rw is (filled_one t (n + i) (number_row s o kind i p) (turn_place h)) in
        let g : Filled t u (n + length inv.new) (number_row s o kind i p ∷ []) = rw inv.some f in
        let q : pos + i * w + w ≡ pos + (i + 1) * w = omega (arith, add-one i, suc-mul i w) in
        let rest : rows_from s o kind (count - i) i p ≡ number_row s o kind i p ∷ rows_from s o kind (count - (i + 1)) (i + 1) (pos + (i + 1) * w) = rw (← q, e) (ap (λ (x : ℕ). number_row s o kind i p ∷ rows_from s o kind (count - (i + 1)) (i + 1) (p + x)) (sym wide)) in
        record {
          new = inv.new ++ number_row s o kind i p ∷ [];
          same = inv.same ∙ ap (λ (l : List Row). inv.new ++ l) rest ∙ sym (append_assoc inv.new (number_row s o kind i p ∷ []) _);
          some = length-append inv.new (number_row s o kind i p ∷ []) ∙ ap (λ (k : ℕ). k + 1) inv.some;
          filled = filled_then inv.filled g;
          room = rw f.long inv.room;
        }

    pub fill_end : count ≤ i → Filled t₀ t n (rows_from s o kind count 0 pos)
    unfolding rows_from
    fill_end h =
        let e : count - i ≡ 0 = omega arith in
        let k : rows_from s o kind count 0 pos ≡ inv.new = inv.same ∙ rw e (append-nil inv.new) in
        rw k inv.filled

pub ruleset fill_laws = (fill_start, turn_inside, step_fits, place_fits, turn_fits, turn_place, fill_turn, fill_end)

-- the most numbers that are asked for
pub count_most : (count : ℕ) → (eqb count 0 || ltb 0xFFFFFFFF count) ≡ false → count ≤ 0xFFFFFFFF
count_most count e = ltb-false 0xFFFFFFFF count (neither_second (eqb count 0) (ltb 0xFFFFFFFF count) e)

-- a width that is known
module _ (w k : ℕ) (e : w ≡ k) where
  pub width_at : (a : ℕ) → w ≡ a → k ≡ a
  width_at a f = sym e ∙ f

  pub inside_at : (p count l : ℕ) → p + count * w ≤ l → p + count * k ≤ l
  inside_at p count l h = rw e at h

pub ruleset width_laws = (width_at, inside_at)

-- up to 8 bytes of each of up to 2 ^ 32 - 1 numbers
pub product_fits : (count w : ℕ) → count ≤ 0xFFFFFFFF → w ≤ 8 → Fits w64 (count * w)
product_fits count w h k = omega (arith, mul-le-mul_left count k)

module _ (s t : List ℕ) (w count p n : ℕ) where
  pub not_there : WhereThere s t w count p n None
  unfolding WhereThere
  not_there = tt

  -- the code's tests, in their order
  pub is_there_law : (e r : ℕ) → e ≡ length s → r ≡ capacity t → 0 < w → (eqb count 0 || ltb 0xFFFFFFFF count) ≡ false → p ≤ e → n ≤ r → count * w ≤ e - p → count ≤ r - n → (x : ℕ) → x ≡ p + count * w → WhereThere s t w count p n (Some x)
  unfolding WhereThere
  is_there_law e r is cap wide some inside place bytes rows x at =
      (omega (arith, eqb-false count 0 (neither_first (eqb count 0) (ltb 0xFFFFFFFF count) some)), at, omega arith, omega arith)

  record There (x : ℕ) : Type 0 where
    some : 0 < count
    at : x ≡ p + count * w
    inside : p + count * w ≤ length s
    place : n + count ≤ capacity t

  there_of : (x : ℕ) → WhereThere s t w count p n (Some x) → There x
  unfolding WhereThere
  there_of x h = record { some = h.0; at = h.1; inside = h.2; place = h.3 }

  module _ {x : ℕ} (r : Option ℕ) (h : WhereThere s t w count p n r) (yes : r ≡ Some x) where
    there : There x
    there = there_of x (rw yes at h)

    pub there_some : 0 < count
    there_some = there.some

    pub there_at : x ≡ p + count * w
    there_at = there.at

    pub there_inside : p + count * w ≤ length s
    there_inside = there.inside

    pub there_place : n + count ≤ capacity t
    there_place = there.place

pub ruleset there_laws = (count_most, product_fits, not_there, is_there_law)

-- what the test for a number says
module _ (kind : ℕ) (b : Bool) (is : b ≡ is_number kind) (yes : not b ≡ false) where
  pub number_yes : is_number kind ≡ true
  number_yes = sym is ∙ not-false b yes

  module _ (w : ℕ) (wide : w ≡ align_of kind) where
    pub number_some : 0 < w
    number_some = wide_some kind number_yes w wide

    pub number_most : w ≤ 8
    number_most = wide_most kind number_yes w wide

-- a number's bytes are whole steps of its alignment
abbrev steps : Version → ℕ → Bool
steps v k = both (leb 1 (alignment_of v (align_of k))) (eqb (align_of k % alignment_of v (align_of k)) 0)

all_step : (v : Version) (k : ℕ) → 2 ≤ k → k < 15 → T (steps v k)
unfolding align_of alignment_of
all_step Xcdr1 = between (steps Xcdr1) 13 2 tt
all_step Xcdr2 = between (steps Xcdr2) 13 2 tt

-- a list whose first number stands where the cursor is aligned: every number follows at once, and each has its row
module _ (s : List ℕ) (set : Settings) (kind : ℕ) (num : is_number kind ≡ true) where
  stepped : T (steps set.version kind)
  stepped = let r = ranged kind num in all_step set.version kind r.from (omega (arith, r.to))

  steps_some : 0 < alignment_of set.version (align_of kind)
  steps_some = leb→le 1 _ (both_left (leb 1 (alignment_of set.version (align_of kind))) (eqb (align_of kind % alignment_of set.version (align_of kind)) 0) stepped)

  whole_steps : align_of kind % alignment_of set.version (align_of kind) ≡ 0
  whole_steps = eqb→eq _ 0 (both_right (leb 1 (alignment_of set.version (align_of kind))) (eqb (align_of kind % alignment_of set.version (align_of kind)) 0) stepped)

  one : (i : ℕ) (c : Cursor) (k v : ℕ) (d : Cursor) → read_number s set c (align_of kind) ≡ Ok (v, d) → 0 < k → (p : ℕ) → place_before (align_of kind) d.pos ≡ p
      → scalar_of s set kind i c k ≡ read d (row (stored_of kind) i (word_of kind v) 0 p ∷ [])
  unfolding on_number rowed room_for
  one i c zero v d e h p at = absurd (omega arith)
  one i c (suc k) v d e h p at = number_is kind num s set i c (suc k) ∙ rw (e, at)

  pub run_is : (left i : ℕ) (c : Cursor) (k : ℕ) → c.origin ≤ c.pos → padding_of c (alignment_of set.version (align_of kind)) ≡ 0 → c.pos + left * align_of kind ≤ length s → left ≤ k
      → elements_from s set kind left i c k ≡ read (cursor_at (c.pos + left * align_of kind) c.origin) (rows_from s set.order kind left i c.pos)
  unfolding elements_from rows_from prepend
  run_is zero i c k after z h l = rw (zero-mul, add-zero)
  run_is (suc left) i c k after z h l =
      let e : suc left * align_of kind ≡ left * align_of kind + align_of kind = suc-mul left (align_of kind) in
      let there : c.pos + align_of kind ≤ length s = omega (arith, e) in
      let next : c.pos + align_of kind + left * align_of kind ≤ length s = omega (arith, e) in
      let ih = run_is left (i + 1) (moved c (align_of kind)) (k - 1) (omega arith) (still_aligned c _ steps_some after (align_of kind) whole_steps z) next (omega arith) in
      let sum : c.pos + align_of kind + left * align_of kind ≡ c.pos + suc left * align_of kind = omega (arith, e) in
      then_read _ (one i c k _ _ (read_aligned s set c (align_of kind) z there) (omega arith) c.pos (read_begins c.pos (align_of kind))) ∙ ap (prepend (number_row s set.order kind i c.pos ∷ [])) ih ∙ rw sum

  start_same : (left : ℕ) (c d : Cursor) (k : ℕ) → read_number s set c (align_of kind) ≡ read_number s set d (align_of kind) → elements_from s set kind (suc left) 0 c k ≡ elements_from s set kind (suc left) 0 d k
  unfolding elements_from
  start_same left c d k e = ap (λ (x : Outcome). and_then x (λ (y : Cursor) (used : ℕ). elements_from s set kind left (0 + 1) y (k - used))) (number_is kind num s set 0 c k ∙ ap (on_number kind 0 k) e ∙ sym (number_is kind num s set 0 d k))

  -- where the first number's alignment is passed first
  pub run_past : (count : ℕ) (c d : Cursor) (k : ℕ) → 0 < count → align_to s set.version c (align_of kind) ≡ Ok d → c.origin ≤ c.pos → d.pos + count * align_of kind ≤ length s → count ≤ k
      → elements_from s set kind count 0 c k ≡ read (cursor_at (d.pos + count * align_of kind) c.origin) (rows_from s set.order kind count 0 d.pos)
  unfolding align_to
  run_past zero c d k some e after h l = absurd (omega arith)
  run_past (suc left) c d k some e after h l =
      let m = align_inv s set.version c (align_of kind) d e in
      let z : padding_of d (alignment_of set.version (align_of kind)) ≡ 0 = rw (seek_inv s c (padding_of c (alignment_of set.version (align_of kind))) d e).1 at (padded_aligned c _ steps_some after) in
      let there : d.pos + align_of kind ≤ length s = omega (arith, suc-mul left (align_of kind)) in
      start_same left c d k (read_past s set c (align_of kind) d e there ∙ sym (read_aligned s set d (align_of kind) z there))
      ∙ run_is (suc left) 0 d k (omega (arith, m.0, m.2)) z h l ∙ ap (λ (x : ℕ). read (cursor_at (d.pos + suc left * align_of kind) x) (rows_from s set.order kind (suc left) 0 d.pos)) m.2

  -- what the quick way answers of a list
  module _ (c : Cursor) (count n w : ℕ) (t : List ℕ) (wide : w ≡ align_of kind) (p : Place) (is : p ≡ align_to s set.version c w) (d : Cursor) (at : p ≡ Ok d) {x : ℕ} (r : Option ℕ) (there : WhereThere s t w count d.pos n r) (yes : r ≡ Some x) where
    pub run_done : c.origin ≤ c.pos → (u : List ℕ) → Filled t u n (rows_from s set.order kind count 0 d.pos) → Quickly (elements_from s set kind count 0 c (room t n)) count n c.origin t u (Some x)
    unfolding room
    run_done after u f =
        let e : align_to s set.version c (align_of kind) ≡ (Ok d) = rw wide at (sym is ∙ at) in
        let h : d.pos + count * align_of kind ≤ length s = rw wide at (there_inside s t w count d.pos n r there yes) in
        let y : x ≡ d.pos + count * align_of kind = rw wide at (there_at s t w count d.pos n r there yes) in
        let o = run_past count c d (capacity t - n) (there_some s t w count d.pos n r there yes) e after h (omega (arith, there_place s t w count d.pos n r there yes)) in
        quick_is count x (is_read (o ∙ rw (sym y)) (ap (λ (z : ℕ). n + z) (sym (rows_count s set.order kind count 0 d.pos))) f)
