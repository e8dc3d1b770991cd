-- Laws of the quick way: what it takes is what `scalar_of` says. Assumes nothing.
use Rattle.std.specs.Prelude.{Option, None, Some, Ok, Err}
use Prim.Native.Nat.{ℕ, zero, suc, ◌+◌, ◌-◌, ◌*◌, ◌/◌, ◌%◌, ◌≤◌, ◌<◌, ◌^◌}
use mathlib.Core.Path.{◌≡◌, refl, sym, ap, ◌∙◌}
use mathlib.Core.Bool.{Bool, true, false, not, ◌||◌}
use mathlib.Core.List.{List}
use native.Mathlib.Omega.{arith}
use mir.Syntax.{w64}
use mir.Val.{Fits}
use lib.ListN.{length}
use lib.Dec.{T, eqb, leb, leb→le}
use borrow.Author.Tests.{ne_eqb}
use Rattle.ground.specs.Choice.{both, ◌‥◌, within}
use Rattle.ground.proofs.Between.{between}
use Rattle.ground.proofs.Tests.{both_left, both_right, inside}
use Rattle.wire.specs.declared.cursor.Cursor.{Cursor}
use Rattle.wire.specs.declared.settings.Settings.{Settings}
use Rattle.wire.specs.Place.{cursor_at, alignment_of, padding_of}
use Rattle.wire.specs.Number.{Number, Float128, number_at, read_number, read_float128, halves_of, read_boolean, on_byte, boolean_in}
use Rattle.wire.proofs.Numbers.{read_there, read_inv}
use Rattle.text.specs.Unicode.{utf8}
use Rattle.text.specs.Text.{part, string_type}
use Rattle.text.proofs.Places.{string_there}
use Rattle.kinds.specs.Kinds.{align_of, stored_of, is_primitive}
use Rattle.kinds.proofs.Table.{primitive_align}
use Rattle.table.specs.declared.rows.Row.{Row}
use Rattle.table.specs.Rows.{row, width, room, no_room}
use Rattle.table.specs.Code.Rows.{put_row}
use Rattle.table.specs.Outcome.{Outcome}
use Rattle.table.specs.Code.Outcome.{Done}
use Rattle.table.proofs.Filling.{full_fits, filled_fits}
use Rattle.table.proofs.Outcomes.{is_same, was_read}
use Rattle.values.specs.Scalar.{scalar_of, on_number, on_boolean, on_float128, on_text, bool_word, rowed, place_before, word_of}
use Rattle.values.specs.Code.Quick.{is_number, is_taken, Quickly}
use Rattle.values.proofs.Scalars.{row_given}

-- what an answer of the quick way tells
module _ {o : Outcome} (k : ℕ) {n origin : ℕ} {a b : List ℕ} where
  pub quick_is : (p : ℕ) → Done o n a b (Ok (cursor_at p origin, n + k)) → Quickly o k n origin a b (Some p)
  unfolding Quickly
  quick_is p d = d

  pub quick_done : (r : Option ℕ) {p : ℕ} → r ≡ Some p → Quickly o k n origin a b r → Done o n a b (Ok (cursor_at p origin, n + k))
  unfolding Quickly
  quick_done r h q = rw h at q

-- a row that was written has its place
pub quick_next : (o : Outcome) (n origin : ℕ) (a b : List ℕ) (r : Option ℕ) {p : ℕ} → r ≡ Some p → Quickly o 1 n origin a b r → length a < 2 ^ 64 → Fits w64 (n + 1)
quick_next o n origin a b r h q k = let w = was_read (quick_done 1 r h q) refl in omega (arith, w.count, filled_fits w.filled)

pub quick_as : (o p : Outcome) (k n origin : ℕ) (a b : List ℕ) (r : Option ℕ) → Quickly p k n origin a b r → ((x : ℕ) → r ≡ Some x → o ≡ p) → Quickly o k n origin a b r
unfolding Quickly
quick_as o p k n origin a b None q e = q
quick_as o p k n origin a b (Some r) q e = is_same (e r refl) q

module _ (o : Outcome) (k n origin : ℕ) (a b : List ℕ) where
  pub quick_none : (r : Option ℕ) → r ≡ None → Quickly o k n origin a b r → b ≡ a
  unfolding Quickly
  quick_none r h q = rw h at q

pub quick_not : (o : Outcome) (k n origin : ℕ) (a : List ℕ) → Quickly o k n origin a a None
unfolding Quickly
quick_not o k n origin a = refl

-- the table stays as long, so a row that had a place has it still
pub place_still : (t u : List ℕ) (n : ℕ) (f : Bool) → f ≡ no_room t n → f ≡ false → (o : Outcome) (k m origin : ℕ) (r : Option ℕ) → Quickly o k m origin t u r → width * n + width ≤ length u
unfolding Quickly
place_still t u n f is free o k m origin None q = rw q (full_fits t n f is free)
place_still t u n f is free o k m origin (Some r) q = rw q.table.long (full_fits t n f is free)

-- one row
quick_row : (o : Outcome) (t : List ℕ) (n origin p : ℕ) (r : Row) → o ≡ rowed (room t n) (cursor_at p origin) r → no_room t n ≡ false → (u : List ℕ) → u ≡ put_row t n r → Quickly o 1 n origin t u (Some p)
quick_row o t n origin p r e free u put = quick_is 1 p (is_same e (row_given t n (no_room t n) refl (cursor_at p origin) r free u put))

pub free_fits : (t : List ℕ) (n : ℕ) → no_room t n ≡ false → width * n + width ≤ length t
free_fits t n e = full_fits t n (no_room t n) refl e

pub is_free : (t : List ℕ) (n : ℕ) (f : Bool) → f ≡ no_room t n → f ≡ false → no_room t n ≡ false
is_free t n f is e = sym is ∙ e

-- what ends so many bytes after q begins at q
pub read_begins : (q w : ℕ) → place_before w (q + w) ≡ q
unfolding place_before
read_begins q w = omega arith

pub number_so : (kind : ℕ) (b : Bool) → b ≡ is_number kind → b ≡ true → is_number kind ≡ true
number_so kind b is h = sym is ∙ h

-- a number's kind is a primitive other than those that have their own way
module _ (kind : ℕ) (num : is_number kind ≡ true) where
  pub record Ranged : Type 0 where
    pub from : 2 ≤ kind
    pub to : kind ≤ 14
    pub other : kind ≡ 11 → ⊥

  pub ranged : Ranged
  unfolding is_number
  ranged =
      let t : T (both (within (2 ‥ 14) kind) (not (eqb kind 11))) = rw num tt in
      let i = both_left (within (2 ‥ 14) kind) (not (eqb kind 11)) t in
      let o = both_right (within (2 ‥ 14) kind) (not (eqb kind 11)) t in
      record { from = leb→le 2 kind (both_left (leb 2 kind) (leb kind 14) i); to = leb→le kind 14 (both_right (leb 2 kind) (leb kind 14) i); other = λ e. rw e at o }

  primitive : is_primitive kind ≡ true
  unfolding is_primitive
  primitive = let r = ranged in inside 1 15 kind (omega (arith, r.from)) (omega (arith, r.to))

  number_some : 0 < align_of kind
  number_some = (primitive_align kind primitive ranged.other).0

  number_most : align_of kind ≤ 8
  number_most = (primitive_align kind primitive ranged.other).1

  pub number_is : (s : List ℕ) (set : Settings) (id : ℕ) (c : Cursor) (k : ℕ) → scalar_of s set kind id c k ≡ on_number kind id k (read_number s set c (align_of kind))
  unfolding scalar_of
  number_is s set id c k =
      let r = ranged in
      rw (ne_eqb kind 1 (λ e. absurd (omega (arith, e, r.from))), ne_eqb kind 11 r.other, ne_eqb kind 15 (λ e. absurd (omega (arith, e, r.to))), ne_eqb kind 16 (λ e. absurd (omega (arith, e, r.to))), ne_eqb kind 17 (λ e. absurd (omega (arith, e, r.to))), primitive)

  pub wide_some : (w : ℕ) → w ≡ align_of kind → 0 < w
  wide_some w e = rw e number_some

  pub wide_most : (w : ℕ) → w ≡ align_of kind → w ≤ 8
  wide_most w e = rw e number_most

  pub past_fits : (w q l : ℕ) → w ≡ align_of kind → q ≤ l + 8 → l * 1 < 2 ^ 63 → Fits w64 (q + w)
  past_fits w q l e h k = omega (arith, e, number_most)

  -- a number that is all there, q being where it stands, and its row
  module _ (s : List ℕ) (set : Settings) (id : ℕ) (c : Cursor) (t : List ℕ) (n w : ℕ) (wide : w ≡ align_of kind) (q v : ℕ) where
    pub quick_number : (q + w ≤ length s → q ≡ c.pos + padding_of c (alignment_of set.version w)) → q + w ≤ length s → v ≡ number_at set.order 0 s q w
        → (x : ℕ) → x ≡ word_of kind v → (y : ℕ) → y ≡ stored_of kind → no_room t n ≡ false → (u : List ℕ) → u ≡ put_row t n (row y id x 0 q)
        → Quickly (scalar_of s set kind id c (room t n)) 1 n c.origin t u (Some (q + w))
    unfolding on_number
    quick_number starts h is x word y stored free u put =
        let z : read_number s set c w ≡ (Ok (v, cursor_at (q + w) c.origin)) = read_there s set c w q v (starts h) h is in
        let k : read_number s set c (align_of kind) ≡ (Ok (v, cursor_at (q + w) c.origin)) = rw (← wide) z in
        let p : u ≡ put_row t n (row (stored_of kind) id (word_of kind v) 0 q) = rw (stored, word) at put in
        let b : place_before (align_of kind) (q + w) ≡ q = rw (← wide) (read_begins q w) in
        quick_row (scalar_of s set kind id c (room t n)) t n c.origin (q + w) (row (stored_of kind) id (word_of kind v) 0 q) (number_is s set id c (room t n) ∙ rw (k, b)) free u p

-- a boolean's byte, and its row
boolean_of : (v : ℕ) → v ≤ 1 → (c : Cursor) → (b : Bool) × ((boolean_in v c ≡ Ok (b, c)) × (v ≡ bool_word b))
unfolding boolean_in bool_word
boolean_of zero h c = (false, (refl, refl))
boolean_of (suc zero) h c = (true, (refl, refl))
boolean_of (suc (suc v)) h c = absurd (omega arith)

module _ (s : List ℕ) (set : Settings) (id : ℕ) (c : Cursor) (t : List ℕ) (n : ℕ) where
  pub quick_boolean : (q v : ℕ) → (q + 1 ≤ length s → q ≡ c.pos + padding_of c (alignment_of set.version 1)) → q + 1 ≤ length s → v ≡ number_at set.order 0 s q 1 → v ≤ 1
      → no_room t n ≡ false → (u : List ℕ) → u ≡ put_row t n (row 1 id v 0 q) → Quickly (scalar_of s set 1 id c (room t n)) 1 n c.origin t u (Some (q + 1))
  unfolding scalar_of on_boolean read_boolean on_byte
  quick_boolean q v starts h is small free u put =
      let z : read_number s set c 1 ≡ (Ok (v, cursor_at (q + 1) c.origin)) = read_there s set c 1 q v (starts h) h is in
      let b = boolean_of v small (cursor_at (q + 1) c.origin) in
      let e : on_boolean id (room t n) (read_boolean s set c) ≡ rowed (room t n) (cursor_at (q + 1) c.origin) (row 1 id v 0 q) = rw (z, b.1.0, ← b.1.1, read_begins q 1) in
      quick_row (scalar_of s set 1 id c (room t n)) t n c.origin (q + 1) (row 1 id v 0 q) e free u put

  -- a text that is all there and well-formed, q being where its length stands, and its row
  pub quick_text : (q v start : ℕ) → (q + 4 ≤ length s → q ≡ c.pos + padding_of c (alignment_of set.version 4)) → q + 4 ≤ length s → v ≡ number_at set.order 0 s q 4
      → start ≡ q + 4 → 0 < v → start + v ≤ length s → (good : Bool) → good ≡ utf8 (part s start (v - 1)) → good ≡ true → no_room t n ≡ false → (u : List ℕ) → u ≡ put_row t n (row 16 id start (v - 1) q)
      → Quickly (scalar_of s set 16 id c (room t n)) 1 n c.origin t u (Some (start + v))
  unfolding scalar_of on_text
  quick_text q v start starts h is e some fits good g k' free u put =
      let z : read_number s set c 4 ≡ (Ok (v, cursor_at start c.origin)) = rw e (read_there s set c 4 q v (starts h) h is) in
      let k : string_type s set c ≡ (Ok (start, v - 1, cursor_at (start + v) c.origin)) = string_there s set c start v z some fits (sym g ∙ k') in
      let b : place_before 4 start ≡ q = rw e (read_begins q 4) in
      quick_row (scalar_of s set 16 id c (room t n)) t n c.origin (start + v) (row 16 id start (v - 1) q) (rw (k, b)) free u put

-- a FLOAT128 was read as one number of 16 bytes, so the origin is kept
halves_kept : (s : List ℕ) (set : Settings) (c : Cursor) (r : Number) → read_number s set c 16 ≡ r → (low high : ℕ) (d : Cursor) → halves_of r ≡ Ok (low, high, d) → d ≡ cursor_at d.pos c.origin
unfolding halves_of
halves_kept s set c (Err x) e low high d h = absurd (cc)
halves_kept s set c (Ok (v, f)) e low high d h =
    let g : f ≡ d = ap (λ (x : ℕ × ℕ × Cursor). x.2) (let p : ◌≡◌ {A = ℕ × ℕ × Cursor} (v % 2 ^ 64, v / 2 ^ 64, f) (low, high, d) = cc in p) in
    let k : d.origin ≡ c.origin = (read_inv s set c 16 v d (rw g at e)).kept in
    rw (← k)

module _ (s : List ℕ) (set : Settings) (id : ℕ) (c : Cursor) (t : List ℕ) (n : ℕ) where
  pub quick_float128 : (g : Float128) → g ≡ read_float128 s set c → (low high : ℕ) (d : Cursor) → g ≡ Ok (low, high, d) → (p : ℕ) → p ≡ d.pos - 16 → no_room t n ≡ false
      → (u : List ℕ) → u ≡ put_row t n (row 11 id low high p) → Quickly (scalar_of s set 11 id c (room t n)) 1 n c.origin t u (Some d.pos)
  unfolding scalar_of on_float128 read_float128 place_before
  quick_float128 g is low high d e p at free u put =
      let k : d ≡ cursor_at d.pos c.origin = halves_kept s set c (read_number s set c 16) refl low high d (sym is ∙ e) in
      let o : on_float128 id (room t n) (read_float128 s set c) ≡ rowed (room t n) (cursor_at d.pos c.origin) (row 11 id low high p) = rw (← is, e, at, ← k) in
      quick_row (scalar_of s set 11 id c (room t n)) t n c.origin d.pos (row 11 id low high p) o free u put

-- a number is taken
pub taken_number : (kind : ℕ) (b : Bool) → b ≡ is_number kind → b ≡ true → is_taken kind ≡ true
unfolding is_taken
taken_number kind b is h =
    let r = ranged kind (sym is ∙ h) in
    go (eqb kind 11) (ne_eqb kind 11 r.other) (is_taken kind) (between (λ k. eqb k 11 || is_taken k) 13 2 tt kind r.from (omega (arith, r.to)))
  where
    go : (y : Bool) → y ≡ false → (x : Bool) → T (y || x) → x ≡ true
    go true e x t = absurd (let z : ◌≡◌ {A = ℕ} 0 1 = cc in omega arith)
    go false e true t = refl
    go false e false t = absurd t

-- what is taken, by the kind that it is
module _ (kind k : ℕ) (e : kind ≡ k) where
  pub quick_kind : (s : List ℕ) (set : Settings) (id : ℕ) (c : Cursor) (room j n origin : ℕ) (a b : List ℕ) (r : Option ℕ) → Quickly (scalar_of s set k id c room) j n origin a b r → Quickly (scalar_of s set kind id c room) j n origin a b r
  quick_kind s set id c room j n origin a b r q = rw e q

  pub taken_known : is_taken k ≡ true → is_taken kind ≡ true
  taken_known h = rw e h

pub none_taken : (kind p : ℕ) → None ≡ Some p → is_taken kind ≡ true
none_taken kind p h = absurd (cc)

pub ruleset quick_laws = (is_free, free_fits, wide_some, wide_most, past_fits, number_so, quick_number, quick_boolean, quick_float128, quick_kind, quick_not, none_taken, taken_known, taken_number)
