-- Laws that join places in a book's bytes with its types. Assumes nothing.
use Prim.Native.Nat.{ℕ, zero, suc, ◌+◌, ◌-◌, ◌*◌, ◌%◌, ◌<◌, ◌≤◌}
use mathlib.Core.Path.{◌≡◌, refl, sym, ap, ◌∙◌}
use mathlib.Core.Bool.{Bool, true, false}
use mathlib.Core.List.{List, [], ◌∷◌}
use native.Mathlib.Nat.{add_assoc}
use native.Mathlib.Omega.{arith}
use lib.ListN.{length, get_or, drop, get_or-eq_default, drop_of_length-le, length-drop}
use lib.Seq.{get_or-drop, drop-drop, drop-length}
use lib.Dec.{leb, ltb, eqb}
use lib.IntN.{pos}
use borrow.Author.Tests.{leb-true, leb-false, ltb-true, ltb-false, lt-ltb, le-ltb}
use mir.Syntax.{w32}
use mir.Val.{to_z}
use Rattle.book.specs.declared.member.Run.{Run}
use Rattle.book.specs.declared.member.Head.{Head}
use Rattle.std.specs.Prelude.{map}
use Rattle.book.specs.Types.{Member, byte, pair, quad, labels_of, member_of, past_member, members_of, type_of, type_count, no_type, type_no, optional}
use Rattle.book.specs.Places.{from, is_there, HeadOf, member_at, type_at, onward, Skipped, member_places, places_left, listed, later, earlier, Started, After, types_by, PlaceOf}

-- the bytes left at p
module _ (b : List ℕ) (p : ℕ) where
  pub left_none : length b ≤ p → 0 ≡ length (from b p)
  unfolding from
  left_none h = simp length-drop (omega arith)

  pub left_some : length b - p ≡ length (from b p)
  unfolding from
  left_some = sym (length-drop p b)

-- a place k after p, where l bytes are left
module _ (b : List ℕ) (p k l : ℕ) (e : l ≡ length (from b p)) where
  pub inside : k < l → p + k < length b
  unfolding from
  inside h = omega (arith, length-drop p b)

  pub byte_none : l ≤ k → 0 ≡ byte (from b p) k
  byte_none h = sym (get_or-eq_default (from b p) 0 (omega arith))

  -- n bytes that are there
  pub fits : (n : ℕ) → 0 < n → k + n ≤ l → p + k + n ≤ length b
  unfolding from
  fits n some h = omega (arith, length-drop p b)

-- whether the byte k after p is there
module _ (b : List ℕ) (p k : ℕ) where
  pub there_is : (l : ℕ) → l ≡ length (from b k) → ltb p l ≡ is_there b p k
  unfolding from is_there
  there_is l e = go (ltb (p + k) (length b)) refl
    where
      go : (t : Bool) → ltb (p + k) (length b) ≡ t → ltb p l ≡ ltb (p + k) (length b)
      go true h = lt-ltb p l (omega (arith, length-drop k b, e, ltb-true (p + k) (length b) h)) ∙ sym h
      go false h = le-ltb p l (omega (arith, length-drop k b, e, ltb-false (p + k) (length b) h)) ∙ sym h

  module _ (r : Bool) (e : r ≡ is_there b p k) where
    pub is_inside : r ≡ true → p + k < length b
    unfolding is_there
    is_inside h = ltb-true _ _ (sym e ∙ h)

    pub is_outside : r ≡ false → length b ≤ p + k
    unfolding is_there
    is_outside h = ltb-false _ _ (sym e ∙ h)

-- what stands there
module _ (b : List ℕ) (p k : ℕ) where
  pub byte_here : (r : ℕ) → r ≡ get_or b (p + k) 0 → r ≡ byte (from b p) k
  unfolding from
  byte_here r d = d ∙ sym (get_or-drop p b k 0)

  pub pair_here : (r : ℕ) → r ≡ get_or b (p + k) 0 * 256 + get_or b (p + k + 1) 0 → r ≡ pair (from b p) k
  unfolding from
  pair_here r d = rw (get_or-drop p b k 0, get_or-drop p b (k + 1) 0, ← (add_assoc p k 1)) d

  pub quad_here : (r : ℕ) → r ≡ ((get_or b (p + k) 0 * 256 + get_or b (p + k + 1) 0) * 256 + get_or b (p + k + 2) 0) * 256 + get_or b (p + k + 3) 0 → r ≡ quad (from b p) k
  unfolding from
  quad_here r d =
      let e2 : p + (k + 2) ≡ p + k + 2 = omega arith in
      let e3 : p + (k + 2 + 1) ≡ p + k + 3 = omega arith in
      rw (get_or-drop p b k 0, get_or-drop p b (k + 1) 0, get_or-drop p b (k + 2) 0, get_or-drop p b (k + 2 + 1) 0, ← (add_assoc p k 1), e2, e3) (omega (arith, d))

-- the place n after p
module _ (b : List ℕ) (p n : ℕ) where
  pub from_onward : from b (onward b p n) ≡ drop n (from b p)
  unfolding from
  from_onward = go (leb (p + n) (length b)) refl
    where
      go : (t : Bool) → leb (p + n) (length b) ≡ t → drop (onward b p n) b ≡ drop n (drop p b)
      go true h =
          let l : p + n ≤ length b = leb-true _ _ h in
          let e : onward b p n ≡ p + n = omega arith in
          rw e (sym (drop-drop n p b))
      go false h =
          let l : length b < p + n = leb-false _ _ h in
          let e : onward b p n ≡ length b = omega arith in
          rw e (drop-length b ∙ sym (drop-drop n p b ∙ drop_of_length-le b {i = p + n} (omega arith)))

  skipped : (r : ℕ) → r ≡ onward b p n → Skipped b p n r
  skipped r e = record { place = e; is = rw e from_onward }

  pub skip_over : length b ≤ p + n → Skipped b p n (length b)
  skip_over h = skipped (length b) (omega arith)

  pub skip_to : p + n ≤ length b → Skipped b p n (p + n)
  skip_to h = skipped (p + n) (omega arith)

  pub skip_all : (l : ℕ) → l ≡ length (from b p) → l ≤ n → Skipped b p n (length b)
  unfolding from
  skip_all l e h = skipped (length b) (omega (arith, length-drop p b))

  pub skip_on : (l : ℕ) → l ≡ length (from b p) → n < l → Skipped b p n (p + n)
  unfolding from
  skip_on l e h = skipped (p + n) (omega (arith, length-drop p b))

pub from_zero : (b : List ℕ) → from b 0 ≡ b
unfolding from
from_zero b = refl

pub count_is : (b : List ℕ) (n : ℕ) → n ≡ pair (from b 0) 5 → n ≡ type_count b
count_is b n e = rw (from_zero b) at e

-- the place past a member
module _ (b : List ℕ) (p n : ℕ) (e : n ≡ byte (from b p) 8) where
  pub past_on : (q : ℕ) → q ≡ p + 9 + 4 * n → q < length b → Skipped b p (9 + 4 * byte (from b p) 8) q
  past_on q f h =
      let g : p + (9 + 4 * byte (from b p) 8) ≡ q = omega (arith, e, f) in
      rw (← g) (skip_to b p (9 + 4 * byte (from b p) 8) (omega (arith, e, f, h)))

  pub past_end : (q : ℕ) → q ≡ p + 9 + 4 * n → length b ≤ q → Skipped b p (9 + 4 * byte (from b p) 8) (length b)
  past_end q f h = skip_over b p (9 + 4 * byte (from b p) 8) (omega (arith, e, f, h))

-- .. where its own bytes are not there
pub past_none : (b : List ℕ) (p : ℕ) (r : Bool) → r ≡ is_there b p 8 → r ≡ false → Skipped b p (9 + 4 * byte (from b p) 8) (length b)
past_none b p r e h = skip_over b p (9 + 4 * byte (from b p) 8) (omega (arith, is_outside b p 8 r e h))

-- labels
pub length_labels : (s : List ℕ) (k n : ℕ) → length (labels_of s k n) ≡ n
unfolding labels_of
length_labels s k zero = refl
length_labels s k (suc n) = ap suc (length_labels s (k + 4) n)

pub label_count_is : (s : List ℕ) (r : ℕ) → r ≡ byte s 8 → r ≡ length (member_of s).labels
unfolding member_of
label_count_is s r e = e ∙ sym (length_labels s 9 (byte s 8))

labels_at : (s : List ℕ) (k n i : ℕ) → i < n → to_z w32 (quad s (k + 4 * i)) ≡ get_or (labels_of s k n) i (pos 0)
unfolding labels_of
labels_at s k zero i h = absurd (omega arith)
labels_at s k (suc n) zero h =
    let e : k + 4 * 0 ≡ k = omega arith in
    rw e
labels_at s k (suc n) (suc i) h =
    let e : k + 4 * suc i ≡ k + 4 + 4 * i = omega arith in
    rw e (labels_at s (k + 4) n i (omega arith))

pub label_here : (s : List ℕ) (n i : ℕ) → n ≡ length (member_of s).labels → i < n → to_z w32 (quad s (9 + 4 * i)) ≡ get_or (member_of s).labels i (pos 0)
unfolding member_of
label_here s n i e h = labels_at s 9 (byte s 8) i (omega (arith, length_labels s 9 (byte s 8)))

pub label_none : (s : List ℕ) (n i : ℕ) → n ≡ length (member_of s).labels → n ≤ i → pos 0 ≡ get_or (member_of s).labels i (pos 0)
label_none s n i e h = sym (get_or-eq_default (member_of s).labels (pos 0) (omega arith))

-- what is asked of every member
abbrev pub head : ℕ → ℕ → Bool → Head
head i t o = record { id = i; ty = t; optional = o }

pub head_is : (s : List ℕ) (i t : ℕ) (o : Bool) → i ≡ quad s 0 → t ≡ pair s 4 → o ≡ optional (member_of s) → HeadOf (member_of s) (head i t o)
unfolding member_of
head_is s i t o e f g = record { id = e; type = f; option = g }

pub optional_is : (s : List ℕ) (n : ℕ) → n ≡ byte s 6 → eqb (n % 2) 1 ≡ optional (member_of s)
unfolding member_of optional
optional_is s n e = rw e

-- members
pub length_members : (n : ℕ) (s : List ℕ) → length (members_of n s) ≡ n
unfolding members_of
length_members zero s = refl
length_members (suc n) s = ap suc (length_members n (past_member s))

pub member_count_is : (s : List ℕ) (r : ℕ) → r ≡ pair s 12 → r ≡ length (type_of s).members
unfolding type_of
member_count_is s r e = e ∙ sym (length_members (pair s 12) (drop 14 s))

-- the members at the places of a run
listed_of : (b : List ℕ) (p n : ℕ) → map (member_at b) (member_places b p n) ≡ members_of n (from b p)
unfolding member_places members_of past_member
listed_of b p zero = refl
listed_of b p (suc n) =
    ap (λ (ms : List Member). member_at b p ∷ ms) (listed_of b (onward b p (9 + 4 * byte (from b p) 8)) n ∙ ap (members_of n) (from_onward b p (9 + 4 * byte (from b p) 8)))

module _ (b : List ℕ) (r : Run) (own : r.book.now ≡ b) where
  pub listed_is : listed b r ≡ members_of r.left (from b r.at)
  unfolding listed places_left
  listed_is = rw own (listed_of b r.at r.left)

  module _ (at : ℕ) (s : Skipped b at 14 r.at) where
    -- the members before one
    pub before_is : listed b r ≡ earlier b at r.left
    unfolding earlier
    before_is = rw (listed_is, s.is)

    pub run_start : r.left ≡ pair (from b at) 12 → r.left < 65536 → Started b at r
    unfolding type_of
    run_start f h = record { book = own; place = s.place; left = f; small = h; bytes = s.is; is = rw (listed_is, s.is, f) }

  -- those after the next
  pub run_after : (ms : Run) → Skipped b ms.at (9 + 4 * byte (from b ms.at) 8) r.at → r.left ≡ ms.left - 1 → After b ms r
  unfolding later past_member
  run_after ms s f = record { book = own; place = s.place; left = f; bytes = s.is; is = rw (listed_is, s.is, f) }

module _ (b : List ℕ) (at : ℕ) (r : Bool) (e : r ≡ is_there b at 13) where
  pub skip_there : r ≡ true → Skipped b at 14 (at + 14)
  skip_there y = skip_to b at 14 (omega (arith, is_inside b at 13 r e y))

  pub skip_cut : r ≡ false → Skipped b at 14 (length b)
  skip_cut y = skip_over b at 14 (omega (arith, is_outside b at 13 r e y))

  -- .. and the run that stands there
  module _ (n : ℕ) (f : n ≡ pair (from b at) 12) (h : n < 65536) (s : Run) (own : s.book.now ≡ b) (left : s.left ≡ n) where
    pub start_there : r ≡ true → s.at ≡ at + 14 → Started b at s
    start_there y q = run_start b s own at (rw q (skip_there y)) (left ∙ f) (rw left h)

    pub start_cut : r ≡ false → s.at ≡ length b → Started b at s
    start_cut y q = run_start b s own at (rw q (skip_cut y)) (left ∙ f) (rw left h)

length_places_of : (b : List ℕ) (p n : ℕ) → length (member_places b p n) ≡ n
unfolding member_places
length_places_of b p zero = refl
length_places_of b p (suc n) = ap suc (length_places_of b (onward b p (9 + 4 * byte (from b p) 8)) n)

pub length_left : (r : Run) → length (places_left r) ≡ r.left
unfolding places_left
length_left r = length_places_of r.book.now r.at r.left

-- a run's next place, and the others
module _ (r : Run) where
  pub places_none : r.left ≡ 0 → places_left r ≡ []
  unfolding places_left member_places
  places_none h = rw h

  pub places_some : (t : Run) → 0 < r.left → After r.book.now r t → places_left r ≡ r.at ∷ places_left t
  unfolding places_left member_places
  places_some t h s =
      let j : r.left ≡ suc (r.left - 1) = omega arith in
      rw (s.book, s.place, s.left) (ap (λ (l : ℕ). member_places r.book.now r.at l) j)

-- and the members there
module _ (b : List ℕ) (r : Run) where
  pub listed_none : places_left r ≡ [] → listed b r ≡ []
  unfolding listed
  listed_none h = rw h

  pub listed_some : (p : ℕ) (t : Run) → places_left r ≡ p ∷ places_left t → listed b r ≡ member_at b p ∷ listed b t
  unfolding listed
  listed_some p t h = rw h

-- the type with a number
nothing : (b : List ℕ) → type_at b (length b) ≡ no_type
unfolding type_of no_type from members_of
nothing b =
    let e : drop (length b) b ≡ [] = drop-length b in
    rw e

types_past : (b index : List ℕ) (k : ℕ) → length index ≤ k → type_at b (length b) ≡ type_no (types_by b index) k
unfolding type_no types_by
types_past b [] k h = nothing b
types_past b (x ∷ xs) zero h = absurd (omega arith)
types_past b (x ∷ xs) (suc k) h = types_past b xs k (omega arith)

types_here : (b index : List ℕ) (k d : ℕ) → k < length index → type_at b (get_or index k d) ≡ type_no (types_by b index) k
unfolding type_no types_by
types_here b [] k d h = absurd (omega arith)
types_here b (x ∷ xs) zero d h = refl
types_here b (x ∷ xs) (suc k) d h = types_here b xs k d (omega arith)

same_element : (index : List ℕ) (k c d : ℕ) → k < length index → get_or index k c ≡ get_or index k d
same_element [] k c d h = absurd (omega arith)
same_element (x ∷ xs) zero c d h = refl
same_element (x ∷ xs) (suc k) c d h = same_element xs k c d (omega arith)

pub place_past : (b index : List ℕ) (k : ℕ) → length index ≤ k → PlaceOf b index k (length b)
place_past b index k h =
    record { place = sym (get_or-eq_default index (length b) h); is = types_past b index k h }

pub place_here : (b index : List ℕ) (k r : ℕ) → k < length index → r ≡ get_or index k 0 → PlaceOf b index k r
place_here b index k r h e =
    record { place = e ∙ same_element index k 0 (length b) h; is = rw e (types_here b index k 0 h) }
