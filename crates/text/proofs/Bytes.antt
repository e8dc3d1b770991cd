-- Laws of the UTF-8 check: a row of the table, byte by byte; the loop's turn and end; the highest byte. Assumes nothing.
use Prim.Native.Nat.{ℕ, suc, ◌+◌, ◌-◌, ◌<◌, ◌≤◌}
use mathlib.Core.Path.{◌≡◌, refl, sym, ◌∙◌}
use mathlib.Core.Bool.{Bool, true, false, ◌&&◌}
use mathlib.Core.List.{List, [], ◌∷◌, ◌++◌, append-nil}
use native.Mathlib.Omega.{arith}
use native.Mathlib.Numerals.{add-one}
use lib.ListN.{length, get_or, take, drop, drop_of_length-le, length-drop, length-map, length-append}
use lib.Seq.{drop-cons, drop-drop, drop-append_seam, take-length}
use borrow.Author.Tests.{ltb-true}
use Rattle.ground.specs.Choice.{pick, both, Range, within}
use Rattle.ground.proofs.Tests.{both_false, both_second, and_both, apart}
use Rattle.text.specs.Unicode.{Follow, nothing, ranges, on_follow, follow, table37, rest_good}
use Rattle.std.specs.Prelude.{Option, Some, None, map, take_while, ltb}
use Rattle.std.proofs.lemmas.List.{length-take-le}
use Rattle.std.proofs.lemmas.List.Sums.{take_while-cons, prefix_len-le-length}
use Rattle.text.specs.declared.utf8.In.{In}
use Rattle.text.specs.Code.Sequence.{range_of, begins, on_row, Row, row_length, Passed}
use Rattle.text.proofs.Table.{first_line}

-- what is left of a list that has a byte at i
from : (s : List ℕ) (i : ℕ) → i < length s → drop i s ≡ get_or s i 0 ∷ drop (i + 1) s
from s i h = rw (add-one i, drop-cons s i 0 h)

-- fewer bytes than ranges
too_few : (rs : List Range) (xs : List ℕ) → length xs < length rs → begins rs xs ≡ false
unfolding begins
too_few [] xs h = absurd (omega arith)
too_few (r ∷ rs) [] h = refl
too_few (r ∷ rs) (x ∷ xs) h = rw (too_few rs xs (omega arith)) (both_false (within r x))

both_true : (p : Bool) → p ≡ both p true
both_true true = refl
both_true false = refl

-- what tests of the bytes after a first one, which stands at `at`, tell of its row
module _ (s : List ℕ) (at : ℕ) where
  pub last_test : (i : ℕ) (r : Range) (p : Bool) → p ≡ within r (get_or s (at + i) 0) → at + i < length s → p ≡ begins (r ∷ []) (drop (at + i) s)
  unfolding begins
  last_test i r p e h = rw (from s (at + i) h, ← e) (both_true p)

  pub next_test : (i : ℕ) (r : Range) (rs : List Range) (p q : Bool) → p ≡ within r (get_or s (at + i) 0) → q ≡ begins rs (drop (at + (i + 1)) s) → at + i < length s
      → (p && q) ≡ begins (r ∷ rs) (drop (at + i) s)
  unfolding begins
  next_test i r rs p q e f h =
      let k : at + (i + 1) ≡ at + i + 1 = omega arith in
      rw (from s (at + i) h, ← e, ← k, ← f) (and_both p q)

  pub row_tested : (rs : List Range) (p : Bool) (n : Option ℕ) → at < length s → p ≡ begins rs (drop (at + 1) s) → n ≡ pick p (Some (suc (length rs))) None → Row s at (ranges rs) n
  unfolding on_row
  row_tested rs p n h e t = record { begun = h; counted = rw (← e) t }

  pub row_short : (rs : List Range) → at < length s → length s - at < suc (length rs) → Row s at (ranges rs) None
  row_short rs h k = row_tested rs false None h (sym (too_few rs (drop (at + 1) s) (simp length-drop (omega arith)))) refl

from_column : (cs : List In) (i : ℕ) (d : In) → i < length cs → drop i cs ≡ get_or cs i d ∷ drop (i + 1) cs
from_column cs i d h = rw (add-one i, drop-cons cs i d h)

-- of a line whose first byte stands at `at`, i columns hold: it is for the others to say
abbrev pub Held : List ℕ → ℕ → List In → ℕ → Type 0
Held s at cs i = begins (map range_of (drop i cs)) (drop (at + 1 + i) s) ≡ begins (map range_of cs) (drop (at + 1) s)

pub held_none : (s : List ℕ) (at : ℕ) (cs : List In) → Held s at cs 0
held_none s at cs = let e : at + 1 + 0 ≡ at + 1 = omega arith in rw e

-- a line's columns, one after the other
module _ (s : List ℕ) (at : ℕ) (cs : List In) (n : ℕ) (long : length cs ≡ n) where
  pub held_short : at < length s → length s - at ≤ n → Row s at (ranges (map range_of cs)) None
  held_short h k = row_short s at (map range_of cs) h (simp length-map (omega (arith, long)))

  module _ (i : ℕ) (d : In) (held : Held s at cs i) (l : i < n) (k : at + 1 + i < length s) (b : Bool) (is : b ≡ within (range_of (get_or cs i d)) (get_or s (at + 1 + i) 0)) where
    next : both b (begins (map range_of (drop (i + 1) cs)) (drop (at + 1 + (i + 1)) s)) ≡ begins (map range_of cs) (drop (at + 1) s)
    next = sym (and_both b _) ∙ next_test s (at + 1) i (range_of (get_or cs i d)) (map range_of (drop (i + 1) cs)) b _ is refl k ∙ (rw (from_column cs i d (omega (arith, long))) at held)

    pub held_next : b ≡ true → Held s at cs (i + 1)
    held_next e = rw e at next

    pub held_broken : b ≡ false → at < length s → Row s at (ranges (map range_of cs)) None
    held_broken e h = row_tested s at (map range_of cs) false None h (rw e at next) refl

  pub row_whole : (i : ℕ) → Held s at cs i → n ≤ i → at < length s → Row s at (ranges (map range_of cs)) (Some (n + 1))
  unfolding begins
  row_whole i held l h = row_tested s at (map range_of cs) true (Some (n + 1)) h (rw (drop_of_length-le cs {i = i} (rw long l)) at held) (rw (length-map, long, add-one))

pub ruleset row_laws = (held_none, held_next, held_short, held_broken, row_whole)

-- ranges that are wanted: bytes that begin with one in each, and then whole rows
both_pick : (w b g : Bool) → both w (pick b g false) ≡ pick (both w b) g false
both_pick true b g = refl
both_pick false b g = refl

wanted : (rs : List Range) (xs : List ℕ) → rest_good table37 xs rs ≡ pick (begins rs xs) (rest_good table37 (drop (length rs) xs) []) false
unfolding begins rest_good
wanted [] xs = refl
wanted (r ∷ rs) [] = refl
wanted (r ∷ rs) (x ∷ xs) = rw (wanted rs xs) (both_pick (within r x) (begins rs xs) (rest_good table37 (drop (length rs) xs) []))

enough : (rs : List Range) (xs : List ℕ) → begins rs xs ≡ true → length rs ≤ length xs
unfolding begins
enough [] xs e = omega arith
enough (r ∷ rs) [] e = absurd (apart e)
enough (r ∷ rs) (x ∷ xs) e = omega (arith, enough rs xs (both_second (within r x) (begins rs xs) e))

-- a sequence was taken, or there is none
module _ (x : ℕ) (xs : List ℕ) where
  abbrev Goes : ℕ → Bool → Type 0
  Goes n good = (0 < n) × (n ≤ suc (length xs)) × (rest_good table37 (drop n (x ∷ xs)) [] ≡ good)

  row_taken : (n : ℕ) (b : Bool) (rs : List Range) → begins rs xs ≡ b → Some n ≡ pick b (Some (suc (length rs))) None → Goes n (rest_good table37 xs rs)
  row_taken n true rs e f = let k : n ≡ suc (length rs) = cc in rw k (omega arith, omega (arith, enough rs xs e), rw (wanted rs xs, e))
  row_taken n false rs e f = absurd (cc)

  taken : (n : ℕ) (f : Follow) → Some n ≡ on_row f xs → Goes n (on_follow f (λ rs. rest_good table37 xs rs))
  unfolding on_row
  taken n nothing e = absurd (cc)
  taken n (ranges rs) e = row_taken n (begins rs xs) rs refl e

  row_none : (b : Bool) (rs : List Range) → begins rs xs ≡ b → None ≡ pick b (Some (suc (length rs))) None → false ≡ rest_good table37 xs rs
  row_none true rs e f = absurd (cc)
  row_none false rs e f = rw (wanted rs xs, e)

  none : (f : Follow) → None ≡ on_row f xs → false ≡ on_follow f (λ rs. rest_good table37 xs rs)
  unfolding on_row
  none nothing e = refl
  none (ranges rs) e = row_none (begins rs xs) rs refl e

pub stays : (s : List ℕ) (at : ℕ) → at ≤ length s → Passed s at at
stays s at h = record { beyond = omega arith; inside = h; same = refl }

pub further : (s : List ℕ) (a b c : ℕ) → Passed s a b → Passed s b c → Passed s a c
further s a b c p q = record { beyond = omega (arith, p.beyond, q.beyond); inside = q.inside; same = q.same ∙ p.same }

-- one turn of the loop over the sequences
module _ (s : List ℕ) (i : ℕ) (h : i < length s) (r : Option ℕ) (is : r ≡ row_length (drop i s)) where
  module _ (n : ℕ) (e : r ≡ Some n) where
    goes : Goes (get_or s i 0) (drop (i + 1) s) n (rest_good table37 (drop i s) [])
    unfolding rest_good row_length
    goes =
        let d = from s i h in
        rw d (taken (get_or s i 0) (drop (i + 1) s) n (follow table37 (get_or s i 0)) (sym e ∙ (rw d at is)))

    pub turn_some : 0 < n
    turn_some = goes.0

    pub turn_on : Passed s i (i + n)
    turn_on = record {
      beyond = omega arith;
      inside = omega (arith, goes.1, length-drop (i + 1) s);
      same = rw (← drop-drop n i s) (rw (← from s i h) at goes.2);
    }

  pub turn_bad : r ≡ None → false ≡ rest_good table37 (drop i s) []
  unfolding rest_good row_length
  turn_bad e =
      let d = from s i h in
      rw d (none (get_or s i 0) (drop (i + 1) s) (follow table37 (get_or s i 0)) (sym e ∙ (rw d at is)))

-- past the last sequence
pub at_end : (s : List ℕ) (i : ℕ) → length s ≤ i → true ≡ rest_good table37 (drop i s) []
unfolding rest_good
at_end s i h = rw (drop_of_length-le s h)

-- bytes below 80, before any others
past_ascii : (xs ys : List ℕ) (top : ℕ) → ((k : ℕ) → k < length xs → get_or xs k 0 ≤ top) → top < 0x80 → rest_good table37 ys [] ≡ rest_good table37 (xs ++ ys) []
unfolding rest_good
past_ascii [] ys top f h = refl
past_ascii (x ∷ xs) ys top f h =
    let a : x < 0x80 = omega (arith, f 0 (omega arith)) in
    rw (← first_line x a) (past_ascii xs ys top (λ k b. f (suc k) (omega arith)) h)

-- going on by a block of n bytes below 80
module _ (s : List ℕ) (at i : ℕ) (p : Passed s at i) (block rest : List ℕ) (is : drop i s ≡ block ++ rest) (n : ℕ) (long : length block ≡ n) where
  pub block_rest : rest ≡ drop (i + n) s
  block_rest = rw (← drop-drop n i s, is, ← long, drop-append_seam)

  pub block_passed : (top : ℕ) → ((j : ℕ) → j < length block → get_or block j 0 ≤ top) → top < 0x80 → Passed s at (i + n)
  block_passed top f h = record {
    beyond = omega (arith, p.beyond);
    inside = let e : length s - i ≡ length block + length rest = rw (← (length-drop i s), is) (length-append block rest) in omega (arith, p.inside);
    same = rw (← block_rest) (past_ascii block rest top f h ∙ (rw is at p.same));
  }

-- going on by one byte below 80
module _ (s : List ℕ) (at i : ℕ) (p : Passed s at i) where
  pub byte_passed : i < length s → get_or s i 0 < 0x80 → Passed s at (i + 1)
  unfolding rest_good
  byte_passed l h = record {
    beyond = omega (arith, p.beyond);
    inside = omega arith;
    same = rw (← p.same, from s i l, ← first_line (get_or s i 0) h);
  }

-- bytes that each are a line of the table by themselves
pub ascii : (s : List ℕ) (top : ℕ) → ((k : ℕ) → k < length s → get_or s k 0 ≤ top) → top < 0x80 → true ≡ rest_good table37 s []
unfolding rest_good
ascii s top f h = past_ascii s [] top f h ∙ rw (append-nil s)

-- the bytes below 80 that come first
module _ (x : ℕ) (xs : List ℕ) (ih : rest_good table37 (drop (length (take_while (λ y. ltb y 0x80) xs)) xs) [] ≡ rest_good table37 xs []) where
  low_step : (b : Bool) → ltb x 0x80 ≡ b → rest_good table37 (drop (length (take_while (λ y. ltb y 0x80) (x ∷ xs))) (x ∷ xs)) [] ≡ rest_good table37 (x ∷ xs) []
  unfolding rest_good
  low_step true e = rw (take_while-cons (λ y. ltb y 0x80) x xs, e, ← first_line x (ltb-true x 0x80 e)) ih
  low_step false e = rw (take_while-cons (λ y. ltb y 0x80) x xs, e)

low_first : (xs : List ℕ) → rest_good table37 (drop (length (take_while (λ y. ltb y 0x80) xs)) xs) [] ≡ rest_good table37 xs []
low_first [] = refl
low_first (x ∷ xs) = low_step x xs (low_first xs) (ltb x 0x80) refl

module _ (s : List ℕ) (at i : ℕ) (p : Passed s at i) (n : ℕ) (is : n ≡ length (take_while (λ x. ltb x 0x80) (take (length s - i) (drop i s)))) where
  rest_is : take (length s - i) (drop i s) ≡ drop i s
  rest_is = rw (← (length-drop i s), take-length)

  pub low_inside : i + n ≤ length s
  low_inside =
      let e : n ≡ length (take_while (λ x. ltb x 0x80) (drop i s)) = rw rest_is at is in
      let h = prefix_len-le-length (λ x. ltb x 0x80) (drop i s) in
      omega (arith, p.inside, e ∙ length-take-le _ (drop i s) h, h, length-drop i s)

  pub low_passed : Passed s at (i + n)
  low_passed = record {
    beyond = omega (arith, p.beyond);
    inside = low_inside;
    same = rw (← drop-drop n i s, is, rest_is) (low_first (drop i s)) ∙ p.same;
  }
