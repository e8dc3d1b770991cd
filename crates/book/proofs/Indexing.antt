-- Laws of the index: what each turn leaves, and which types the places spell. Assumes nothing.
use Prim.Native.Nat.{ℕ, zero, suc, ◌+◌, ◌-◌, ◌*◌, ◌<◌, ◌≤◌, min}
use mathlib.Core.Path.{◌≡◌, refl, sym, ap, ◌∙◌}
use mathlib.Core.List.{List, [], ◌∷◌, ◌++◌, append_assoc, append-nil}
use native.Mathlib.Omega.{arith}
use native.Mathlib.Numerals.{add-one}
use lib.ListN.{length, take, drop, set, length-set, take-append-drop}
use lib.Seq.{drop-drop, take-suc-set, drop-set-lt, take_at}
use Rattle.book.specs.Types.{BookType, pair, past_type, types_from, type_count}
use Rattle.book.proofs.Places.{from_onward}
use Rattle.book.specs.Places.{from, type_at, onward, Skipped, places_from, index_count, indexed, types_by}

-- after i places the walk stands at p, and n - i are to come
pub record Indexing (b before now : List ℕ) (n i p : ℕ) : Type 0 where
  pub long : length now ≡ length before
  pub upto : i ≤ n
  pub places : take i now ++ places_from b p (n - i) ≡ places_from b 7 n
  pub kept : drop i now ≡ drop i before
  pub near : p ≤ 7 + 65535 * i

pub indexing_start : (b t : List ℕ) (n : ℕ) → Indexing b t t n 0 7
indexing_start b t n =
    let e : n - 0 ≡ n = omega arith in
    record { long = refl; upto = omega arith; places = rw e; kept = refl; near = omega arith }

pub indexing_more : (b t u : List ℕ) (n i p q k : ℕ) → Indexing b t u n i p → i < n → n ≤ length t → k ≡ pair (from b p) 0 → k < 65536 → Skipped b p k q
    → Indexing b t (set u i p) n (i + 1) q
unfolding places_from
indexing_more b t u n i p q k x h l e z s =
    let f : n - i ≡ suc (n - suc i) = omega arith in
    let w : i < length u = omega (arith, x.long) in
    let o : q ≡ onward b p (pair (from b p) 0) = s.place ∙ ap (λ (y : ℕ). onward b p y) e in
    record {
      long = length-set u i p ∙ x.long;
      upto = omega arith;
      places =
          rw (add-one i, take-suc-set u i p w, append_assoc (take i u) (p ∷ []) (places_from b q (n - suc i)), o) (rw f at x.places);
      kept = rw add-one (drop-set-lt (suc i) u i p (omega arith) ∙ further u t i x.kept);
      near = omega (arith, x.near, s.place);
    }
  where
    further : (u t : List ℕ) (i : ℕ) → drop i u ≡ drop i t → drop (suc i) u ≡ drop (suc i) t
    further u t i e = rw (← add-one i, ← drop-drop 1 i u, ← drop-drop 1 i t, e)

pub indexing_end : (b t u : List ℕ) (n i p c y : ℕ) → Indexing b t u n i p → n ≤ i → c ≡ type_count b
    → y ≡ min c 64 → n ≡ min y (length t) → u ≡ indexed b t
unfolding places_from
indexing_end b t u n i p c y x h f g k =
    let e : n ≡ index_count b (length t) = omega (arith, f, g, k) in
    let d : i ≡ n = omega (arith, x.upto) in
    let z : n - n ≡ 0 = omega arith in
    let l : take n u ≡ places_from b 7 n = sym (append-nil (take n u)) ∙ (rw (d, z) at x.places) in
    let r : drop n u ≡ drop n t = rw d at x.kept in
    sym (take-append-drop n u) ∙ (rw (l, r, e))

pub ruleset indexing_laws = (indexing_start, indexing_more, indexing_end)

-- THE PLACES SPELL THE TYPES, for any bytes
pub places_spell : (b : List ℕ) (p n : ℕ) → types_by b (places_from b p n) ≡ types_from n (from b p)
unfolding places_from types_by types_from past_type
places_spell b p zero = refl
places_spell b p (suc n) =
    ap (λ (ts : List BookType). type_at b p ∷ ts) (places_spell b (onward b p (pair (from b p) 0)) n ∙ ap (types_from n) (from_onward b p (pair (from b p) 0)))

pub length_places : (b : List ℕ) (p n : ℕ) → length (places_from b p n) ≡ n
unfolding places_from
length_places b p zero = refl
length_places b p (suc n) = ap suc (length_places b (onward b p (pair (from b p) 0)) n)

-- the words that `index` counted are the places
pub take_indexed : (b t : List ℕ) → take (index_count b (length t)) (indexed b t) ≡ places_from b 7 (index_count b (length t))
take_indexed b t =
    take_at (places_from b 7 (index_count b (length t))) (drop (index_count b (length t)) t) (index_count b (length t)) (length_places b 7 (index_count b (length t)))

-- THE INDEX IS RIGHT, as far as it goes, for any bytes
pub index_types : (b t : List ℕ) → types_by b (take (index_count b (length t)) (indexed b t)) ≡ types_from (index_count b (length t)) (from b 7)
index_types b t = rw (take_indexed b t) (places_spell b 7 (index_count b (length t)))
