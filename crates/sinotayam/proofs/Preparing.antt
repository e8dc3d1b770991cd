-- Laws of an index: what preparing leaves, how many types it holds, and that reading with it is reading with the book. Assumes nothing.
use Rattle.std.specs.Prelude.{Ok, Err, Option, None, Some}
use mathlib.Core.Path.{◌≡◌, refl, sym, ap, ◌∙◌}
use mathlib.Core.Bool.{Bool, true, false}
use mathlib.Core.List.{List, [], ◌∷◌, ◌++◌, append-nil}
use Prim.Native.Nat.{ℕ, zero, suc, ◌+◌, ◌-◌, ◌≤◌, ◌<◌}
use native.Mathlib.Omega.{arith}
use native.Mathlib.Nat.{le_refl}
use lib.Dec.{ltb}
use lib.ListN.{length, get_or, take, drop, set, length-append, length-drop, drop_of_length-le}
use lib.Seq.{take_at, take-length}
use borrow.Rule.Slice.PartMut.{put_mid}
use borrow.Author.Tests.{lt-ltb, eq-eqb, ne_eqb}
use Rattle.book.specs.Types.{BookType, type_count, types_of}
use Rattle.book.specs.Places.{from, places_from, index_count, indexed, types_by}
use Rattle.ground.specs.Choice.{pick}
use Rattle.book.specs.Rules.{head_ok, book_ok}
use Rattle.book.specs.declared.fault.Fault.{Fault}
use Rattle.book.specs.declared.index.Types.{Types}
use Rattle.book.specs.Fault.{Verdict, reason_number, fault_number, fault_of}
use Rattle.book.proofs.Indexing.{places_spell, length_places}
use Rattle.book.proofs.Good.{head_good, count_good}
use Rattle.book.proofs.Faults.{reason_told, told_wrong, told_nothing, right_told}
use Rattle.sinotayam.specs.declared.answer.Status.TheVariants.{Read, NotPrepared, BadBook}
use Rattle.sinotayam.specs.declared.answer.Answer.{Answer}
use Rattle.sinotayam.specs.Answer.{code_of, Result, refused_by, Settled}
use Rattle.sinotayam.specs.Entry.{refused_if, by_fault, with_book}
use Rattle.sinotayam.specs.Prepared.{HeldIn, has_places, prepare_of, prepared_from, own_from, places_in, with_index}
use Rattle.sinotayam.proofs.Settling.{settled_same}

-- PREPARING
-- the count before the places that the book's own index wrote from the second word on
after_count : (b lent : List ℕ) (n : ℕ) (ys : List ℕ) → n ≡ type_count b → type_count b ≤ 64 → n < length lent → ys ≡ indexed b (take (length lent - 1) (drop 1 lent)) → set (put_mid 1 (length lent - 1) lent ys) 0 n ≡ type_count b ∷ places_from b 7 (type_count b) ++ drop (suc (type_count b)) lent
after_count b [] n ys g few h k = absurd (omega arith)
after_count b (x ∷ xs) n ys g few h k =
    let l : length (x ∷ xs) - 1 ≡ length xs = omega arith in
    let c : index_count b (length xs) ≡ type_count b = omega arith in
    let e : ys ≡ places_from b 7 (type_count b) ++ drop (type_count b) xs = rw (l, take-length xs, c) at k in
    rw (l, drop_of_length-le xs (le_refl (length xs)), append-nil, e, g)

-- a book that breaks a rule
pub not_right : (b : List ℕ) (x : Fault) → fault_of b ≡ Err x → book_ok b ≡ false
not_right b x is = told_wrong b x.at x.reason is

module _ (b lent : List ℕ) (is : fault_of b ≡ Ok tt) where
  kept : book_ok b ≡ true
  kept = told_nothing b is

  -- an index with all places, of a right book
  module _ (n : ℕ) (g : n ≡ type_count b) (h : n < length lent) where
    pub prepare_good : code_of Read ≡ prepare_of b lent
    unfolding prepare_of has_places code_of
    prepare_good = rw (kept, lt-ltb (type_count b) (length lent) (omega (arith, g, h)))

    pub index_good : (ys : List ℕ) → ys ≡ indexed b (take (length lent - 1) (drop 1 lent)) → set (put_mid 1 (length lent - 1) lent ys) 0 n ≡ prepared_from b lent
    unfolding prepared_from has_places
    index_good ys k =
        rw (kept, lt-ltb (type_count b) (length lent) (omega (arith, g, h))) (after_count b lent n ys g (count_good b kept).1 h k)

-- a reading's own words, of which the judge was lent all but the first: that one, and what the judge leaves
own_judged : (b own ys : List ℕ) (m : ℕ) → 1 ≤ length own → m ≡ length own - 1 → ys ≡ pick (head_ok b) (indexed b (take m (drop 1 own))) (take m (drop 1 own)) → put_mid 1 m own ys ≡ get_or own 0 0 ∷ pick (head_ok b) (indexed b (drop 1 own)) (drop 1 own)
own_judged b [] ys m long l k = absurd (omega arith)
own_judged b (x ∷ xs) ys m long l k =
    let e : m ≡ length xs = omega arith in
    let w : ys ≡ pick (head_ok b) (indexed b xs) xs = rw (e, take-length xs) at k in
    rw (e, drop_of_length-le xs (le_refl (length xs)), append-nil, w)

-- the same of 65 words or more, and with the count in the first where the book is right
module _ (b own ys : List ℕ) (m : ℕ) (long : 65 ≤ length own) (l : m ≡ length own - 1) (k : ys ≡ pick (head_ok b) (indexed b (take m (drop 1 own))) (take m (drop 1 own))) where
  pub own_index : (n : ℕ) → fault_of b ≡ Ok tt → n ≡ type_count b → set (put_mid 1 m own ys) 0 n ≡ prepared_from b own
  own_index n is g =
      let e : book_ok b ≡ true = told_nothing b is in
      let w : ys ≡ indexed b (take (length own - 1) (drop 1 own)) = rw (← l) (rw (head_good b e) at k) in
      rw l (index_good b own is n g (omega (arith, long, g, (count_good b e).1)) ys w)

  words : put_mid 1 m own ys ≡ get_or own 0 0 ∷ pick (head_ok b) (indexed b (drop 1 own)) (drop 1 own)
  words = own_judged b own ys m (omega (arith, long)) l k

  pub own_right : (n : ℕ) → fault_of b ≡ Ok tt → n ≡ type_count b → set (put_mid 1 m own ys) 0 n ≡ own_from b own
  unfolding own_from
  own_right n is g = rw (words, told_nothing b is, g)

  pub own_broken : (x : Fault) → fault_of b ≡ Err x → put_mid 1 m own ys ≡ own_from b own
  unfolding own_from
  own_broken x is = rw (words, not_right b x is)

-- READING WITH AN INDEX
take_taken : (k : ℕ) (l : List ℕ) → take (length (take k l)) l ≡ take k l
take_taken zero l = refl
take_taken (suc k) [] = refl
take_taken (suc k) (x ∷ xs) = ap (λ (l : List ℕ). x ∷ l) (take_taken k xs)

-- the code lends the words after the first
places_part : (index : List ℕ) (n : ℕ) → n ≡ length (places_in index) → take (n + 1 - 1) (drop 1 index) ≡ places_in index
unfolding places_in
places_part index n is =
    let k : n + 1 - 1 ≡ length (take (get_or index 0 0) (drop 1 index)) = omega arith in
    rw k (take_taken (get_or index 0 0) (drop 1 index))

pub held_some : (b index : List ℕ) (n : ℕ) (r : Types) → n ≡ length (places_in index) → (n ≡ 0 → ⊥) → r.book.now ≡ b → r.index.now ≡ take (n + 1 - 1) (drop 1 index) → HeldIn b index (Some r)
unfolding HeldIn
held_some b index n r is h e f = (e, f ∙ places_part index n is, λ z. h (is ∙ z))

module _ (b index : List ℕ) (h : Option Types) (held : HeldIn b index h) (next : List BookType → Result) (t v : List ℕ) (r : Answer) where
  pub held_none : h ≡ None → Settled (refused_by NotPrepared) t v r → Settled (with_index b index next) t v r
  unfolding HeldIn with_index refused_if
  held_none e d = let z : HeldIn b index None = rw e at held in settled_same (rw (eq-eqb (length (places_in index)) 0 z)) d

  pub held_types : (x : Types) → h ≡ Some x → Settled (next (types_by x.book.now x.index.now)) t v r → Settled (with_index b index next) t v r
  unfolding HeldIn with_index refused_if
  held_types x e d =
      let z : HeldIn b index (Some x) = rw e at held in
      settled_same (rw (ne_eqb (length (places_in index)) 0 z.2)) (rw (z.0, z.1) at d)

-- PREPARED READING IS READING
module _ (b lent : List ℕ) (next : List BookType → Result) where
  same_good : book_ok b ≡ true → has_places b lent ≡ true → with_index b (prepared_from b lent) next ≡ with_book b next
  unfolding with_index with_book by_fault prepared_from places_in refused_if types_of from
  same_good e h =
      let few : 1 ≤ type_count b = (count_good b e).0 in
      let k : take (type_count b) (places_from b 7 (type_count b) ++ drop (suc (type_count b)) lent) ≡ places_from b 7 (type_count b) = take_at (places_from b 7 (type_count b)) (drop (suc (type_count b)) lent) (type_count b) (length_places b 7 (type_count b)) in
      rw (right_told b e, e, h, k, length_places b 7 (type_count b), ne_eqb (type_count b) 0 (omega arith))
      (ap next (places_spell b 7 (type_count b)))

  -- with what `prepare` leaves where it says 0
  pub prepared_same : prepare_of b lent ≡ 0 → with_index b (prepared_from b lent) next ≡ with_book b next
  unfolding prepare_of fault_number
  prepared_same said = by_fault_law (fault_of b) refl (has_places b lent) refl
    where
      by_fault_law : (f : Verdict) → fault_of b ≡ f → (g : Bool) → has_places b lent ≡ g → with_index b (prepared_from b lent) next ≡ with_book b next
      by_fault_law (Ok u) e true h = same_good (told_nothing b e) h
      by_fault_law (Ok u) e false h = let z : ◌≡◌ {A = ℕ} 13 0 = rw (told_nothing b e, h) at said in absurd (omega arith)
      by_fault_law (Err x) e g h =
          let z : reason_number x.reason ≡ 0 = rw (told_wrong b x.at x.reason e, e) at said in
          absurd (omega (arith, (reason_told x.reason).low))

-- READING WITH AN INDEX OF ITS OWN, by what the judge found
module _ (b : List ℕ) (f : Verdict) (found : f ≡ fault_of b) (next : List BookType → Result) where
  pub read_bad : (x : Fault) (v w : List ℕ) (r : Answer) → f ≡ Err x → Settled (refused_by (BadBook x.reason)) v w r → Settled (with_book b next) v w r
  unfolding with_book by_fault
  read_bad x v w r is d = settled_same (rw (← found, is)) d

  -- with an index of the call's own, of 65 words or more
  pub read_index : (own index : List ℕ) (v w : List ℕ) (r : Answer) → f ≡ Ok tt → 65 ≤ length own → index ≡ prepared_from b own → Settled (with_index b index next) v w r → Settled (with_book b next) v w r
  unfolding has_places
  read_index own index v w r is l k d =
      let e : book_ok b ≡ true = told_nothing b (sym found ∙ is) in
      let few : type_count b ≤ 64 = (count_good b e).1 in
      let h : ltb (type_count b) (length own) ≡ true = lt-ltb (type_count b) (length own) (omega arith) in
      settled_same (sym (rw k (same_good b own next e h))) d

  -- the count, and the words t as the judge leaves them
  module _ (t ys : List ℕ) (n : ℕ) (is : f ≡ Ok tt) (long : 64 ≤ length t) (g : n ≡ type_count b) (k : ys ≡ pick (head_ok b) (indexed b t) t) where
    own_same : n ∷ (ys ++ []) ≡ prepared_from b (0 ∷ t)
    unfolding prepared_from has_places
    own_same =
        let e : book_ok b ≡ true = told_nothing b (sym found ∙ is) in
        let few : type_count b ≤ 64 = (count_good b e).1 in
        let h : ltb (type_count b) (length (0 ∷ t)) ≡ true = lt-ltb (type_count b) (length (0 ∷ t)) (omega arith) in
        let i : index_count b (length t) ≡ type_count b = omega arith in
        let w : ys ≡ places_from b 7 (type_count b) ++ drop (type_count b) t = rw (head_good b e, i) at k in
        rw (e, h, append-nil ys, w, g)

    pub read_own : (v w : List ℕ) (r : Answer) → Settled (with_index b (n ∷ (ys ++ [])) next) v w r → Settled (with_book b next) v w r
    read_own v w r d = read_index (0 ∷ t) (n ∷ (ys ++ [])) v w r is (omega (arith, long)) own_same d

-- its length
pub own_words : (b t ys : List ℕ) → ys ≡ pick (head_ok b) (indexed b t) t → length t ≡ 64 → 65 ≡ suc (length (ys ++ []))
own_words b t ys k l = rw (append-nil ys, k) (by_head (head_ok b))
  where
    by_head : (f : Bool) → 65 ≡ suc (length (pick f (indexed b t) t))
    by_head true = simp (length-append, length_places, length-drop) (omega arith)
    by_head false = omega arith
