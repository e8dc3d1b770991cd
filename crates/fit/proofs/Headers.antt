-- ORDER 3, WHAT IT IS FOR: in a type that passes no header fills two columns, and each member can be found. The statements cite only definitions of
-- `specs/`. Assumes nothing.
use Rattle.std.specs.declared.ops.ControlFlow.TheVariants.{Break}
use Rattle.std.specs.Prelude.{Ok, Some}
use Prim.Native.Nat.{ℕ, zero, suc, ◌≤◌, ◌<◌}
use mathlib.Core.Path.{◌≡◌, refl, sym, ap, ◌∙◌}
use mathlib.Core.Logic.{⊎_elim}
use mathlib.Core.Bool.{Bool, true, false, ◌||◌}
use mathlib.Core.List.{List, [], ◌∷◌}
use native.Mathlib.Omega.{arith}
use lib.Dec.{eqb}
use lib.ListN.{length, get_or}
use borrow.Author.Tests.{not-true, eqb-false, leb-true}
use Rattle.ground.specs.Choice.{pick, both, every}
use Rattle.ground.proofs.Tests.{both_first, both_second}
use Rattle.wire.specs.declared.cursor.Cursor.{Cursor}
use Rattle.wire.specs.declared.settings.Settings.{Settings}
use Rattle.wire.specs.declared.settings.Version.{Version}
use Rattle.wire.specs.declared.settings.Version.TheVariants.{Xcdr1, Xcdr2}
use Rattle.book.specs.Types.{BookType, Member, types_of, no_type, type_no}
use Rattle.book.specs.Rules.{book_ok}
use Rattle.book.proofs.Good.{type_good, ids_differ}
use Rattle.lookup.specs.Member.{asked_for}
use Rattle.lookup.specs.Search.{past_value, on_to}
use Rattle.lookup.specs.Xcdr1 as xcdr1
use Rattle.lookup.specs.Xcdr2 as xcdr2
use Rattle.fit.specs.Fit.{Reach, meets}
use Rattle.fit.specs.Ids.{has_headers, low_bits, id_fits, other_low, low_differ, ids_fit, clauses_for, UsedWith, any_encoding, xcdr2_only, header_id, words_of, IsHeaderOf, id_no, NoHeaderFillsTwo, EachHasHeader, held_by}
use Rattle.fit.specs.Check.{check_of}
use Rattle.fit.proofs.Exact.{below_or_not}
use Rattle.fit.proofs.Books.{past_end}
use Rattle.fit.proofs.Demand3.{check_says, passing}

-- ---- the searches ask just this

module _ (s : List ℕ) (set : Settings) (wanted word n : ℕ) (c : Cursor) where
  pub xcdr1_asks : xcdr1.verdict s set wanted (xcdr1.id_of word) n c
      ≡ pick (xcdr1.is_end (xcdr1.id_of word) n) (Ok (Break (xcdr1.ended wanted c))) (pick (eqb (header_id Xcdr1 word) (asked_for Xcdr1 wanted)) (Ok (Break (Some (n, c)))) (on_to (past_value s set c n)))
  unfolding xcdr1.verdict header_id asked_for
  xcdr1_asks = refl

  pub xcdr2_asks : xcdr2.verdict s set wanted word n c
      ≡ pick (eqb (header_id Xcdr2 word) (asked_for Xcdr2 wanted)) (Ok (Break (Some (xcdr2.length_from set.mode (xcdr2.lc_of word) n, xcdr2.value_from set.mode (xcdr2.lc_of word) c)))) (on_to (past_value s set c n))
  unfolding xcdr2.verdict header_id asked_for
  xcdr2_asks = refl

-- ---- a list of members

other_at : (id : ℕ) (ms : List Member) (j : ℕ) → every (other_low id) ms ≡ true → j < length ms → low_bits (id_no ms j) ≡ low_bits id → ⊥
unfolding every other_low id_no
other_at id [] j e h g = absurd (omega arith)
other_at id (m ∷ ms) zero e h g =
    eqb-false (low_bits m.id) (low_bits id) (not-true (eqb (low_bits m.id) (low_bits id)) (both_first (other_low id m) (every (other_low id) ms) e)) g
other_at id (m ∷ ms) (suc j) e h g = other_at id ms j (both_second (other_low id m) (every (other_low id) ms) e) (omega arith) g

low_apart : (ms : List Member) (i j : ℕ) → low_differ ms ≡ true → i < j → j < length ms → low_bits (id_no ms i) ≡ low_bits (id_no ms j) → ⊥
unfolding low_differ id_no
low_apart [] i j e l h g = absurd (omega arith)
low_apart (m ∷ ms) i zero e l h g = absurd (omega arith)
low_apart (m ∷ ms) zero (suc j) e l h g = other_at m.id ms j (both_first (every (other_low m.id) ms) (low_differ ms) e) (omega arith) (sym g)
low_apart (m ∷ ms) (suc i) (suc j) e l h g = low_apart ms i j (both_second (every (other_low m.id) ms) (low_differ ms) e) (omega arith) (omega arith) g

fits_at : (only : Bool) (ms : List Member) (i : ℕ) → every (id_fits only) ms ≡ true → i < length ms → (m : Member) × (id_fits only m ≡ true) × (m.id ≡ id_no ms i)
unfolding every id_no
fits_at only [] i e h = absurd (omega arith)
fits_at only (m ∷ ms) zero e h = (m, both_first (id_fits only m) (every (id_fits only) ms) e, refl)
fits_at only (m ∷ ms) (suc i) e h = fits_at only ms i (both_second (id_fits only m) (every (id_fits only) ms) e) (omega arith)

id_at : (d : Member) (ms : List Member) (i : ℕ) → i < length ms → (get_or ms i d).id ≡ id_no ms i
unfolding id_no
id_at d [] i h = absurd (omega arith)
id_at d (m ∷ ms) zero h = refl
id_at d (m ∷ ms) (suc i) h = id_at d ms i (omega arith)

same_number : (i j : ℕ) → (i < j → ⊥) → (j < i → ⊥) → i ≡ j
same_number i j f g = ⊎_elim (λ (h : i < j). absurd (f h)) (λ (h : j ≤ i). ⊎_elim (λ (k : j < i). absurd (g k)) (λ (k : i ≤ j). omega arith) (below_or_not j i)) (below_or_not i j)

-- what the lookup asks for, of each version
low_of : (word i j : ℕ) → IsHeaderOf Xcdr1 word i → IsHeaderOf Xcdr1 word j → low_bits i ≡ low_bits j
unfolding header_id asked_for
low_of word i j p q = sym p ∙ q

all_of : (word i j : ℕ) → IsHeaderOf Xcdr2 word i → IsHeaderOf Xcdr2 word j → i ≡ j
unfolding header_id asked_for
all_of word i j p q = sym p ∙ q

module _ (ms : List Member) where
  apart_xcdr1 : low_differ ms ≡ true → NoHeaderFillsTwo Xcdr1 ms
  apart_xcdr1 e word i j a b p q =
      let same = low_of word (id_no ms i) (id_no ms j) p q in
      same_number i j (λ l. low_apart ms i j e l b same) (λ l. low_apart ms j i e l a (sym same))

  apart_xcdr2 : ((i j : ℕ) → i < j → j < length ms → id_no ms i ≡ id_no ms j → ⊥) → NoHeaderFillsTwo Xcdr2 ms
  apart_xcdr2 differ word i j a b p q =
      let same = all_of word (id_no ms i) (id_no ms j) p q in
      same_number i j (λ l. differ i j l b same) (λ l. differ j i l a (sym same))

held : (only : Bool) (m : Member) → id_fits only m ≡ true → (word : ℕ) × (word < words_of (held_by only)) × IsHeaderOf (held_by only) word m.id
unfolding id_fits header_id asked_for
held false m e =
    let h : low_bits m.id ≤ 16383 = leb-true (low_bits m.id) 16383 e in
    (low_bits m.id, omega arith, omega arith)
held true m e =
    let h : m.id ≤ 268435455 = leb-true m.id 268435455 e in
    (m.id, omega arith, omega arith)

-- ---- a type of a good book

book_ids : (book : List ℕ) → book_ok book ≡ true → (k i j : ℕ) → i < j → j < length (type_no (types_of book) k).members → id_no (type_no (types_of book) k).members i ≡ id_no (type_no (types_of book) k).members j → ⊥
unfolding no_type
book_ids book good k i j l h e =
    let types = types_of book in
    let t = type_no types k in
    let d : Member = record { id = 0; type = 0; flags = 0; construct = 0; labels = [] } in
    ⊎_elim
    (λ (low : k < length types). ids_differ types k t (type_good book k good low) d i j l h (id_at d t.members i (omega arith) ∙ e ∙ sym (id_at d t.members j h)))
    (λ (out : length types ≤ k). let none : length t.members ≡ 0 = ap (λ (u : BookType). length u.members) (past_end types k out) in omega arith)
    (below_or_not k (length types))

asked : (only : Bool) (types : List BookType) (t : BookType) → meets (clauses_for only) types t ≡ true → has_headers t ≡ true → both (every (id_fits only) t.members) (only || low_differ t.members) ≡ true
unfolding meets clauses_for every ids_fit
asked only types t e h = rw h at (both_first (ids_fit only types t) _ e)

by_use : (only : Bool) (version : Version) (ms : List Member) → UsedWith only version → both (every (id_fits only) ms) (only || low_differ ms) ≡ true
    → ((i j : ℕ) → i < j → j < length ms → id_no ms i ≡ id_no ms j → ⊥) → NoHeaderFillsTwo version ms
by_use false Xcdr1 ms any_encoding e differ = apart_xcdr1 ms (both_second (every (id_fits false) ms) (low_differ ms) e)
by_use false Xcdr2 ms any_encoding e differ = apart_xcdr2 ms differ
by_use true Xcdr1 ms u e differ = elim u [ ]
by_use true Xcdr2 ms xcdr2_only e differ = apart_xcdr2 ms differ

-- OF EACH TYPE THAT IS REACHED FROM A ROOT THAT THE CHECK PASSES, and whose members are looked for by their headers
module _ (book : List ℕ) (root : ℕ) (only : Bool) (passes : check_of book root only ≡ 0) (k : ℕ) (reached : Reach (types_of book) root k) (looked : has_headers (type_no (types_of book) k) ≡ true) where
  both_asked : both (every (id_fits only) (type_no (types_of book) k).members) (only || low_differ (type_no (types_of book) k).members) ≡ true
  both_asked = asked only (types_of book) (type_no (types_of book) k) ((passing (check_says book root only) passes).1.fit.each k reached) looked

  -- in each version that the type is used with: XCDR1 and XCDR2 where it passed for any encoding, XCDR2 where it passed for that only
  pub no_header_fills_two : (version : Version) → UsedWith only version → NoHeaderFillsTwo version (type_no (types_of book) k).members
  no_header_fills_two version used = by_use only version (type_no (types_of book) k).members used both_asked (book_ids book (passing (check_says book root only) passes).0 k)

  -- by a header of XCDR1 where it passed for any encoding, of XCDR2 where it passed for that only
  pub each_has_header : EachHasHeader (held_by only) (type_no (types_of book) k).members
  each_has_header i h =
      let f = fits_at only (type_no (types_of book) k).members i (both_first (every (id_fits only) (type_no (types_of book) k).members) _ both_asked) h in
      let w = held only f.0 f.1 in
      (w.0, w.1, w.2 ∙ ap (asked_for (held_by only)) f.2)

-- THE LIMITS ARE NO SMALLER THAN THEY MUST BE: of an id beyond them there is no header, so no lookup of it finds one
pub unheld_xcdr1 : (word id : ℕ) → 16383 < low_bits id → IsHeaderOf Xcdr1 word id → ⊥
unfolding header_id asked_for
unheld_xcdr1 word id h e = omega arith

pub unheld_xcdr2 : (word id : ℕ) → 268435455 < id → IsHeaderOf Xcdr2 word id → ⊥
unfolding header_id asked_for
unheld_xcdr2 word id h e = omega arith
