-- Laws of the measure of a record, and of all of them: one for each way that the code goes. Assumes nothing.
use Prim.Native.Nat.{ℕ, zero, suc, ◌+◌, ◌-◌, ◌≤◌, ◌<◌, max}
use mathlib.Core.Path.{◌≡◌, refl, ◌∙◌}
use mathlib.Core.Bool.{Bool, true, false, not, ◌||◌}
use mathlib.Core.List.{List, [], ◌∷◌}
use native.Mathlib.Omega.{arith}
use native.Mathlib.Numerals.{add-one}
use lib.Dec.{eqb}
use lib.ListN.{length, get_or, take, set, length-set}
use lib.Seq.{take-suc-set}
use borrow.Author.Tests.{eq-eqb, ne_eqb, not-true, not-false, lt-ltb, le-ltb}
use Rattle.kinds.specs.Kinds.{opens}
use Rattle.book.specs.declared.member.Run.{Run}
use Rattle.book.specs.Types.{BookType, type_no}
use Rattle.book.specs.Places.{member_at, type_at, types_by, places_left, listed, Started, PlaceOf}
use Rattle.book.proofs.Places.{listed_none, listed_some}
use Rattle.fit.specs.Fit.{Clause, member_types, links_of, meets}
use Rattle.fit.specs.Code.Check.{too_long, longest_from, with_own, chain_of, chains_of, Measured}

-- the longest chain below a type
module _ (lower b : List ℕ) (at kind : ℕ) (is : kind ≡ (type_at b at).kind) where
  pub longest_list : (k r : ℕ) → (eqb kind 25 || eqb kind 26) ≡ true → k ≡ (type_at b at).element → r ≡ get_or lower k too_long → r ≡ longest_from lower 0 (links_of (type_at b at))
  unfolding links_of longest_from
  longest_list k r l e f = rw (← is, l, ← e) (omega arith)

  pub longest_enum : (eqb kind 25 || eqb kind 26) ≡ false → kind ≡ 21 → 0 ≡ longest_from lower 0 (links_of (type_at b at))
  unfolding links_of longest_from
  longest_enum l e = rw (← is, l, eq-eqb kind 21 e)

  pub longest_start : (ms : Run) → (eqb kind 25 || eqb kind 26) ≡ false → (kind ≡ 21 → ⊥) → Started b at ms → longest_from lower 0 (member_types (listed b ms)) ≡ longest_from lower 0 (links_of (type_at b at))
  unfolding links_of
  longest_start ms l n s = rw (← is, l, ne_eqb kind 21 n, s.is)

module _ (lower b : List ℕ) (m whole : ℕ) (ms : Run) (inv : longest_from lower m (member_types (listed b ms)) ≡ whole) where
  pub longest_turn : (p : ℕ) (rest : Run) → places_left ms ≡ p ∷ places_left rest → (k x y : ℕ) → k ≡ (member_at b p).type → x ≡ get_or lower k too_long → y ≡ max m x
      → longest_from lower y (member_types (listed b rest)) ≡ whole
  unfolding longest_from member_types
  longest_turn p rest h k x y e f g = rw (g, f, e) (rw (listed_some b ms p rest h) at inv)

  pub longest_end : places_left ms ≡ [] → m ≡ whole
  unfolding longest_from member_types
  longest_end h = rw (listed_none b ms h) at inv

pub ruleset longest_laws = (longest_list, longest_enum, longest_start, longest_turn, longest_end)

-- the longest chain from a type
module _ (clauses : List Clause) (types : List BookType) (lower : List ℕ) (t : BookType) (good : Bool) (met : good ≡ meets clauses types t) where
  pub chain_bad : not good ≡ true → 17 ≡ chain_of clauses types lower t
  unfolding chain_of
  chain_bad h = rw (← met, not-true good h)

  module _ (fine : not good ≡ false) (m : ℕ) (most : m ≡ longest_from lower 0 (links_of t)) where
    pub chain_far : 16 < m → 17 ≡ chain_of clauses types lower t
    unfolding chain_of with_own
    chain_far h = rw (← met, not-false good fine, ← most, lt-ltb 16 m h)

    module _ (near : m ≤ 16) (kind : ℕ) (is : kind ≡ t.kind) (o : Bool) (opened : o ≡ opens kind) where
      pub chain_open : o ≡ true → m + 1 ≡ chain_of clauses types lower t
      unfolding chain_of with_own
      chain_open e = rw (← met, not-false good fine, ← most, le-ltb 16 m near, ← is, ← opened, e) (add-one m)

      pub chain_flat : o ≡ false → m ≡ chain_of clauses types lower t
      unfolding chain_of with_own
      chain_flat e = rw (← met, not-false good fine, ← most, le-ltb 16 m near, ← is, ← opened, e)

pub ruleset Chain-laws = (chain_bad, chain_far, chain_open, chain_flat)

-- all records, the lower ones first
pub chains_none : (clauses : List Clause) (types : List BookType) (l : List ℕ) (n : ℕ) → n ≡ 0 → Measured clauses types n l l
unfolding chains_of
chains_none clauses types l n e = record { long = refl; is = rw e }

pub chains_next : (clauses : List Clause) (b index l u : List ℕ) (n p m : ℕ) → (n ≡ 0 → ⊥) → n ≤ length l → Measured clauses (types_by b index) (n - 1) l u → PlaceOf b index (n - 1) p
    → m ≡ chain_of clauses (types_by b index) (take (n - 1 - 0) u) (type_at b p) → Measured clauses (types_by b index) n l (set u (n - 1) m)
unfolding chains_of
chains_next clauses b index l u zero p m z h below at e = absurd (z refl)
chains_next clauses b index l u (suc n) p m z h below at e =
    let j : suc n - 1 ≡ n = omega arith in
    let i : n - 0 ≡ n = omega arith in
    let low : take n u ≡ chains_of clauses (types_by b index) n = rw j at below.is in
    let own : m ≡ chain_of clauses (types_by b index) (chains_of clauses (types_by b index) n) (type_no (types_by b index) n) = rw (j, i, low, rw j at at.is) at e in
    record { long = length-set u (suc n - 1) m ∙ below.long; is = rw (j, take-suc-set u n m (omega (arith, below.long)), low, own) }
