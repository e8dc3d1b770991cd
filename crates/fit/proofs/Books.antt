-- What a right book gives to the check and to a reading. Assumes nothing.
use Prim.Native.Nat.{ℕ, ◌≤◌, ◌<◌}
use mathlib.Core.Path.{◌≡◌, refl, ap}
use mathlib.Core.Logic.{⊎_elim}
use mathlib.Core.Bool.{Bool, true, false}
use mathlib.Core.List.Memᴰ
use mathlib.Core.List.{List, [], ◌∷◌}
use native.Mathlib.Omega.{arith}
use lib.ListN.{length, get_or-eq_default}
use borrow.Author.Tests.{eqb-false}
use Rattle.ground.specs.Choice.{pick}
use Rattle.book.specs.Types.{BookType, Member, types_of, no_type, type_no}
use Rattle.book.specs.Rules.{is_list, is_enum, book_ok}
use Rattle.book.proofs.Good.{GoodMember, Each, type_good, type_facts, member_facts, union_first_law}
use Rattle.shape.specs.Shape.{OneOf}
use Rattle.fit.specs.Fit.{member_types, links_of}
use Rattle.fit.proofs.Exact.{Linked, below_or_not}
use Rattle.fit.proofs.Settling.{Right}

-- a number that no type has
pub past_end : (types : List BookType) (k : ℕ) → length types ≤ k → type_no types k ≡ no_type
unfolding type_no
past_end types k h = get_or-eq_default types no_type {n = k} h

types_below : {next : ℕ} (k : ℕ) (t : BookType) (ms : List Member) → Each (GoodMember k t) ms → (t.kind ≡ 21 → ⊥) → OneOf next (member_types ms) → next < k
unfolding member_types
types_below k t [] each n o = absurd (Memᴰ.not-nil o)
types_below k t (m ∷ ms) each n (Memᴰ.head e) = rw e (each.0.link n)
types_below k t (m ∷ ms) each n (Memᴰ.tail o) = types_below k t ms each.1 n o

links_below : (k next : ℕ) (t : BookType) → (is_list t ≡ true → t.element < k) → Each (GoodMember k t) t.members → OneOf next (links_of t) → next < k
unfolding links_of
links_below k next t element each = go (is_list t) (is_enum t) refl refl
  where
    go : (a b : Bool) → is_list t ≡ a → is_enum t ≡ b → OneOf next (pick a (t.element ∷ []) (pick b [] (member_types t.members))) → next < k
    go true b e f o = rw (Memᴰ.eq_of_singleton o) (element e)
    go false true e f o = absurd (Memᴰ.not-nil o)
    go false false e f o = types_below k t t.members each (eqb-false t.kind 21 f) o

module _ (book : List ℕ) (e : book_ok book ≡ true) where
  pub links_down : Linked (types_of book)
  unfolding links_of no_type member_types
  links_down ty next o =
      let types = types_of book in
      ⊎_elim
      (λ (h : ty < length types).
      let g = type_good book ty e h in
      links_below ty next (type_no types ty) (type_facts types ty (type_no types ty) g).element (member_facts types ty (type_no types ty) g) o)
      (λ (h : length types ≤ ty). absurd (Memᴰ.not-nil (rw (past_end types ty h) at o))) (below_or_not ty (length types))

  pub right_type : (k : ℕ) → Right (types_of book) k
  unfolding no_type
  right_type k =
      let types = types_of book in
      ⊎_elim
      (λ (h : k < length types).
      let g = type_good book k e h in
      record {
        kind = (type_facts types k (type_no types k) g).kind;
        no_default = λ m ms z q. (union_first_law types k (type_no types k) g m ms z q).no_default;
        no_label = λ m ms z q. (union_first_law types k (type_no types k) g m ms z q).no_label;
      })
      (λ (h : length types ≤ k).
      let n : (type_no types k).kind ≡ 0 = ap (λ (t : BookType). t.kind) (past_end types k h) in
      record { kind = omega arith; no_default = λ m ms z q. absurd (omega arith); no_label = λ m ms z q. absurd (omega arith) })
      (below_or_not k (length types))
