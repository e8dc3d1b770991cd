-- What a right book gives to those who read it: each rule as a fact about its types. Assumes nothing.
use Prim.Native.Nat.{ℕ, zero, suc, ◌+◌, ◌<◌, ◌≤◌}
use mathlib.Core.Path.{◌≡◌, refl, sym, ap, ◌∙◌}
use mathlib.Core.Bool.{Bool, true, false, not, ◌&&◌, ◌||◌, or-true}
use mathlib.Core.List.{List, [], ◌∷◌, ◌++◌, append_assoc, append-nil}
use native.Mathlib.Omega.{arith}
use native.Mathlib.Nat.{add-zero, le_of_lt}
use lib.Dec.{eqb, ltb, leb}
use lib.ListN.{length, get_or, take, drop}
use lib.Seq.{length-take-le, get_or-take}
use borrow.Author.Tests.{leb-true, ltb-true, eqb-true, eq-eqb, ne_eqb, not-true, eqb-false}
use Rattle.ground.specs.Choice.{both, every, ◌‥◌, within}
use Rattle.ground.proofs.Tests.{both_first, both_second, one_first, one_second}
use Rattle.book.specs.Types.{Member, BookType, default, bounded, no_index, quad, type_of, past_type, type_count, types_from, types_of, type_no}
use Rattle.book.specs.Places.{from, types_by, index_count, indexed}
use Rattle.book.specs.Rules.{is_enum, is_union, is_array, is_list, size_ok, version_ok, type_count_ok, head_ok, record_length_ok, kind_ok, extensibility_ok, base_ok, bound_flag_ok, codes_ok, array_bound_ok, bound_ok, bounds_ok, element_ok, member_count_ok, member_kind_ok, some_member_ok, count_ok, own_ok}
use Rattle.book.specs.Rules.{other_id, id_ok, link_ok, flags_ok, construct_ok, label_count_ok, first_of_union, first_id_ok, first_kind_ok, first_default_ok, first_label_ok, member_ok, members_ok, type_ok, record_ok, records_ok, book_ok}
use Rattle.book.proofs.Kept.{kept, asked, picked, unpicked}
use Rattle.book.proofs.Indexing.{index_types}
use Rattle.book.proofs.Judging.{few_types}

-- THE HEAD
pub head_good : (b : List ℕ) → book_ok b ≡ true → head_ok b ≡ true
unfolding book_ok
head_good b e = both_first (head_ok b) (records_ok (types_of b) 0 (type_count b) (drop 7 b)) e

pub size_good : (b : List ℕ) → book_ok b ≡ true → length b ≤ 65536
unfolding head_ok size_ok
size_good b e =
    leb-true (length b) 65536 (kept 1 (eqb (quad b 0) (length b)) (leb (length b) 65536 ∷ []) (kept 0 (size_ok b) (version_ok b ∷ type_count_ok b ∷ []) (head_good b e)))

pub count_good : (b : List ℕ) → book_ok b ≡ true → (1 ≤ type_count b) × (type_count b ≤ 64)
unfolding head_ok type_count_ok
count_good b e =
    let c : within (1 ‥ 64) (type_count b) ≡ true = kept 2 (size_ok b) (version_ok b ∷ type_count_ok b ∷ []) (head_good b e) in
    (leb-true 1 (type_count b) (both_first (leb 1 (type_count b)) (leb (type_count b) 64) c), few_types b (head_good b e))

length_from_law : (n : ℕ) (s : List ℕ) → length (types_from n s) ≡ n
unfolding types_from
length_from_law zero s = refl
length_from_law (suc n) s = ap suc (length_from_law n (past_type s))

pub length_types : (b : List ℕ) → length (types_of b) ≡ type_count b
unfolding types_of
length_types b = length_from_law (type_count b) (drop 7 b)

-- THE INDEX OF A RIGHT BOOK HOLDS ALL ITS TYPES
module _ (b t : List ℕ) (e : book_ok b ≡ true) (room : 64 ≤ length t) where
  pub index_all : index_count b (length t) ≡ type_count b
  index_all = omega (arith, (count_good b e).1)

  pub index_good : types_by b (take (index_count b (length t)) (indexed b t)) ≡ types_of b
  unfolding types_of from
  index_good = index_types b t ∙ ap (λ (n : ℕ). types_from n (drop 7 b)) index_all

-- EACH TYPE KEEPS THE RULES AT ITS OWN NUMBER
each_type : (types : List BookType) (k n j : ℕ) (s : List ℕ) → records_ok types k n s ≡ true → j < n
    → type_ok types (k + j) (type_no (types_from n s) j) ≡ true
unfolding records_ok record_ok types_from type_no
each_type types k zero j s e h = absurd (omega arith)
each_type types k (suc n) zero s e h =
    rw add-zero (both_second (record_length_ok s) (type_ok types k (type_of s)) (both_first (record_ok types k s) (records_ok types (suc k) n (past_type s)) e))
each_type types k (suc n) (suc j) s e h =
    let d : k + suc j ≡ suc k + j = omega arith in
    rw d (each_type types (suc k) n j (past_type s) (both_second (record_ok types k s) (records_ok types (suc k) n (past_type s)) e) (omega arith))

pub type_good : (b : List ℕ) (k : ℕ) → book_ok b ≡ true → k < length (types_of b) → type_ok (types_of b) k (type_no (types_of b) k) ≡ true
unfolding book_ok types_of
type_good b k e h =
    let z : 0 + k ≡ k = omega arith in
    rw z at (each_type (types_of b) 0 (type_count b) k (drop 7 b) (both_second (head_ok b) (records_ok (types_of b) 0 (type_count b) (drop 7 b)) e) (omega (arith, length_types b)))

-- A TYPE'S OWN BYTES
pub record GoodType (k : ℕ) (t : BookType) : Type 0 where
  pub kind : t.kind ≤ 27
  pub extensibility : t.extensibility ≤ 2
  pub base : t.base ≤ 27
  pub no_base : (t.kind ≡ 21 → ⊥) → t.base ≡ 0
  pub flag : t.bound_flag ≤ 1
  pub array : t.kind ≡ 26 → bounded t ≡ true
  pub no_bound : bounded t ≡ false → t.bound ≡ 0
  pub element : is_list t ≡ true → t.element < k
  pub no_element_law : is_list t ≡ false → t.element ≡ no_index
  pub few : length t.members ≤ 64
  pub no_member_law : within (21 ‥ 23) t.kind ≡ false → t.members ≡ []
  pub enum : t.kind ≡ 21 → 1 ≤ length t.members
  pub union : t.kind ≡ 23 → 1 ≤ length t.members

empty : {A : Type 0} (l : List A) → length l ≡ 0 → l ≡ []
empty [] e = refl
empty (x ∷ xs) e = absurd (omega arith)

module _ (k : ℕ) (t : BookType) (e : own_ok k t ≡ true) where
  own : (i : ℕ) → get_or (codes_ok t ∷ bounds_ok t ∷ element_ok k t ∷ count_ok t ∷ []) i true ≡ true
  unfolding own_ok
  own i = kept i (codes_ok t) (bounds_ok t ∷ element_ok k t ∷ count_ok t ∷ []) e

  codes : (i : ℕ) → get_or (kind_ok t ∷ extensibility_ok t ∷ base_ok t ∷ bound_flag_ok t ∷ []) i true ≡ true
  unfolding codes_ok
  codes i = kept i (kind_ok t) (extensibility_ok t ∷ base_ok t ∷ bound_flag_ok t ∷ []) (own 0)

  bases : (i : ℕ) → get_or (leb t.base 27 ∷ (eqb t.base 0 || is_enum t) ∷ []) i true ≡ true
  unfolding base_ok
  bases i = kept i (leb t.base 27) ((eqb t.base 0 || is_enum t) ∷ []) (codes 2)

  bounds : (i : ℕ) → get_or (array_bound_ok t ∷ bound_ok t ∷ []) i true ≡ true
  unfolding bounds_ok
  bounds i = kept i (array_bound_ok t) (bound_ok t ∷ []) (own 1)

  counts : (i : ℕ) → get_or (member_count_ok t ∷ member_kind_ok t ∷ some_member_ok t ∷ []) i true ≡ true
  unfolding count_ok
  counts i = kept i (member_count_ok t) (member_kind_ok t ∷ some_member_ok t ∷ []) (own 3)

  has_some : (is_enum t || is_union t) ≡ true → 1 ≤ length t.members
  unfolding some_member_ok
  has_some h = leb-true 1 (length t.members) (asked (is_enum t || is_union t) (leb 1 (length t.members)) (counts 2) h)

  own_good : GoodType k t
  unfolding kind_ok extensibility_ok bound_flag_ok array_bound_ok bound_ok element_ok member_count_ok member_kind_ok
  own_good =
      record {
        kind = leb-true t.kind 27 (codes 0);
        extensibility = leb-true t.extensibility 2 (codes 1);
        base = leb-true t.base 27 (bases 0);
        no_base = λ (f : t.kind ≡ 21 → ⊥). eqb-true t.base 0 (one_first (eqb t.base 0) (is_enum t) (bases 1) (ne_eqb t.kind 21 f));
        flag = leb-true t.bound_flag 1 (codes 3);
        array = λ (f : t.kind ≡ 26). asked (is_array t) (bounded t) (bounds 0) (eq-eqb t.kind 26 f);
        no_bound = λ (f : bounded t ≡ false). eqb-true t.bound 0 (one_second (bounded t) (eqb t.bound 0) (bounds 1) f);
        element = λ (f : is_list t ≡ true). ltb-true t.element k (picked (is_list t) (ltb t.element k) (eqb t.element no_index) (own 2) f);
        no_element_law = λ (f : is_list t ≡ false). eqb-true t.element no_index (unpicked (is_list t) (ltb t.element k) (eqb t.element no_index) (own 2) f);
        few = leb-true (length t.members) 64 (counts 0);
        no_member_law =
            λ (f : within (21 ‥ 23) t.kind ≡ false).
            empty t.members (eqb-true (length t.members) 0 (one_first (eqb (length t.members) 0) (within (21 ‥ 23) t.kind) (counts 1) f));
        enum = λ (f : t.kind ≡ 21). has_some (rw (eq-eqb t.kind 21 f));
        union = λ (f : t.kind ≡ 23). has_some (rw (eq-eqb t.kind 23 f, or-true (is_enum t)));
      }

-- A MEMBER
pub record GoodMember (k : ℕ) (t : BookType) (m : Member) : Type 0 where
  pub link : (t.kind ≡ 21 → ⊥) → m.type < k
  pub no_link : t.kind ≡ 21 → m.type ≡ no_index
  pub flags : m.flags ≤ 3
  pub construct : m.construct ≤ 2
  pub labels : length m.labels ≤ 16

-- the kinds that a right book's discriminator may have: "1 to 15, 19 or 21". Fewer of them choose (`chooses` of crates/fit/specs/Fit.antt)
abbrev pub allowed : ℕ → Bool
allowed kind = within (1 ‥ 15) kind || eqb kind 19 || eqb kind 21

-- A UNION'S FIRST MEMBER
pub record GoodFirst (types : List BookType) (m : Member) : Type 0 where
  pub id : m.id ≡ 0
  pub kind : allowed (type_no types m.type).kind ≡ true
  pub no_default : default m ≡ false
  pub no_label : m.labels ≡ []

module _ (types : List BookType) (k : ℕ) (t : BookType) (before : List Member) (m : Member) (e : member_ok types k t before m ≡ true) where
  abbrev first : Bool
  first = first_of_union t before

  fields : (i : ℕ) → get_or ((id_ok before m && first_id_ok first m) ∷ (link_ok k t m && first_kind_ok types first m) ∷ (flags_ok m && first_default_ok first m) ∷ construct_ok m ∷ (label_count_ok m && first_label_ok first m) ∷ []) i true ≡ true
  unfolding member_ok
  fields i =
      kept i (id_ok before m && first_id_ok first m)
      ((link_ok k t m && first_kind_ok types first m) ∷ (flags_ok m && first_default_ok first m) ∷ construct_ok m ∷ (label_count_ok m && first_label_ok first m) ∷ []) e

  new_id : id_ok before m ≡ true
  new_id = kept 0 (id_ok before m) (first_id_ok first m ∷ []) (fields 0)

  member_good : GoodMember k t m
  unfolding link_ok flags_ok construct_ok label_count_ok
  member_good =
      let link : link_ok k t m ≡ true = kept 0 (link_ok k t m) (first_kind_ok types first m ∷ []) (fields 1) in
      record {
        link = λ (f : t.kind ≡ 21 → ⊥). ltb-true m.type k (unpicked (is_enum t) (eqb m.type no_index) (ltb m.type k) link (ne_eqb t.kind 21 f));
        no_link = λ (f : t.kind ≡ 21). eqb-true m.type no_index (picked (is_enum t) (eqb m.type no_index) (ltb m.type k) link (eq-eqb t.kind 21 f));
        flags = leb-true m.flags 3 (kept 0 (flags_ok m) (first_default_ok first m ∷ []) (fields 2));
        construct = leb-true m.construct 2 (fields 3);
        labels = leb-true (length m.labels) 16 (kept 0 (label_count_ok m) (first_label_ok first m ∷ []) (fields 4));
      }

  first_good : first ≡ true → GoodFirst types m
  unfolding first_id_ok first_kind_ok first_default_ok first_label_ok
  first_good f =
      let kind : ℕ = (type_no types m.type).kind in
      record {
        id = eqb-true m.id 0 (asked first (eqb m.id 0) (kept 1 (id_ok before m) (first_id_ok first m ∷ []) (fields 0)) f);
        kind = asked first (allowed kind) (kept 1 (link_ok k t m) (first_kind_ok types first m ∷ []) (fields 1)) f;
        no_default = not-true (default m) (asked first (not (default m)) (kept 1 (flags_ok m) (first_default_ok first m ∷ []) (fields 2)) f);
        no_label = empty m.labels (eqb-true (length m.labels) 0 (asked first (eqb (length m.labels) 0) (kept 1 (label_count_ok m) (first_label_ok first m ∷ []) (fields 4)) f));
      }

-- a fact of every member of a list
abbrev pub Each : (Member → Type 0) → List Member → Type 0
Each P [] = Unit {0}
Each P (m ∷ ms) = P m × Each P ms

-- the ids of a list differ from those before it, and from each other
abbrev pub NewIds : List Member → List Member → Type 0
NewIds before [] = Unit {0}
NewIds before (m ∷ ms) = (every (other_id m.id) before ≡ true) × NewIds (before ++ m ∷ []) ms

module _ (types : List BookType) (k : ℕ) (t : BookType) where
  members_good : (before ms : List Member) → members_ok types k t before ms ≡ true → Each (GoodMember k t) ms × NewIds before ms
  unfolding members_ok id_ok
  members_good before [] e = (tt, tt)
  members_good before (m ∷ ms) e =
      let h : member_ok types k t before m ≡ true = both_first (member_ok types k t before m) (members_ok types k t (before ++ m ∷ []) ms) e in
      let r = members_good (before ++ m ∷ []) ms (both_second (member_ok types k t before m) (members_ok types k t (before ++ m ∷ []) ms) e) in
      ((member_good types k t before m h, r.0), (new_id types k t before m h, r.1))

every_at : (f : Member → Bool) (ms : List Member) (d : Member) (j : ℕ) → every f ms ≡ true → j < length ms → f (get_or ms j d) ≡ true
unfolding every
every_at f [] d j e h = absurd (omega arith)
every_at f (m ∷ ms) d zero e h = both_first (f m) (every f ms) e
every_at f (m ∷ ms) d (suc j) e h = every_at f ms d j (both_second (f m) (every f ms) e) (omega arith)

new_at : (before ms : List Member) (d : Member) (j : ℕ) → NewIds before ms → j < length ms
    → every (other_id (get_or ms j d).id) (before ++ take j ms) ≡ true
new_at before [] d j x h = absurd (omega arith)
new_at before (m ∷ ms) d zero x h = rw append-nil x.0
new_at before (m ∷ ms) d (suc j) x h =
    rw (append_assoc before (m ∷ []) (take j ms)) at (new_at (before ++ m ∷ []) ms d j x.1 (omega arith))

-- WHAT THE READER AND THE TYPE CHECK ASK of type k of a right book
module _ (types : List BookType) (k : ℕ) (t : BookType) (e : type_ok types k t ≡ true) where
  pub type_facts : GoodType k t
  unfolding type_ok
  type_facts = own_good k t (both_first (own_ok k t) (members_ok types k t [] t.members) e)

  all_members : members_ok types k t [] t.members ≡ true
  unfolding type_ok
  all_members = both_second (own_ok k t) (members_ok types k t [] t.members) e

  pub member_facts : Each (GoodMember k t) t.members
  member_facts = (members_good types k t [] t.members all_members).0

  pub union_first_law : (m : Member) (ms : List Member) → t.kind ≡ 23 → t.members ≡ m ∷ ms → GoodFirst types m
  unfolding members_ok first_of_union
  union_first_law m ms f g =
      let h : both (member_ok types k t [] m) (members_ok types k t (m ∷ []) ms) ≡ true = sym (ap (λ (l : List Member). members_ok types k t [] l) g) ∙ all_members in
      first_good types k t [] m (both_first (member_ok types k t [] m) (members_ok types k t (m ∷ []) ms) h) (rw (eq-eqb t.kind 23 f))

  pub ids_differ : (d : Member) (i j : ℕ) → i < j → j < length t.members → (get_or t.members i d).id ≡ (get_or t.members j d).id → ⊥
  unfolding other_id
  ids_differ d i j l h g =
      let ms = t.members in
      let x : every (other_id (get_or ms j d).id) (take j ms) ≡ true = new_at [] ms d j (members_good types k t [] ms all_members).1 h in
      let y : other_id (get_or ms j d).id (get_or (take j ms) i d) ≡ true = every_at (other_id (get_or ms j d).id) (take j ms) d i x (omega (arith, length-take-le j ms (le_of_lt h))) in
      let z : not (eqb (get_or ms i d).id (get_or ms j d).id) ≡ true = rw (get_or-take j ms i d l) at y in
      eqb-false (get_or ms i d).id (get_or ms j d).id (not-true (eqb (get_or ms i d).id (get_or ms j d).id) z) g
