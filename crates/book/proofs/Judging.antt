-- Laws of the judge's tests. Assumes nothing.
use Prim.Native.Nat.{ℕ, zero, suc, ◌<◌, ◌≤◌}
use mathlib.Core.Path.{◌≡◌, refl, sym, ap, ◌∙◌}
use mathlib.Core.Bool.{Bool, true, false, ◌&&◌, ◌||◌, and-true}
use mathlib.Core.List.{List, [], ◌∷◌, ◌++◌, nil≢cons}
use native.Mathlib.Omega.{arith}
use lib.Dec.{eqb, ltb, leb}
use lib.ListN.{length, drop}
use borrow.Author.Tests.{le-leb, eq-eqb, ne_eqb, leb-true, eqb-true}
use Rattle.ground.specs.Choice.{every}
use Rattle.ground.proofs.Tests.{both_second}
use Rattle.book.specs.declared.member.Run.{Run}
use Rattle.book.specs.Types.{Member, BookType, bounded, no_index, member_of, past_member, members_of, type_count}
use Rattle.book.specs.Places.{from, member_at, type_at, places_left, listed, earlier, Below}
use Rattle.book.specs.Rules.{codes_ok, kind_ok, extensibility_ok, base_ok, bound_flag_ok, bounds_ok, array_bound_ok, bound_ok, element_ok, count_ok, member_count_ok, member_kind_ok, some_member_ok, own_ok, other_id, id_ok, link_ok, flags_ok, construct_ok, label_count_ok, first_of_union, first_id_ok, first_kind_ok, first_default_ok, first_label_ok, member_ok, members_ok, size_ok, version_ok, type_count_ok, head_ok}
use Rattle.book.proofs.Kept.{kept}
use Rattle.book.proofs.Places.{length_members, listed_none, listed_some}

-- a type that has nothing but a kind and an extensibility keeps every rule of a record's own bytes
pub plain_own : (t : BookType) (k kind extensibility base flag bound element n : ℕ)
    → kind ≡ t.kind → extensibility ≡ t.extensibility → base ≡ t.base → flag ≡ t.bound_flag → bound ≡ t.bound → element ≡ t.element → n ≡ length t.members
    → kind ≤ 20 → extensibility ≤ 2 → base ≡ 0 → flag ≡ 0 → bound ≡ 0 → element ≡ 65535 → eqb n 0 ≡ true → true ≡ own_ok k t
unfolding own_ok codes_ok kind_ok extensibility_ok base_ok bound_flag_ok bounds_ok array_bound_ok bound_ok element_ok count_ok member_count_ok member_kind_ok some_member_ok bounded
plain_own t k kind extensibility base flag bound element n e₁ e₂ e₃ e₄ e₅ e₆ e₇ h₁ h₂ h₃ h₄ h₅ h₆ h₇ =
    let z : n ≡ 0 = eqb-true n 0 h₇ in
    let f : (m : ℕ) → 20 < m → eqb kind m ≡ false = λ m l. ne_eqb kind m (λ e. omega arith) in
    rw
    (← e₁, ← e₂, ← e₃, ← e₄, ← e₅, ← e₆, ← e₇)
    (rw (h₃, h₄, h₅, h₆, z, le-leb kind 27 (omega arith), le-leb extensibility 2 h₂, f 21 (omega arith), f 23 (omega arith), f 25 (omega arith), f 26 (omega arith)))

-- a rule that picks by a test
pub element_some : (t : BookType) (k kind e : ℕ) → kind ≡ t.kind → e ≡ t.element → (eqb kind 25 || eqb kind 26) ≡ true → ltb e k ≡ element_ok k t
unfolding element_ok
element_some t k kind e f g h = rw (← f, ← g, h)

pub element_none : (t : BookType) (k kind e : ℕ) → kind ≡ t.kind → e ≡ t.element → (eqb kind 25 || eqb kind 26) ≡ false → eqb e no_index ≡ element_ok k t
unfolding element_ok
element_none t k kind e f g h = rw (← f, ← g, h)

pub link_none : (t : BookType) (m : Member) (k kind l : ℕ) → kind ≡ t.kind → l ≡ m.type → kind ≡ 21 → eqb l no_index ≡ link_ok k t m
unfolding link_ok
link_none t m k kind l f g h = rw (← f, ← g, eq-eqb kind 21 h)

pub link_some : (t : BookType) (m : Member) (k kind l : ℕ) → kind ≡ t.kind → l ≡ m.type → (kind ≡ 21 → ⊥) → ltb l k ≡ link_ok k t m
unfolding link_ok
link_some t m k kind l f g h = rw (← f, ← g, ne_eqb kind 21 h)

-- a rule that every member of a run keeps
module _ (b : List ℕ) (f : Member → Bool) (s : Run) (whole : Bool) (inv : every f (listed b s) ≡ whole) where
  module _ (p : ℕ) (t : Run) (y : places_left s ≡ p ∷ places_left t) (r : Bool) (e : r ≡ f (member_at b p)) where
    pub every_bad : r ≡ false → false ≡ whole
    unfolding every
    every_bad z =
        let g : f (member_at b p) ≡ false = sym e ∙ z in
        rw (listed_some b s p t y, g) at inv

    pub every_turn : r ≡ true → every f (listed b t) ≡ whole
    unfolding every
    every_turn z =
        let g : f (member_at b p) ≡ true = sym e ∙ z in
        rw (listed_some b s p t y, g) at inv

  pub every_end : places_left s ≡ [] → true ≡ whole
  unfolding every
  every_end h = rw (listed_none b s h) at inv

pub ruleset every_laws = (every_bad, every_turn, every_end)

-- the members before one
length_earlier : (b : List ℕ) (at n : ℕ) → length (earlier b at n) ≡ n
unfolding earlier
length_earlier b at n = length_members n (drop 14 (from b at))

-- a member's rules
module _ (types : List BookType) (k : ℕ) (t : BookType) (before : List Member) (m : Member) where
  abbrev always : Bool
  always = id_ok before m && link_ok k t m && flags_ok m && construct_ok m && label_count_ok m

  pub member_other : first_of_union t before ≡ false → always ≡ member_ok types k t before m
  unfolding member_ok first_id_ok first_kind_ok first_default_ok first_label_ok
  member_other e = rw e (simp and-true)

pub union_first_law : (b : List ℕ) (at n kind : ℕ) → kind ≡ (type_at b at).kind → (eqb kind 23 && eqb n 0) ≡ first_of_union (type_at b at) (earlier b at n)
unfolding first_of_union
union_first_law b at n kind e = rw (← e, length_earlier b at n)

-- an id that is not below top is none of those that are
pub id_above : (top id : ℕ) (ms : List Member) → Below top ms → top ≤ id → true ≡ every (other_id id) ms
unfolding Below every other_id
id_above top id [] u h = refl
id_above top id (m ∷ ms) u h =
    let n : m.id ≡ id → ⊥ = λ e. omega (arith, u.0) in
    rw (ne_eqb m.id id n) (id_above top id ms u.1 h)

pub below_more : (top t : ℕ) (ms : List Member) (m : Member) → Below top ms → top ≤ t → m.id < t → Below t (ms ++ m ∷ [])
unfolding Below
below_more top t [] m u h l = (l, tt)
below_more top t (x ∷ xs) m u h l = (omega (arith, u.0), below_more top t xs m u.1 h l)

-- the bytes after n members
unfoldable pub past_members : ℕ → List ℕ → List ℕ
past_members zero s = s
past_members (suc n) s = past_member (past_members n s)

past_first : (n : ℕ) (s : List ℕ) → past_members n (past_member s) ≡ past_member (past_members n s)
unfolding past_members
past_first zero s = refl
past_first (suc n) s = ap past_member (past_first n s)

pub one_more : (n : ℕ) (s : List ℕ) → members_of (suc n) s ≡ members_of n s ++ member_of (past_members n s) ∷ []
unfolding members_of past_members
one_more zero s = refl
one_more (suc n) s =
    ap (λ (ms : List Member). member_of s ∷ ms) (one_more n (past_member s) ∙ (rw (past_first n s)))

-- the member that comes after n of l
pub after_members : (n l : ℕ) (s : List ℕ) (m : Member) (ms : List Member) → drop n (members_of l s) ≡ m ∷ ms → members_of (suc n) s ≡ members_of n s ++ m ∷ []
unfolding members_of
after_members zero zero s m ms e = absurd (nil≢cons e)
after_members zero (suc l) s m ms e = cc
after_members (suc n) zero s m ms e = absurd (nil≢cons e)
after_members (suc n) (suc l) s m ms e = ap (λ (xs : List Member). member_of s ∷ xs) (after_members n l (past_member s) m ms e)

-- the members of the type at `at`, record k, keep the rules
abbrev pub all_ok : List ℕ → List BookType → ℕ → ℕ → Bool
all_ok b types at k = members_ok types k (type_at b at) [] (type_at b at).members

-- the book
pub few_types : (b : List ℕ) → head_ok b ≡ true → type_count b ≤ 64
unfolding head_ok type_count_ok
few_types b e =
    leb-true (type_count b) 64
    (both_second (leb 1 (type_count b)) (leb (type_count b) 64) (kept 2 (size_ok b) (version_ok b ∷ type_count_ok b ∷ []) e))
