-- Laws of the judge's quick ways: a record that is a kind and an extensibility alone, and members whose ids rise. Assumes nothing.
use Prim.Native.Nat.{ℕ, suc, ◌+◌, ◌-◌, ◌*◌, ◌<◌, ◌≤◌}
use mathlib.Core.Path.{◌≡◌, refl, sym, ap, ◌∙◌}
use mathlib.Core.Bool.{Bool, true, false, not, ◌&&◌, or-true}
use mathlib.Core.List.{List, [], ◌∷◌, ◌++◌}
use native.Mathlib.Omega.{arith}
use lib.Dec.{eqb, leb}
use lib.ListN.{length, drop, length-drop}
use lib.Seq.{drop-drop}
use borrow.Author.Tests.{le-leb, lt-ltb, leb-true, eqb-true, not-false}
use Rattle.book.specs.Types.{BookType, bounded, byte, pair, quad, member_of, past_member, members_of, type_of}
use Rattle.book.specs.Places.{Bare, from, member_at, type_at, earlier, Below}
use Rattle.book.specs.Rules.{member_size, filled, inside_ok, own_size_ok, record_length_ok, codes_ok, kind_ok, extensibility_ok, base_ok, bound_flag_ok, bounds_ok, array_bound_ok, bound_ok, element_ok, count_ok, member_count_ok, member_kind_ok, some_member_ok, own_ok, id_ok, link_ok, flags_ok, construct_ok, label_count_ok, first_of_union, member_ok, members_ok, type_ok, record_ok}
use Rattle.book.proofs.Places.{member_count_is, label_count_is, length_members}
use Rattle.book.proofs.Judging.{plain_own, link_some, member_other, id_above, below_more, past_members, one_more, all_ok}

-- A RECORD OF 14 BYTES
no_members : (s : List ℕ) → pair s 12 ≡ 0 → (type_of s).members ≡ []
unfolding type_of members_of
no_members s e = rw e

module _ (s : List ℕ) (size kind extensibility a c m : ℕ) (e₀ : size ≡ pair s 0) (e₂ : kind ≡ byte s 2) (e₃ : extensibility ≡ byte s 3)
    (e₄ : a ≡ quad s 4) (e₈ : c ≡ quad s 8) (e₁₂ : m ≡ pair s 12) (z : eqb m 0 ≡ true) where
  none : pair s 12 ≡ 0
  none = sym e₁₂ ∙ eqb-true m 0 z

  plain_length : 14 ≤ length s → size ≡ 14 → record_length_ok s ≡ true
  unfolding record_length_ok inside_ok own_size_ok filled
  plain_length h f =
      let g : pair s 0 ≡ 14 = sym e₀ ∙ f in
      rw (no_members s none, g, le-leb 14 (length s) h)

  plain_type : (k : ℕ) → kind ≤ 20 → extensibility ≤ 2 → a ≡ 0 → c ≡ 65535 → true ≡ own_ok k (type_of s)
  unfolding type_of
  plain_type k h₂ h₃ h₄ h₈ =
      plain_own (type_of s) k kind extensibility (byte s 4) (byte s 5) (quad s 6) (pair s 10) (pair s 12) e₂ e₃ refl refl refl refl (member_count_is s (pair s 12) refl)
      h₂ h₃ (omega arith) (omega arith) (omega arith) (omega arith) (rw none)

  pub plain_record : (l : ℕ) → l ≡ length s → 14 ≤ l → size ≡ 14 → kind ≤ 20 → extensibility ≤ 2 → a ≡ 0 → c ≡ 65535
      → (types : List BookType) (k : ℕ) → true ≡ record_ok types k s
  unfolding record_ok type_ok members_ok
  plain_record l d h h₀ h₂ h₃ h₄ h₈ types k =
      rw (plain_length (omega arith) h₀, ← plain_type k h₂ h₃ h₄ h₈, no_members s none)

-- THE OWN BYTES THAT HAVE NOTHING BUT AN EXTENSIBILITY
pub bare_bytes : (s : List ℕ) (e a c : ℕ) → e ≡ byte s 3 → a ≡ quad s 4 → c ≡ quad s 8 → e ≤ 2 → a ≡ 0 → eqb c 65535 ≡ true → Bare s
bare_bytes s e a c f g h i j k = record { extensibility = rw (← f) i; base = sym g ∙ j; element = sym h ∙ eqb-true c 65535 k }

-- THE OWN BYTES OF A STRUCTURE
structure_own : (t : BookType) (k : ℕ) → t.kind ≡ 22 → t.extensibility ≤ 2 → t.base ≡ 0 → t.bound_flag ≡ 0 → t.bound ≡ 0 → t.element ≡ 65535 → length t.members ≤ 64
    → true ≡ own_ok k t
unfolding own_ok codes_ok kind_ok extensibility_ok base_ok bound_flag_ok bounds_ok array_bound_ok bound_ok element_ok count_ok member_count_ok member_kind_ok some_member_ok bounded
structure_own t k h₁ h₂ h₃ h₄ h₅ h₆ h₇ = rw (h₁, h₃, h₄, h₅, h₆, le-leb t.extensibility 2 h₂, le-leb (length t.members) 64 h₇, or-true)

module _ (s : List ℕ) (kind extensibility a c m : ℕ) (e₂ : kind ≡ byte s 2) (e₃ : extensibility ≡ byte s 3) (e₄ : a ≡ quad s 4) (e₈ : c ≡ quad s 8) (e₁₂ : m ≡ pair s 12)
    (h₂ : kind ≡ 22) (h₃ : extensibility ≤ 2) (h₄ : a ≡ 0) (h₈ : c ≡ 65535) where
  pub structure_kind : (type_of s).kind ≡ 22
  unfolding type_of
  structure_kind = sym e₂ ∙ h₂

  pub structure_kept : leb m 64 ≡ true → (k : ℕ) → true ≡ own_ok k (type_of s)
  unfolding type_of
  structure_kept z k =
      structure_own (type_of s) k (sym e₂ ∙ h₂) (omega arith) (omega arith) (omega arith) (omega arith) (omega arith)
      (omega (arith, leb-true m 64 z, member_count_is s (pair s 12) refl))

-- A MEMBER'S FIELDS
pub fields_kept : (s : List ℕ) (k link flags construct n : ℕ) → link ≡ pair s 4 → flags ≡ byte s 6 → construct ≡ byte s 7 → n ≡ byte s 8 → link < k → flags ≤ 3 → construct ≤ 2
    → leb n 16 ≡ true → (t : BookType) → (t.kind ≡ 21 → ⊥) → true ≡ (link_ok k t (member_of s) && flags_ok (member_of s) && construct_ok (member_of s) && label_count_ok (member_of s))
unfolding member_of flags_ok construct_ok label_count_ok
fields_kept s k link flags construct n e₄ e₆ e₇ e₈ h₄ h₆ h₇ h₈ t o =
    let l : link_ok k t (member_of s) ≡ true = sym (link_some t (member_of s) k t.kind link refl e₄ o) ∙ lt-ltb link k h₄ in
    let f : leb (byte s 6) 3 ≡ true = le-leb (byte s 6) 3 (omega arith) in
    let c : leb (byte s 7) 2 ≡ true = le-leb (byte s 7) 2 (omega arith) in
    let g : leb (length (member_of s).labels) 16 ≡ true = rw (← label_count_is s n e₈) h₈ in
    rw (l, f, c, g)

-- THE WALK: n - left members are passed, whose ids are below top; the others, from p on, are to fill `room`
pub record Rising (b : List ℕ) (at k n all p left room top : ℕ) : Type 0 where
  pub stands : from b p ≡ past_members (n - left) (drop 14 (from b at))
  pub still : (types : List BookType) → members_ok types k (type_at b at) (earlier b at (n - left)) (members_of left (from b p)) ≡ all_ok b types at k
  pub fill : filled (members_of left (from b p)) room ≡ filled (type_at b at).members all
  pub few : left ≤ n
  pub ids : Below top (earlier b at (n - left))
  pub inside : p + room ≤ length b

module _ (b : List ℕ) (at k n size l : ℕ) (e : size ≡ pair (from b at) 0) (d : l ≡ length (from b at)) (h : size ≤ l) (small : 14 ≤ size) where
  pub rise_start : n ≡ length (type_at b at).members → Rising b at k n (size - 14) (at + 14) n (size - 14) 0
  unfolding from past_members earlier members_of Below type_of
  rise_start f =
      let z : n - n ≡ 0 = omega arith in
      let g : n ≡ pair (from b at) 12 = f ∙ length_members (pair (from b at) 12) (drop 14 (from b at)) in
      let s : from b (at + 14) ≡ drop 14 (from b at) = sym (drop-drop 14 at b) in
      record {
        stands = rw (z, s);
        still = λ types. rw (z, s, g);
        fill = rw (s, g);
        few = omega arith;
        ids = rw z tt;
        inside = omega (arith, length-drop at b);
      }

  pub rise_end : (p left room top : ℕ) → Rising b at k n (size - 14) p left room top → left ≤ 0 → true ≡ own_ok k (type_at b at) → eqb room 0 ≡ true
      → (types : List BookType) → true ≡ record_ok types k (from b at)
  unfolding record_ok type_ok record_length_ok inside_ok own_size_ok filled members_ok members_of
  rise_end p left room top x o own z types =
      let j : left ≡ 0 = omega arith in
      let f : filled (type_at b at).members (size - 14) ≡ true = sym (rw j at x.fill) ∙ z in
      let l : record_length_ok (from b at) ≡ true = rw (← e, f, le-leb size (length (from b at)) (omega arith), le-leb 14 size small) in
      let m : true ≡ all_ok b types at k = rw j at (x.still types) in
      rw (l, ← own) m

module _ (b : List ℕ) (at k n all p left room top : ℕ) (x : Rising b at k n all p left room top) (some : 0 < left) where
  -- one is left: it, and those after it
  more : members_of left (from b p) ≡ member_at b p ∷ members_of (left - 1) (past_member (from b p))
  unfolding members_of
  more =
      let j : left ≡ suc (left - 1) = omega arith in
      ap (λ (l : ℕ). members_of l (from b p)) j

  passed : n - (left - 1) ≡ suc (n - left)
  passed = omega (arith, x.few)

  with_it : earlier b at (n - (left - 1)) ≡ earlier b at (n - left) ++ member_at b p ∷ []
  unfolding earlier
  with_it = rw passed (one_more (n - left) (drop 14 (from b at)) ∙ (rw x.stands))

  module _ (id : ℕ) (r : Bool) (q : (type_at b at).kind ≡ 22) (f : id ≡ quad (from b p) 0) (h : top ≤ id) (y : not r ≡ false)
      (ok : (t : BookType) → (t.kind ≡ 21 → ⊥) → r ≡ true → true ≡ (link_ok k t (member_at b p) && flags_ok (member_at b p) && construct_ok (member_at b p) && label_count_ok (member_at b p))) where
    id_is : id ≡ (member_at b p).id
    unfolding member_of
    id_is = f

    this : (types : List BookType) → member_ok types k (type_at b at) (earlier b at (n - left)) (member_at b p) ≡ true
    unfolding id_ok first_of_union
    this types =
        let i : id_ok (earlier b at (n - left)) (member_at b p) ≡ true = sym (id_above top (member_at b p).id (earlier b at (n - left)) x.ids (omega (arith, id_is))) in
        let u : eqb (type_at b at).kind 23 ≡ false = rw q in
        let kept = ok (type_at b at) (λ g. omega arith) (not-false r y) in
        sym (member_other types k (type_at b at) (earlier b at (n - left)) (member_at b p) (rw u)) ∙ (rw (i, ← kept))

    pub rise_turn : (c : ℕ) → c ≡ byte (from b p) 8 → 9 + 4 * c ≤ room → Rising b at k n all (p + (9 + 4 * c)) (left - 1) (room - (9 + 4 * c)) (id + 1)
    unfolding from past_members past_member members_ok filled
    rise_turn c g fits =
        let s : from b (p + (9 + 4 * c)) ≡ past_member (from b p) = sym (drop-drop (9 + 4 * c) p b) ∙ (rw g) in
        let w : member_size (member_at b p) ≡ 9 + 4 * c = omega (arith, label_count_is (from b p) c g) in
        record {
          stands = rw (passed, s, ← x.stands);
          still = λ types. rw (with_it, s) (rw (more, this types) at (x.still types));
          fill = rw s (rw (more, w, le-leb (9 + 4 * c) room fits) at x.fill);
          few = omega (arith, x.few);
          ids = rw with_it (below_more top (id + 1) (earlier b at (n - left)) (member_at b p) x.ids (omega arith) (omega (arith, id_is)));
          inside = omega (arith, x.inside);
        }
