-- Laws of the judge's walks: what is still to be told is what is told of the whole. Assumes nothing.
use Prim.Native.Nat.{ℕ, suc, ◌+◌, ◌-◌, ◌*◌, ◌<◌, ◌≤◌}
use mathlib.Core.Path.{◌≡◌, refl, sym, ap, ◌∙◌}
use mathlib.Core.Bool.{Bool, true, false, not, ◌||◌}
use mathlib.Core.List.{List, [], ◌∷◌, ◌++◌}
use native.Mathlib.Omega.{arith}
use native.Mathlib.Numerals.{add-one}
use lib.Dec.{eqb, leb}
use lib.ListN.{length, take, drop}
use lib.Seq.{drop-drop}
use Rattle.ground.proofs.Tests.{apart}
use borrow.Author.Tests.{not-true, lt-leb, le-leb}
use Rattle.ground.specs.Choice.{pick, every, ◌‥◌, within}
use Rattle.book.specs.declared.member.Run.{Run}
use Rattle.book.specs.declared.fault.Reason.{Reason}
use Rattle.book.specs.declared.fault.Fault.{Fault}
use Rattle.book.specs.declared.fault.Reason.TheVariants.{Head, RecordLength, CodeRange, TypeLink, MemberList, FirstMember}
use Rattle.book.specs.declared.fault.Fault.{Fault}
use Rattle.std.specs.Prelude.{Ok, Err, is_ok}
use Rattle.book.specs.Types.{Member, BookType, default, pair, members_of, type_of, past_type, type_count, types_of, type_no}
use Rattle.book.specs.Places.{from, member_at, type_at, Skipped, places_left, listed, earlier, Below, Started, types_by, index_count, indexed}
use Rattle.book.specs.Rules.{head_ok, member_size, inside_ok, own_size_ok, other_id, id_ok, link_ok, flags_ok, construct_ok, label_count_ok, first_of_union, first_id_ok, first_kind_ok, first_default_ok, first_label_ok}
use Rattle.book.specs.Fault.{Verdict, broken, the_head, unless, ◌then◌, own_fault, member_fault, members_fault, record_fault, records_fault, fault_of}
use Rattle.book.proofs.Indexing.{index_types, take_indexed, length_places}
use Rattle.book.proofs.Places.{listed_none, listed_some, length_left}
use Rattle.book.proofs.Judging.{below_more, after_members, few_types}
use Rattle.book.proofs.Faults.{head_rules}

-- WHAT A PART TELLS IS TOLD OF THE WHOLE; where it tells nothing, what is told of the whole is what the next part tells
pub part_stops : (f next whole r : Verdict) (e : Fault) → whole ≡ (f then next) → r ≡ f → r ≡ Err e → Err e ≡ whole
unfolding ◌then◌
part_stops f next whole r e w g z =
    let h : f ≡ Err e = sym g ∙ z in
    sym (rw h at w)

pub part_passes : (f next whole r : Verdict) (u : Unit {0}) → whole ≡ (f then next) → r ≡ f → r ≡ Ok u → whole ≡ next
unfolding ◌then◌
part_passes f next whole r u w g z =
    let h : f ≡ Ok u = sym g ∙ z in
    rw h at w

-- the same of a rule, which the code asks as t
module _ (t s : Bool) (k : ℕ) (why : Reason) (next whole r : Verdict) where
  same_rule : t ≡ s → r ≡ unless t (broken k why) → r ≡ unless s (broken k why)
  same_rule e g = g ∙ ap (λ b. unless b (broken k why)) e

  pub rule_stops : (x : Fault) → whole ≡ (unless s (broken k why) then next) → t ≡ s → r ≡ unless t (broken k why) → r ≡ Err x → Err x ≡ whole
  rule_stops x w e g z = part_stops (unless s (broken k why)) next whole r x w (same_rule e g) z

  pub rule_passes : (u : Unit {0}) → whole ≡ (unless s (broken k why) then next) → t ≡ s → r ≡ unless t (broken k why) → r ≡ Ok u → whole ≡ next
  rule_passes u w e g z = part_passes (unless s (broken k why)) next whole r u w (same_rule e g) z

pub rule_last : (t s : Bool) (k : ℕ) (why : Reason) (whole r : Verdict) → whole ≡ unless s (broken k why) → t ≡ s → r ≡ unless t (broken k why) → r ≡ whole
rule_last t s k why whole r w e g = g ∙ ap (λ b. unless b (broken k why)) e ∙ sym w

-- a rule that is kept, and one that is broken
pub rule_kept : (t : Bool) (k : ℕ) (why : Reason) (u : Unit {0}) → unless t (broken k why) ≡ Ok u → t ≡ true
unfolding unless
rule_kept true k why u z = refl
rule_kept false k why u z = absurd (apart (ap is_ok z))

pub rule_broken : (t : Bool) (k : ℕ) (why : Reason) (f : Fault) → unless t (broken k why) ≡ Err f → t ≡ false
unfolding unless
rule_broken true k why f z = absurd (apart (sym (ap is_ok z)))
rule_broken false k why f z = refl

module _ (types : List BookType) (first : Bool) (m : Member) where
  pub kind_unasked : not first ≡ true → true ≡ first_kind_ok types first m
  unfolding first_kind_ok
  kind_unasked z = rw (not-true first z)

  pub kind_asked : (b : List ℕ) (p kind : ℕ) (r : Bool) → first ≡ true → type_at b p ≡ type_no types m.type → kind ≡ (type_at b p).kind → r ≡ within (1 ‥ 15) kind
      → (r || eqb kind 19 || eqb kind 21) ≡ first_kind_ok types first m
  unfolding first_kind_ok
  kind_asked b p kind r z f g h = rw (z, ← f, ← g, h)

-- A MEMBER: its rules in order, and each as the code asks it
pub member_rules : (types : List BookType) (k : ℕ) (t : BookType) (before : List Member) (m : Member) → member_fault types k t before m ≡
    (unless (id_ok before m) (broken k MemberList)
    then unless (first_id_ok (first_of_union t before) m) (broken k FirstMember)
    then unless (link_ok k t m) (broken k TypeLink)
    then unless (first_kind_ok types (first_of_union t before) m) (broken k FirstMember)
    then unless (flags_ok m) (broken k CodeRange)
    then unless (first_default_ok (first_of_union t before) m) (broken k FirstMember)
    then unless (construct_ok m) (broken k CodeRange)
    then unless (label_count_ok m) (broken k MemberList)
    then unless (first_label_ok (first_of_union t before) m) (broken k FirstMember))
unfolding member_fault
member_rules types k t before m = refl

module _ (m : Member) where
  pub asks_id : (before : List Member) (id : ℕ) (a : Bool) → id ≡ m.id → a ≡ every (other_id id) before → a ≡ id_ok before m
  unfolding id_ok
  asks_id before id a e g = g ∙ ap (λ (i : ℕ). every (other_id i) before) e

  pub asks_flags : (n : ℕ) → n ≡ m.flags → leb n 3 ≡ flags_ok m
  unfolding flags_ok
  asks_flags n e = rw e

  pub asks_construct : (n : ℕ) → n ≡ m.construct → leb n 2 ≡ construct_ok m
  unfolding construct_ok
  asks_construct n e = rw e

  pub asks_labels : (n : ℕ) → n ≡ length m.labels → leb n 16 ≡ label_count_ok m
  unfolding label_count_ok
  asks_labels n e = rw e

  -- of a union's first alone
  module _ (first is : Bool) (f : first ≡ is) where
    pub asks_first_id : (id : ℕ) → id ≡ m.id → (not first || eqb id 0) ≡ first_id_ok is m
    unfolding first_id_ok
    asks_first_id id e = rw (f, e)

    pub asks_first_kind : (types : List BookType) (a : Bool) → a ≡ first_kind_ok types first m → a ≡ first_kind_ok types is m
    asks_first_kind types a g = g ∙ ap (λ (b : Bool). first_kind_ok types b m) f

    pub asks_first_default : (d : Bool) → d ≡ default m → (not first || not d) ≡ first_default_ok is m
    unfolding first_default_ok
    asks_first_default d e = rw (f, e)

    pub asks_first_label : (n : ℕ) → n ≡ length m.labels → (not first || eqb n 0) ≡ first_label_ok is m
    unfolding first_label_ok
    asks_first_label n e = rw (f, e)

-- THE MEMBERS. `done` of them are passed, their ids are below top; the run has the others, with so many bytes
pub record Walking (b : List ℕ) (types : List BookType) (at k done top room : ℕ) (whole : Verdict) (ms : Run) : Type 0 where
  pub stands : drop done (type_at b at).members ≡ listed b ms
  pub still : members_fault types k (type_at b at) (earlier b at done) (listed b ms) room ≡ whole
  pub few : done + length (places_left ms) < 65536
  pub ids : Below top (earlier b at done)

abbrev pub members_at : List ℕ → List BookType → ℕ → ℕ → ℕ → Verdict
members_at b types at k room = members_fault types k (type_at b at) [] (type_at b at).members room

pub walk_start : (b : List ℕ) (types : List BookType) (at k room : ℕ) (ms : Run) → Started b at ms → Walking b types at k 0 0 room (members_at b types at k room) ms
unfolding earlier members_of Below
walk_start b types at k room ms s = record { stands = sym s.is; still = rw s.is; few = omega (arith, s.small, length_left ms); ids = tt }

module _ (b : List ℕ) (types : List BookType) (at k done top room : ℕ) (whole : Verdict) (ms : Run) (x : Walking b types at k done top room whole ms) where
  module _ (p : ℕ) (q : Run) (y : places_left ms ≡ p ∷ places_left q) (n : ℕ) (e : n ≡ length (member_at b p).labels) where
    rest : Verdict
    rest = members_fault types k (type_at b at) (earlier b at done ++ member_at b p ∷ []) (listed b q) (room - member_size (member_at b p))

    pub walk_past : room < 9 + 4 * n → broken k RecordLength ≡ whole
    unfolding members_fault unless ◌then◌
    walk_past l = rw (listed_some b ms p q y, ← e, lt-leb _ _ l) at x.still

    module _ (l : 9 + 4 * n ≤ room) where
      here : whole ≡ (member_fault types k (type_at b at) (earlier b at done) (member_at b p) then rest)
      unfolding rest members_fault unless ◌then◌
      here =
          let w : leb (member_size (member_at b p)) room ≡ true = le-leb (member_size (member_at b p)) room (omega arith) in
          sym (rw (listed_some b ms p q y, w) at x.still)

      module _ (r : Verdict) (g : r ≡ member_fault types k (type_at b at) (earlier b at done) (member_at b p)) where
        pub walk_bad : (f : Fault) → r ≡ Err f → Err f ≡ whole
        walk_bad f z = part_stops _ _ _ _ _ here g z

        pub walk_turn : (id u : ℕ) (v : Unit {0}) → r ≡ Ok v → id ≡ (member_at b p).id → (top ≤ u) × (id < u) → Walking b types at k (done + 1) u (room - (9 + 4 * n)) whole q
        unfolding rest earlier type_of
        walk_turn id u v z i h =
            let next : earlier b at (suc done) ≡ earlier b at done ++ member_at b p ∷ [] =
            after_members done (pair (from b at) 12) (drop 14 (from b at)) (member_at b p) (listed b q) (x.stands ∙ listed_some b ms p q y) in
            record {
              stands = (sym (drop-drop 1 done (type_at b at).members) ∙ ap (drop 1) (x.stands ∙ listed_some b ms p q y));
              still = rw (add-one done, next, e) (sym (part_passes _ _ _ _ _ here g z));
              few = omega (arith, x.few, ap length y);
              ids = rw (add-one done, next) (below_more top u (earlier b at done) (member_at b p) x.ids h.0 (rw i at h.1));
            }

  pub walk_end : (t : Bool) (r : Verdict) → places_left ms ≡ [] → t ≡ eqb room 0 → r ≡ unless t (broken k RecordLength) → r ≡ whole
  unfolding members_fault
  walk_end t r h e g = rule_last t (eqb room 0) k RecordLength whole r (sym (rw (listed_none b ms h) at x.still)) e g

-- A RECORD
module _ (types : List BookType) (b : List ℕ) (at k size l : ℕ) (e : size ≡ pair (from b at) 0) (d : l ≡ length (from b at)) where
  record_is : record_fault types k (from b at) ≡ (unless (leb size l) (broken k RecordLength) then unless (leb 14 size) (broken k RecordLength) then own_fault k (type_at b at) then members_at b types at k (size - 14))
  unfolding record_fault inside_ok own_size_ok
  record_is = rw (e, d)

  pub record_past : (r : Verdict) (f : Fault) → r ≡ unless (leb size l) (broken k RecordLength) → r ≡ Err f → Err f ≡ record_fault types k (from b at)
  record_past r f g z = part_stops _ _ _ _ _ record_is g z

  module _ (h : Verdict) (v : Unit {0}) (i : h ≡ unless (leb size l) (broken k RecordLength)) (y : h ≡ Ok v) where
    pub record_small : size < 14 → broken k RecordLength ≡ record_fault types k (from b at)
    unfolding unless ◌then◌
    record_small g = sym (rw (lt-leb _ _ g) at (part_passes _ _ _ _ _ record_is i y))

    module _ (g : 14 ≤ size) (own : Verdict) (o : own ≡ own_fault k (type_at b at)) where
      inside : record_fault types k (from b at) ≡ (own_fault k (type_at b at) then members_at b types at k (size - 14))
      unfolding unless ◌then◌
      inside = rw (le-leb _ _ g) at (part_passes _ _ _ _ _ record_is i y)

      pub record_own : (f : Fault) → own ≡ Err f → Err f ≡ record_fault types k (from b at)
      record_own f z = part_stops _ _ _ _ _ inside o z

      pub record_members : (r : Verdict) (u : Unit {0}) → own ≡ Ok u → r ≡ members_at b types at k (size - 14) → r ≡ record_fault types k (from b at)
      record_members r u z m = m ∙ sym (part_passes _ _ _ _ _ inside o z)

-- THE RECORDS: k of n are passed
pub records_start : (b : List ℕ) (types : List BookType) (n : ℕ) → records_fault types 0 (n - 0) (from b 7) ≡ records_fault types 0 n (from b 7)
records_start b types n =
    let e : n - 0 ≡ n = omega arith in
    rw e

module _ (b : List ℕ) (types : List BookType) (n k p : ℕ) (whole : Verdict) (inv : records_fault types k (n - k) (from b p) ≡ whole) where
  module _ (r : Verdict) (some : k < n) (g : r ≡ record_fault types k (from b p)) where
    one : whole ≡ (record_fault types k (from b p) then records_fault types (suc k) (n - suc k) (past_type (from b p)))
    unfolding records_fault
    one =
        let j : n - k ≡ suc (n - suc k) = omega arith in
        sym (rw j at inv)

    pub records_bad : (f : Fault) → r ≡ Err f → Err f ≡ whole
    records_bad f z = part_stops _ _ _ _ _ one g z

    pub records_turn : (u : Unit {0}) (l q : ℕ) → r ≡ Ok u → l ≡ pair (from b p) 0 → Skipped b p l q → records_fault types (k + 1) (n - (k + 1)) (from b q) ≡ whole
    unfolding past_type
    records_turn u l q z e s = rw (add-one k, s.is, e) (sym (part_passes _ _ _ _ _ one g z))

  pub records_end : (t : Bool) (l : ℕ) (r : Verdict) → n ≤ k → l ≡ length (from b p) → t ≡ eqb l 0 → r ≡ unless t (broken the_head Head) → r ≡ whole
  unfolding records_fault
  records_end t l r h e f g =
      let none : n - k ≡ 0 = omega arith in
      rule_last t (eqb l 0) the_head Head whole r (sym (rw (none, ← e) at inv)) f g

-- THE BOOK
module _ (b : List ℕ) (h : Bool) (e : h ≡ head_ok b) (told : Verdict) (i : told ≡ unless h (broken the_head Head)) where
  book_is : fault_of b ≡ (unless (head_ok b) (broken the_head Head) then records_fault (types_of b) 0 (type_count b) (drop 7 b))
  unfolding fault_of
  book_is = rw (head_rules b)

  pub head_told : (f : Fault) → told ≡ Err f → Err f ≡ fault_of b
  head_told f z = rule_stops _ _ _ _ _ _ _ _ book_is e i z

  pub head_places : (t : List ℕ) (f : Fault) → told ≡ Err f → t ≡ pick (head_ok b) (indexed b t) t
  head_places t f z = rw (← e, rule_broken _ _ _ _ (sym i ∙ z))

  module _ (t u : List ℕ) (n : ℕ) (v : Unit {0}) (z : told ≡ Ok v) (l : 64 ≤ length t) (f : n ≡ index_count b (length t)) (g : u ≡ indexed b t) where
    good : head_ok b ≡ true
    good = sym e ∙ rule_kept _ _ _ _ (sym i ∙ z)

    counted : n ≡ type_count b
    counted = omega (arith, few_types b good)

    pub records_told : (r : Verdict) → r ≡ records_fault (types_by b (take (n - 0) u)) 0 (length (take (n - 0) u)) (from b 7) → r ≡ fault_of b
    unfolding types_of from
    records_told r k =
        let c : index_count b (length t) ≡ type_count b = sym f ∙ counted in
        let m : n - 0 ≡ index_count b (length t) = omega arith in
        (rw (m, g, index_types b t, take_indexed b t, length_places, c) at k) ∙ sym (rule_passes _ _ _ _ _ _ _ _ book_is e i z)

    pub records_places : u ≡ pick (head_ok b) (indexed b t) t
    records_places = rw good g
