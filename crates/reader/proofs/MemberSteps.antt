-- Laws of members: what each return shows. Assumes nothing.
use Rattle.std.specs.Prelude.{Err, None, Ok, Some, Option as Found}
use Rattle.table.specs.declared.out.Trouble.TheVariants as trouble
use Rattle.wire.specs.declared.cursor.Unread.TheVariants as unread
use Prim.Native.Nat.{ℕ, ◌+◌, ◌<◌}
use mathlib.Core.Path.{◌≡◌, refl, sym, ap, ◌∙◌}
use mathlib.Core.Bool.{Bool, true, false, not}
use borrow.Author.Tests.{not-true}
use mathlib.Core.List.{List, []}
use native.Mathlib.Nat.{add-zero}
use lib.ListN.{length}
use lib.Dec.{T, eqb, leb, leb→le}
use native.Mathlib.Omega.{arith}
use Rattle.ground.specs.Choice.{pick, both, ◌‥◌, within}
use Rattle.ground.proofs.Tests.{both_left}
use Rattle.wire.specs.declared.cursor.Cursor.{Cursor}
use Rattle.wire.specs.declared.cursor.Shortage.{Shortage}
use Rattle.wire.specs.declared.settings.Settings.{Settings}
use Rattle.wire.specs.declared.cursor.Unread.{Unread}
use Rattle.reader.specs.Code.Ending.{coming_back}
use Rattle.reader.proofs.BeginningSteps.{came_done}
use Rattle.table.specs.Code.Outcome.{Out}
use Rattle.table.specs.Rows.{room}
use Rattle.table.specs.Outcome.{Outcome, back_to}
use Rattle.table.specs.Code.Outcome.{Done, unread_trouble}
use Rattle.table.proofs.Filling.{filled_none}
use Rattle.table.proofs.Outcomes.{is_read, is_short, is_refused, is_same}
use Rattle.wire.specs.declared.settings.Version.{Version}
use Rattle.wire.specs.declared.settings.Version.TheVariants.{Xcdr1, Xcdr2}
use Rattle.wire.specs.declared.settings.Mode.{Mode}
use Rattle.wire.specs.declared.settings.Mode.TheVariants.{Crate, Standard}
use Rattle.wire.specs.Ends.{cut_at}
use Rattle.wire.specs.Number.{Boolean}
use Rattle.wire.specs.Number.{read_boolean}
use Rattle.book.specs.Types.{BookType, Member, bounded, optional, type_no}
use Rattle.book.specs.Places.{member_at, type_at, types_by, PlaceOf}
use Rattle.book.specs.Asked.{is_sequence, read_as}
use Rattle.lookup.specs.Member.{locate}
use Rattle.lookup.specs.Member.{Located}
use Rattle.kinds.specs.Kinds.{opens, unsupported_member, bitmask_stored, stored_by_bound}
use Rattle.reader.specs.Value.{Nest, elements_of, value_of}
use Rattle.reader.specs.Code.Run.{run_of}
use Rattle.reader.proofs.RunSteps.{run_single}
use Rattle.reader.proofs.ValueSteps.{opened_kind, value_opens}
use Rattle.reader.specs.Member.{by_length, element_count, found_by, found_value, found_of, on_located, mmember_of, on_present, optional_by, fmember_by, fmember_of}

no_length : (types : List BookType) (v : Version) (m : Mode) (t : BookType) → eqb t.kind 25 ≡ false → by_length v m types t ≡ false
unfolding by_length is_sequence
no_length types Xcdr1 m t e = refl
no_length types Xcdr2 Crate t e = rw e
no_length types Xcdr2 Standard t e = refl

opened_some : (k : ℕ) → opens k ≡ true → 0 < k
unfolding opens
opened_some k e =
    let i : T (both (leb 21 k) (leb k 23)) = rw e tt in
    let low = leb→le 21 k (both_left (leb 21 k) (leb k 23) i) in
    omega (arith, low)

-- a bitmask is read as a number, which opens nothing
unopened : (x y z : Bool) → opens (pick x 13 (pick y 6 (pick z 7 8))) ≡ false
unfolding opens
unopened true y z = refl
unopened false true z = refl
unopened false false true = refl
unopened false false false = refl

unmasked : (t : BookType) → opens (read_as t) ≡ true → t.kind ≡ read_as t
unfolding read_as bitmask_stored stored_by_bound
unmasked t = go (eqb t.kind 19)
  where
    go : (x : Bool) → opens (pick x (bitmask_stored (bounded t) t.bound) t.kind) ≡ true → t.kind ≡ pick x (bitmask_stored (bounded t) t.bound) t.kind
    go true o =
        let l = pick (bounded t) t.bound 32 in
        let h : T (opens (bitmask_stored (bounded t) t.bound)) = rw o tt in
        absurd (rw (unopened (within (1 ‥ 8) l) (within (9 ‥ 16) l) (within (17 ‥ 32) l)) at h)
    go false o = refl

module _ (b index s : List ℕ) (set : Settings) (nest : Nest) (p : ℕ) (c : Cursor) (t : List ℕ) (n : ℕ) where
  abbrev m : Member
  m = member_at b p

  -- the value of a member that was found
  module _ (length ty q : ℕ) (type : ty ≡ (member_at b p).type) (at : PlaceOf b index ty q) (i : ℕ) (named : i ≡ (member_at b p).id) where
    abbrev found : Outcome
    found = found_value (types_by b index) s set nest m length c (room t n)

    typed : type_at b q ≡ type_no (types_by b index) m.type
    typed = at.is ∙ ap (type_no (types_by b index)) type

    asked : (y : Bool) → y ≡ by_length set.version set.mode (types_by b index) (type_at b q) → by_length set.version set.mode (types_by b index) (type_no (types_by b index) m.type) ≡ y
    asked y g = ap (by_length set.version set.mode (types_by b index)) (sym typed) ∙ sym g

    pub found_length : (y : Bool) → y ≡ by_length set.version set.mode (types_by b index) (type_at b q) → y ≡ true → (count e : ℕ) → count ≡ element_count (types_by b index) (type_at b q) length → e ≡ (type_at b q).element → (u : List ℕ) (r : Out)
        → Done (elements_of (types_by b index) s set nest e i count c (room t n)) n t u r → Done found n t u r
    unfolding found_value found_by
    found_length y g h count e j k u r d =
        let e1 : (type_no (types_by b index) m.type).element ≡ e = ap (λ (x : BookType). x.element) (sym typed) ∙ sym k in
        let e2 : element_count (types_by b index) (type_no (types_by b index) m.type) length ≡ count = ap (λ (x : BookType). element_count (types_by b index) x length) (sym typed) ∙ sym j in
        is_same (ap (λ (z : Bool). found_by (types_by b index) s set nest z m length c (room t n)) (asked y g ∙ h)
        ∙ ap (λ (z : ℕ). elements_of (types_by b index) s set nest z m.id (element_count (types_by b index) (type_no (types_by b index) m.type) length) c (room t n)) e1
        ∙ ap (λ (z : ℕ). elements_of (types_by b index) s set nest e m.id z c (room t n)) e2
        ∙ ap (λ (z : ℕ). elements_of (types_by b index) s set nest e z count c (room t n)) (sym named)) d

    pub found_value_law : (y : Bool) → y ≡ by_length set.version set.mode (types_by b index) (type_at b q) → y ≡ false → (u : List ℕ) (r : Out) → Done (value_of (types_by b index) s set nest ty i c (room t n)) n t u r → Done found n t u r
    unfolding found_value found_by
    found_value_law y g h u r d = is_same (ap (λ (z : Bool). found_by (types_by b index) s set nest z m length c (room t n)) (asked y g ∙ h) ∙ rw (← type, ← named)) d

    -- what opens is taken by no length
    pub found_opens : (k : ℕ) → k ≡ (type_at b q).kind → (o : Bool) → o ≡ opens k → o ≡ true → (u : List ℕ) (r : Out) → Done (run_of nest s ty i 1 0 c (room t n)) n t u r → Done found n t u r
    unfolding found_value found_by
    found_opens k kind o g h u r d =
        let z : eqb k 25 ≡ false = (opened_kind k (sym g ∙ h)).2 in
        let e : by_length set.version set.mode (types_by b index) (type_no (types_by b index) m.type) ≡ false = ap (by_length set.version set.mode (types_by b index)) (sym typed) ∙ no_length (types_by b index) set.version set.mode (type_at b q) (ap (λ (x : ℕ). eqb x 25) (sym kind) ∙ z) in
        is_same (ap (λ (z : Bool). found_by (types_by b index) s set nest z m length c (room t n)) e ∙ rw (← type, ← named)) (value_opens b index s set nest ty i c t n q k at kind o g h u r d)

  -- of a kind that opens, by the kind that it is read as
  module _ (ty i k : ℕ) (type : ty ≡ (member_at b p).type) (named : i ≡ (member_at b p).id) (read : 0 < k → k ≡ read_as (type_no (types_by b index) (member_at b p).type)) (o : Bool) (g : o ≡ opens k) (h : o ≡ true) where
    abbrev its : BookType
    its = type_no (types_by b index) m.type

    own_kind : its.kind ≡ k
    own_kind =
        let y : opens k ≡ true = sym g ∙ h in
        let a : k ≡ read_as its = read (opened_some k y) in
        unmasked its (ap opens (sym a) ∙ y) ∙ sym a

    opened_value : value_of (types_by b index) s set nest m.type m.id c (room t n) ≡ run_of nest s ty i 1 0 c (room t n)
    unfolding value_of
    opened_value =
        let y : opens k ≡ true = sym g ∙ h in
        let w = opened_kind k y in
        let v : value_of (types_by b index) s set nest m.type m.id c (room t n) ≡ nest s m.type m.id c (room t n) = rw (ap (λ (x : ℕ). eqb x 0) own_kind ∙ w.0, ap unsupported_member own_kind ∙ w.1, ap opens own_kind ∙ y) in
        v ∙ rw (← type, ← named) (sym (run_single nest s ty i c (room t n)))

    pub found_opened : (length : ℕ) (u : List ℕ) (r : Out) → Done (run_of nest s ty i 1 0 c (room t n)) n t u r → Done (found_value (types_by b index) s set nest m length c (room t n)) n t u r
    unfolding found_value found_by
    found_opened length u r d =
        let w = opened_kind k (sym g ∙ h) in
        let l : by_length set.version set.mode (types_by b index) its ≡ false = no_length (types_by b index) set.version set.mode its (ap (λ (x : ℕ). eqb x 25) own_kind ∙ w.2) in
        is_same (ap (λ (z : Bool). found_by (types_by b index) s set nest z m length c (room t n)) l ∙ opened_value) d

    pub fmember_opened : (f : Bool) → f ≡ optional (member_at b p) → not f ≡ true → (u : List ℕ) (r : Out) → Done (run_of nest s ty i 1 0 c (room t n)) n t u r → Done (fmember_of (types_by b index) s set nest m c (room t n)) n t u r
    unfolding fmember_of fmember_by
    fmember_opened f is never u r d = is_same (rw (sym is ∙ not-true f never) opened_value) d

  -- a member by its lookup
  module _ (i : ℕ) (named : i ≡ (member_at b p).id) (g : Located) (is : g ≡ locate s set i c) where
    abbrev looked : Outcome
    looked = mmember_of (types_by b index) s set nest m c (room t n)

    at_id : locate s set m.id c ≡ g
    at_id = ap (λ (x : ℕ). locate s set x c) (sym named) ∙ sym is

    pub mmember_short : (x : Shortage) → g ≡ Err x → Done looked n t t (Err (trouble.Short x))
    unfolding mmember_of on_located
    mmember_short x e = is_short (rw (at_id ∙ e)) (filled_none t n)

    pub mmember_absent : (back : Cursor) → g ≡ Ok (None, back) → Done looked n t t (Ok (back, n))
    unfolding mmember_of on_located
    mmember_absent back e = is_read {rs = []} (rw (at_id ∙ e)) (sym (add-zero n)) (filled_none t n)

    module _ (length : ℕ) (d back : Cursor) (e : g ≡ Ok (Some (length, d), back)) (w : List ℕ) (own : w ≡ cut_at set s (d.pos + length)) (u : List ℕ) (r : Out) (h : Done (found_value (types_by b index) w set nest m length d (room t n)) n t u r) where
      came : looked ≡ back_to back (found_value (types_by b index) w set nest m length d (room t n))
      unfolding mmember_of on_located found_of
      came = rw (at_id ∙ e, ← own)

      pub mmember_came : (y : Out) → y ≡ coming_back back r → Done looked n t u y
      mmember_came y q = is_same came (came_done back h q)

  -- an optional member
  abbrev asked_for_law : Outcome
  asked_for_law = optional_by (types_by b index) s set nest set.version m c (room t n)

  pub optional_looked : set.version ≡ Xcdr1 → (u : List ℕ) (r : Out) → Done (mmember_of (types_by b index) s set nest m c (room t n)) n t u r → Done asked_for_law n t u r
  unfolding optional_by
  optional_looked e u r d = is_same (ap (λ (v : Version). optional_by (types_by b index) s set nest v m c (room t n)) e) d

  module _ (e : set.version ≡ Xcdr2) (g : Boolean) (is : g ≡ read_boolean s set c) where
    present : asked_for_law ≡ on_present (types_by b index) s set nest m (room t n) g
    unfolding optional_by
    present = ap (λ (v : Version). optional_by (types_by b index) s set nest v m c (room t n)) e ∙ ap (on_present (types_by b index) s set nest m (room t n)) (sym is)

    pub optional_unread : (x : Unread) → g ≡ Err x → Done asked_for_law n t t (Err (unread_trouble x))
    unfolding on_present
    optional_unread (unread.Short x) f = is_short (present ∙ ap (on_present (types_by b index) s set nest m (room t n)) f) (filled_none t n)
    optional_unread unread.Bad f = is_refused (present ∙ ap (on_present (types_by b index) s set nest m (room t n)) f) (filled_none t n)

    module _ (y : Bool) (d : Cursor) (f : g ≡ Ok (y, d)) where
      pub optional_absent : y ≡ false → Done asked_for_law n t t (Ok (d, n))
      unfolding on_present
      optional_absent h = is_read {rs = []} (present ∙ ap (on_present (types_by b index) s set nest m (room t n)) (f ∙ ap (λ (z : Bool). (Ok (z, d))) h)) (sym (add-zero n)) (filled_none t n)

      pub optional_present : y ≡ true → (ty i : ℕ) → ty ≡ (member_at b p).type → i ≡ (member_at b p).id → (u : List ℕ) (r : Out) → Done (value_of (types_by b index) s set nest ty i d (room t n)) n t u r → Done asked_for_law n t u r
      unfolding on_present
      optional_present h ty i j k u r w =
          is_same (present ∙ ap (on_present (types_by b index) s set nest m (room t n)) (f ∙ ap (λ (z : Bool). (Ok (z, d))) h) ∙ rw (← j, ← k)) w

  -- a member of a Final or Appendable type
  module _ (o : Bool) (is : o ≡ optional (member_at b p)) where
    abbrev final : Outcome
    final = fmember_of (types_by b index) s set nest m c (room t n)

    by : (z : Bool) → o ≡ z → final ≡ fmember_by (types_by b index) s set nest z m c (room t n)
    unfolding fmember_of
    by z e = ap (λ (y : Bool). fmember_by (types_by b index) s set nest y m c (room t n)) (sym is ∙ e)

    pub fmember_optional : o ≡ true → (u : List ℕ) (r : Out) → Done asked_for_law n t u r → Done final n t u r
    unfolding fmember_by
    fmember_optional e u r d = is_same (by true e) d

    pub fmember_value : o ≡ false → (ty i : ℕ) → ty ≡ (member_at b p).type → i ≡ (member_at b p).id → (u : List ℕ) (r : Out) → Done (value_of (types_by b index) s set nest ty i c (room t n)) n t u r → Done final n t u r
    unfolding fmember_by
    fmember_value e ty i j k u r d = is_same (by false e ∙ rw (← j, ← k)) d

-- read, and back where the lookup began
pub is_back : (c d : Cursor) (n : ℕ) → ◌≡◌ {A = Out} (Ok (c, n)) (coming_back c (Ok (d, n)))
unfolding coming_back
is_back c d n = refl

-- what was located, or that nothing was
pub with_found : {g : Located} {f h : Found (ℕ × Cursor)} {back : Cursor} → g ≡ Ok (f, back) → f ≡ h → g ≡ Ok (h, back)
with_found {back = back} e k = e ∙ ap (λ (x : Found (ℕ × Cursor)). Ok (x, back)) k
