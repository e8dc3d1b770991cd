-- Laws of a value and of lists of opened values: what each return and each turn shows. Assumes nothing.
use Rattle.std.specs.Prelude.{Option, None, Some, Err, Ok}
use Rattle.table.specs.declared.out.Trouble.TheVariants as trouble
use Rattle.wire.specs.declared.cursor.Unread.TheVariants as unread
use Prim.Native.Nat.{ℕ, ◌+◌, ◌-◌, ◌≤◌}
use mathlib.Core.Path.{◌≡◌, refl, sym, ap, ◌∙◌}
use mathlib.Core.Bool.{Bool, true, false, not, ◌||◌, ◌&&◌, or-false}
use mathlib.Core.List.{List, [], ◌∷◌, append-nil}
use native.Mathlib.Nat.{add-zero}
use native.Mathlib.Omega.{arith}
use lib.Dec.{T, eqb, leb, leb→le}
use borrow.Author.Tests.{ne_eqb}
use Rattle.ground.proofs.Tests.{apart, both_left, both_right, and_both}
use Rattle.ground.proofs.Between.{passes, between}
use Rattle.ground.specs.Choice.{pick, both, among}
use Rattle.wire.specs.declared.cursor.Cursor.{Cursor}
use Rattle.wire.specs.declared.cursor.Shortage.{Shortage}
use Rattle.wire.specs.declared.settings.Settings.{Settings}
use Rattle.table.specs.Code.Outcome.{Out}
use Rattle.table.specs.Rows.{row, room, no_room}
use Rattle.table.specs.Code.Rows.{put_row, Filled}
use Rattle.table.specs.Outcome.{Outcome, read, short, refused, room_for, prepend, and_then}
use Rattle.table.specs.Code.Outcome.{Done, unread_trouble}
use Rattle.wire.specs.declared.cursor.Unread.{Unread}
use Rattle.table.proofs.Filling.{filled_none, filled_kept, filled_one, full_fits, room_used}
use Rattle.table.proofs.Outcomes.{is_read, is_short, is_refused, is_same, is_after, WasRead, was_read, was_short, was_refused, then_read, then_short, then_refused, then_nil, no_room_law, some_room}
use Rattle.wire.specs.Dheader.{Contents}
use Rattle.wire.specs.Place.{cursor_at}
use Rattle.wire.specs.Ends.{keeps_ends, cut_at}
use Rattle.wire.specs.Dheader.{contents_at}
use Rattle.wire.specs.Number.{after_number}
use Rattle.wire.proofs.Contents.{contents_short, contents_between, contents_past}
use Rattle.wire.specs.Number.{Number}
use Rattle.wire.proofs.Numbers.{after_got, after_none}
use Rattle.kinds.proofs.Table.{opened_stored, sequence_stored}
use Rattle.kinds.specs.Kinds.{stored_of, is_primitive, unsupported_member, unsupported_element, opens}
use Rattle.book.specs.Types.{BookType, type_no}
use Rattle.book.specs.Places.{type_at, types_by, PlaceOf}
use Rattle.book.specs.Asked.{is_sequence, primitive_element, read_as}
use Rattle.table.specs.declared.out.Refusal.TheVariants.{InvalidData, Unsupported, NoRoom}
use Rattle.values.specs.Scalar.{scalar_of}
use Rattle.values.specs.Code.Lists.{plain_of}
use Rattle.values.specs.Code.Quick.{Quickly}
use Rattle.values.proofs.Quickly.{quick_done, quick_none}
use Rattle.values.proofs.Lists.{plain_by_kind}
use Rattle.values.specs.Count.{count_at}
use Rattle.reader.specs.Code.Run.{run_of}
use Rattle.reader.proofs.RunSteps.{run_single, run_list}
use Rattle.book.proofs.Answers.{read_other}
use Rattle.reader.specs.Value.{Nest, opened_from, opened_list, elements_of, counted_of, has_dheader, list_end_if, list_end, list_value, value_of}
use Rattle.reader.specs.Code.Ending.{ending_at}

-- the kinds that open: none of them is NONE, unsupported or a sequence
pub opened_kind : (k : ℕ) → opens k ≡ true → (eqb k 0 ≡ false) × (unsupported_member k ≡ false) × (eqb k 25 ≡ false)
unfolding opens unsupported_member
opened_kind k e =
    let i : T (both (leb 21 k) (leb k 23)) = rw e tt in
    let low : 21 ≤ k = leb→le 21 k (both_left (leb 21 k) (leb k 23) i) in
    let high : k ≤ 23 = leb→le k 23 (both_right (leb 21 k) (leb k 23) i) in
    let at : (f : ℕ → Bool) → T (passes (λ x. not (f x)) 21 3) → f k ≡ false = λ f t. falsity (f k) (between (λ x. not (f x)) 3 21 t k low (omega arith)) in
    (at (λ x. eqb x 0) tt, at unsupported_member tt, at (λ x. eqb x 25) tt)
  where
    falsity : (x : Bool) → T (not x) → x ≡ false
    falsity true h = absurd h
    falsity false h = refl

-- a primitive is read as its own kind
pub primitive_read : (t : BookType) → is_primitive t.kind ≡ true → read_as t ≡ t.kind
unfolding is_primitive
primitive_read t h = sym (read_other t t.kind refl (λ e. apart (rw e at h)))

-- by a type's kind: the type with a number stands at a place of the book
module _ (b index s : List ℕ) (set : Settings) (nest : Nest) (ty id : ℕ) (c : Cursor) (t : List ℕ) (n p k : ℕ) (at : PlaceOf b index ty p) (kind : k ≡ (type_at b p).kind) where
  kind_no : (type_no (types_by b index) ty).kind ≡ k
  kind_no = sym (kind ∙ ap (λ (x : BookType). x.kind) at.is)

  -- a test of the kind, asked of the type's (a rewrite of the kind itself would open the whole type)
  tested : (f : ℕ → Bool) (x z : Bool) → x ≡ f k → x ≡ z → f (type_no (types_by b index) ty).kind ≡ z
  tested f x z e g = ap f kind_no ∙ sym e ∙ g

  -- the elements of a list
  module _ (count : ℕ) where
    abbrev elements : Outcome
    elements = elements_of (types_by b index) s set nest ty id count c (room t n)

    pub elements_unsupported : (x : Bool) → x ≡ unsupported_element k → x ≡ true → Done elements n t t (Err (trouble.Refused Unsupported))
    unfolding elements_of
    elements_unsupported x e f = is_refused (rw (tested unsupported_element x true e f)) (filled_none t n)

    module _ (x : Bool) (e : x ≡ unsupported_element k) (f : x ≡ false) (y : Bool) (g : y ≡ opens k) where
      opened_list_law : y ≡ true → elements ≡ room_for (room t n) (prepend (row 25 id k count c.pos ∷ []) (opened_from (types_by b index) s set nest ty count 0 c (room t n - 1)))
      unfolding elements_of opened_list
      opened_list_law h = rw (kind_no, ← e, f, ← g, h)

      pub elements_full : y ≡ true → (z : Bool) → z ≡ no_room t n → z ≡ true → Done elements n t t (Err (trouble.Refused NoRoom))
      elements_full h z i j = is_refused (opened_list_law h ∙ no_room_law t n _ z i j) (filled_none t n)

      pub elements_opened : y ≡ true → (z : Bool) → z ≡ no_room t n → z ≡ false → (i₁ i₂ : ℕ) → i₁ ≡ stored_of 25 → i₂ ≡ stored_of k → (u : List ℕ) → u ≡ put_row t n (row i₁ id i₂ count c.pos) → (v : List ℕ) (r : Out)
          → Done (run_of nest s ty 0 count 0 c (room u (n + 1))) (n + 1) u v r → Done elements n t v r
      elements_opened h z i j i₁ i₂ l m u q v r d =
          let w : Filled t u n (row 25 id k count c.pos ∷ []) = rw (q, l ∙ sequence_stored, m ∙ opened_stored k (sym g ∙ h)) (filled_one t n (row 25 id k count c.pos) (full_fits t n z i j)) in
          is_same (opened_list_law h ∙ some_room t n _ z i j ∙ ap (λ (m : ℕ). prepend (row 25 id k count c.pos ∷ []) (opened_from (types_by b index) s set nest ty count 0 c m)) (room_used t u n 1 w.long)
          ∙ ap (prepend (row 25 id k count c.pos ∷ [])) (sym (run_list (types_by b index) s set nest ty count 0 c (room u (n + 1))))) (is_after w d)

      -- .. of which there is none
      pub elements_none : y ≡ true → (z : Bool) → z ≡ no_room t n → z ≡ false → (i₁ i₂ : ℕ) → i₁ ≡ stored_of 25 → i₂ ≡ stored_of k → (u : List ℕ) → u ≡ put_row t n (row i₁ id i₂ count c.pos) → count ≡ 0 → Done elements n t u (Ok (c, n + 1))
      unfolding run_of
      elements_none h z i j i₁ i₂ l m u q none =
          elements_opened h z i j i₁ i₂ l m u q u (Ok (c, n + 1)) (is_read {rs = []} (ap (λ (x : ℕ). run_of nest s ty 0 x 0 c (room u (n + 1))) none) (sym (add-zero (n + 1))) (filled_none u (n + 1)))

      -- what opens nothing: both sorts of lists, of which a primitive is read as its own kind
      pub elements_plain : y ≡ false → (a : ℕ) → a ≡ read_as (type_at b p) → (u : List ℕ) (r : Out) → Done (plain_of (eqb k 2 || eqb k 13) s set a id count c (room t n)) n t u r → Done elements n t u r
      unfolding elements_of
      elements_plain h a l u r d =
          let own : is_primitive k ≡ true → a ≡ k = λ i. l ∙ primitive_read (type_at b p) (rw kind at i) ∙ sym kind in
          is_same (rw (tested unsupported_element x false e f, tested opens y false g h, ap read_as (sym at.is) ∙ sym l, kind_no) (plain_by_kind s set k a id count c (room t n) (eqb k 2 || eqb k 13) own refl)) d

  -- a value
  abbrev valued : Outcome
  valued = value_of (types_by b index) s set nest ty id c (room t n)

  pub value_none : k ≡ 0 → Done valued n t t (Ok (c, n))
  unfolding value_of
  value_none e = is_read {rs = []} (rw (kind_no, e)) (sym (add-zero n)) (filled_none t n)

  -- what opens is none of the others
  pub value_opens : (y : Bool) → y ≡ opens k → y ≡ true → (u : List ℕ) (r : Out) → Done (run_of nest s ty id 1 0 c (room t n)) n t u r → Done valued n t u r
  unfolding value_of
  value_opens y g h u r d =
      let o = opened_kind k (sym g ∙ h) in
      is_same (rw (ap (λ (z : ℕ). eqb z 0) kind_no ∙ o.0, ap unsupported_member kind_no ∙ o.1, tested opens y true g h) (sym (run_single nest s ty id c (room t n)))) d

  module _ (some : k ≡ 0 → ⊥) (x : Bool) (e : x ≡ unsupported_member k) where
    pub value_unsupported : x ≡ true → Done valued n t t (Err (trouble.Refused Unsupported))
    unfolding value_of
    value_unsupported f = is_refused (rw (kind_no, ne_eqb k 0 some, ← e, f)) (filled_none t n)

    module _ (f : x ≡ false) (y : Bool) (g : y ≡ opens k) where
      here : eqb (type_no (types_by b index) ty).kind 0 ≡ false
      here = ap (λ (z : ℕ). eqb z 0) kind_no ∙ ne_eqb k 0 some

      pub value_nested : y ≡ true → (u : List ℕ) (r : Out) → Done (run_of nest s ty id 1 0 c (room t n)) n t u r → Done valued n t u r
      unfolding value_of
      value_nested h u r d = is_same (rw (kind_no, ne_eqb k 0 some, ← e, f, ← g, h) (sym (run_single nest s ty id c (room t n)))) d

      list_among : (eqb k 25 || eqb k 26) ≡ among (25 ∷ 26 ∷ []) k
      list_among = simp or-false

      pub value_list : y ≡ false → (eqb k 25 || eqb k 26) ≡ true → (u : List ℕ) (r : Out) → Done (list_value (types_by b index) s set nest (type_at b p) id c (room t n)) n t u r → Done valued n t u r
      unfolding value_of
      value_list h i u r d =
          is_same (rw (here, tested unsupported_member x false e f, tested opens y false g h, tested (among (25 ∷ 26 ∷ [])) _ true list_among i) (ap (λ (z : BookType). list_value (types_by b index) s set nest z id c (room t n)) (sym at.is))) d

      pub value_scalar : y ≡ false → (eqb k 25 || eqb k 26) ≡ false → (a : ℕ) → a ≡ read_as (type_at b p) → (u : List ℕ) (r : Out) → Done (scalar_of s set a id c (room t n)) n t u r → Done valued n t u r
      unfolding value_of
      value_scalar h i a j u r d =
          is_same (rw (here, tested unsupported_member x false e f, tested opens y false g h, tested (among (25 ∷ 26 ∷ [])) _ false list_among i) (ap (λ (m : ℕ). scalar_of s set m id c (room t n)) (ap read_as (sym at.is) ∙ sym j))) d

      -- .. where the quick way took it, or left it alone
      module _ (h : y ≡ false) (i : (eqb k 25 || eqb k 26) ≡ false) (a : ℕ) (j : a ≡ read_as (type_at b p)) (u : List ℕ) (r : Option ℕ) (q : Quickly (scalar_of s set a id c (room t n)) 1 n c.origin t u r) where
        pub value_taken : {x : ℕ} → r ≡ Some x → (d : Cursor) → d ≡ cursor_at x c.origin → Done valued n t u (Ok (d, n + 1))
        value_taken l d m = value_scalar h i a j u _ (rw m (quick_done 1 r l q))

        pub value_left : r ≡ None → (v : List ℕ) (w : Out) → Done (scalar_of s set a id c (room u n)) n u v w → Done valued n t v w
        value_left l v w d = value_scalar h i a j v w (rw (quick_none _ 1 n c.origin t u r l q) at d)

-- what a DHEADER's end makes of a list
ends_there : (end : ℕ) {o : Outcome} {n : ℕ} {t u : List ℕ} {r v : Out} → Done o n t u r → v ≡ ending_at end r → Done (and_then o (λ e used. pick (eqb e.pos end) (read e []) (refused InvalidData))) n t u v
unfolding and_then prepend ending_at
ends_there end {o} {n} {t} {u} {r} {v} h f = go r refl
  where
    by : (c : Cursor) (m : ℕ) → r ≡ Ok (c, m) → WasRead o n t u c m → (y : Bool) → eqb c.pos end ≡ y → Done (and_then o (λ e used. pick (eqb e.pos end) (read e []) (refused InvalidData))) n t u v
    by c m q w true e = rw (f ∙ ap (ending_at end) q, e) (is_read (then_read _ w.is ∙ rw e (ap (read c) (append-nil w.new))) w.count w.filled)
    by c m q w false e = rw (f ∙ ap (ending_at end) q, e) (is_refused (then_read _ w.is ∙ rw e) (filled_kept w.filled))

    go : (x : Out) → r ≡ x → Done (and_then o (λ e used. pick (eqb e.pos end) (read e []) (refused InvalidData))) n t u v
    go (Ok (c, m)) q = by c m q (was_read h q) (eqb c.pos end) refl
    go (Err (trouble.Short x)) q = let w = was_short h q in rw (f ∙ ap (ending_at end) q) (is_short (then_short _ w.is) w.filled)
    go (Err (trouble.Refused k)) q = let w = was_refused h q in rw (f ∙ ap (ending_at end) q) (is_refused (then_refused _ w.is) w.filled)

-- a list: what begins it, its elements, what ends it
module _ (b index s : List ℕ) (set : Settings) (nest : Nest) (at id : ℕ) (c : Cursor) (t : List ℕ) (n : ℕ) (p : Bool) (primitive : p ≡ primitive_element (types_by b index) (type_at b at)) (g : Contents) (is : g ≡ contents_at s set (not p) c) where
  abbrev list : Outcome
  list = list_value (types_by b index) s set nest (type_at b at) id c (room t n)

  begins : contents_at s set (has_dheader (types_by b index) (type_at b at)) c ≡ g
  unfolding has_dheader
  begins = rw (← primitive) (sym is)

  -- what begins it ran short, or its end is past the data's
  pub list_unread : (x : Unread) → g ≡ Err x → Done list n t t (Err (unread_trouble x))
  unfolding list_value
  list_unread (unread.Short x) e = is_short (contents_short _ _ _ (begins ∙ e)) (filled_none t n)
  list_unread unread.Bad e = is_refused (contents_past _ _ _ (begins ∙ e)) (filled_none t n)

  module _ (d : Cursor) (end : ℕ) (e : g ≡ Ok (d, end)) (w : List ℕ) (cut : w ≡ cut_at set s (0 + end)) (q : Bool) (m : ℕ) (sequence : q ≡ is_sequence (type_at b at)) (bound : m ≡ (type_at b at).bound)
      (k : Number) (counts : k ≡ count_at w set q m d) where
    begun : list ≡ and_then (after_number short k (λ count f. elements_of (types_by b index) w set nest (type_at b at).element id count f (room t n))) (λ f used. list_end (types_by b index) set (type_at b at) end f)
    unfolding list_value counted_of
    begun = contents_between _ _ _ (begins ∙ e) ∙ rw (← (cut ∙ ap (cut_at set s) (let y : 0 + end ≡ end = omega arith in y)), ← sequence, ← bound, ← counts)

    pub list_uncounted : (x : Shortage) → k ≡ Err x → Done list n t t (Err (trouble.Short x))
    list_uncounted x f = is_short (begun ∙ then_short _ (after_none _ _ f)) (filled_none t n)

    module _ (count : ℕ) (first : Cursor) (got : k ≡ Ok (count, first)) (ty : ℕ) (element : ty ≡ (type_at b at).element) (u : List ℕ) (r : Out)
        (h : Done (elements_of (types_by b index) w set nest ty id count first (room t n)) n t u r) (z : Bool) (keeps : z ≡ keeps_ends set) where
      ended : (y : Bool) → (z && not p) ≡ y → list ≡ and_then (elements_of (types_by b index) w set nest ty id count first (room t n)) (λ f used. list_end_if y end f)
      unfolding list_end has_dheader
      ended y f =
          begun ∙ ap (λ (o : Outcome). and_then o (λ f used. list_end (types_by b index) set (type_at b at) end f)) (after_got _ _ got ∙ ap (λ (x : ℕ). elements_of (types_by b index) w set nest x id count first (room t n)) (sym element))
          ∙ rw (← primitive, ← keeps, sym (and_both z (not p)) ∙ f)

      pub list_there : (z && not p) ≡ true → (v : Out) → v ≡ ending_at end r → Done list n t u v
      unfolding list_end_if
      list_there f v i = is_same (ended true f) (ends_there end h i)

      pub list_rest : (z && not p) ≡ false → Done list n t u r
      unfolding list_end_if
      list_rest f = is_same (ended false f ∙ then_nil _) h
