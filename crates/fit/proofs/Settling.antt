-- THE ONE PASS OVER THE RULES: where a type is fit, a value of it is read with rows of its shape, or is short, or is refused with one of three
-- numbers. One law for each rule of the reader, in its order, over one hypothesis about how values are opened; then the depth. Assumes nothing.
use Rattle.wire.specs.declared.cursor.Unread.TheVariants as unread
use Prim.Native.Nat.{ℕ, zero, suc, ◌+◌, ◌-◌, ◌≤◌}
use mathlib.Core.Path.{◌≡◌, refl, sym, ap, ◌∙◌}
use mathlib.Core.Bool.{Bool, true, false, ◌||◌}
use mathlib.Core.List.Memᴰ
use mathlib.Core.List.{List, [], ◌∷◌, ◌++◌, append-nil}
use mathlib.Core.Option.{Option, none, some}
use native.Mathlib.Omega.{arith}
use lib.Dec.{eqb}
use lib.ListN.{length}
use lib.IntN.{ℤ}
use borrow.Author.Tests.{eqb-true, eq-eqb, not-true}
use Rattle.ground.specs.Choice.{both, among}
use Rattle.ground.proofs.Tests.{apart, both_first, one_second}
use Rattle.wire.specs.declared.cursor.Cursor.{Cursor}
use Rattle.wire.specs.declared.settings.Settings.{Settings}
use Rattle.wire.specs.declared.settings.Version.{Version}
use Rattle.wire.specs.declared.settings.Version.TheVariants.{Xcdr1, Xcdr2}
use Rattle.wire.specs.declared.settings.Mode.{Mode}
use Rattle.wire.specs.declared.settings.Mode.TheVariants.{Crate, Standard}
use Rattle.wire.specs.Place.{Place, seek_to}
use Rattle.wire.specs.Number.{Number, Boolean, read_boolean}
use Rattle.wire.proofs.Numbers.{got_inv, read_inv}
use Rattle.kinds.specs.Kinds.{is_primitive, opens, unsupported_member, unsupported_element}
use Rattle.book.specs.Types.{BookType, Member, optional, default, type_no}
use Rattle.book.specs.Rules.{is_enum, is_list}
use Rattle.book.specs.Asked.{read_as, is_sequence, primitive_element, is_mutable, is_structure}
use Rattle.choice.specs.Discriminator.{Discriminator, discriminator_of}
use Rattle.choice.specs.Select.{selected_of}
use Rattle.choice.specs.declared.discriminator.Unsaid.TheVariants as unsaid
use Rattle.std.specs.Prelude.{Ok, Err, None, Some}
use Rattle.lookup.specs.Xcdr1.{seek_to_sentinel}
use Rattle.lookup.specs.Member.{Located, locate}
use Rattle.table.specs.declared.rows.Row.{Row}
use Rattle.table.specs.declared.out.Refusal.TheVariants.{InvalidData}
use Rattle.table.specs.Rows.{row}
use Rattle.table.specs.Outcome.{Outcome, and_then}
use Rattle.values.specs.Scalar.{scalar_of, enum_of}
use Rattle.values.specs.List.{elements_from, list_of, on_block, block_of, primitives_of, bitmasks_or_texts_of}
use Rattle.wire.specs.Dheader.{contents_at}
use Rattle.wire.specs.Ends.{keeps_ends, cut_at}
use Rattle.values.specs.Count.{count_at}
use Rattle.reader.specs.Value.{Nest, opened_from, opened_list, elements_of, counted_of, has_dheader, list_end_if, list_end, list_value, value_of}
use Rattle.reader.specs.Member.{by_length, element_count, found_by, found_value, found_of, on_located, mmember_of, on_present, optional_by, fmember_by, fmember_of}
use Rattle.reader.specs.Structure.{absorbs, fmembers_of, mmembers_of}
use Rattle.reader.specs.Union.{member_by, discriminator_by, on_selected, on_discriminator, chosen_of, members_by}
use Rattle.reader.specs.Nested.{beginning_of, ending_by, ending_if, ending_of, members_if, members_of, contents_of, delimited_of, body_by, body_of, opened_if, nested_at}
use Rattle.fit.specs.Fit as fit
use Rattle.fit.specs.Fit.{Fit, links_of, member_types, member_supported, members_supported, element_supported, base_supported, chooses, first_chooses, discriminator_fits, check_clauses}
use Rattle.shape.specs.Shape as shape
use Rattle.shape.specs.Shape.{OneOf, Value, Single, Elements, Opened, Beneath, Members, Held, stored_kind}
use Rattle.shape.proofs.Walking.{none_held}
use Rattle.fit.proofs.Fits.{every_one, fit_next, fit_below, members_supported_law, element_supported_law, base_supported_law, discriminator_fits_law}
use Rattle.fit.proofs.Ends.{finished, wanting, broken, ends_prepend, ends_then, ends_end, ends_room, ends_closed, ends_back, ends_as, ends_move, ends_contents, ends_number, by_test}
use Rattle.fit.proofs.KindTests.{readable, read_stored, member_readable, element_readable, scalar_kind, text_kind, opened_kind, opened_flat, opened_union, primitive_read, base_is}
use Rattle.fit.proofs.Cuts.{PartOf, part_cut}
use Rattle.fit.proofs.Searches.{found_inside}
use Rattle.fit.proofs.Unions.{never_unfit, selected_other}
use Rattle.fit.proofs.Scalars.{bad_data, no_room_law, no_discriminator, Settles, scalar_settles}

-- what a book's rules say of a type, as far as it is asked for here
pub record Right (types : List BookType) (k : ℕ) : Type 0 where
  pub kind : (type_no types k).kind ≤ 27
  pub no_default : (m : Member) (ms : List Member) → (type_no types k).kind ≡ 23 → (type_no types k).members ≡ m ∷ ms → default m ≡ false
  pub no_label : (m : Member) (ms : List Member) → (type_no types k).kind ≡ 23 → (type_no types k).members ≡ m ∷ ms → m.labels ≡ []

abbrev NoRows : List Row → Type 0
NoRows rs = rs ≡ []

-- what follows has no rows
settles_then_none : {R : List Row → Type 0} {o : Outcome} (rest : Cursor → ℕ → Outcome) → Settles R o → ((c : Cursor) (n : ℕ) → Settles NoRows (rest c n)) → Settles R (and_then o rest)
settles_then_none rest h more = ends_then {S = NoRows} rest h more (λ rs ss r e. rw (e, append-nil) r)

-- ---- lists

array_count : (s : List ℕ) (set : Settings) (sequence : Bool) (bound : ℕ) (c : Cursor) (v : ℕ) (d : Cursor) → sequence ≡ false → count_at s set sequence bound c ≡ Ok (v, d) → v ≡ bound
unfolding count_at
array_count s set sequence bound c v d e g = let z : ◌≡◌ {A = Number} (Ok (bound, c)) (Ok (v, d)) = rw e at g in sym ((got_inv z).0)

-- a sequence's length ends inside the data
sequence_counted : (s : List ℕ) (set : Settings) (sequence : Bool) (bound : ℕ) (c : Cursor) (v : ℕ) (d : Cursor) → sequence ≡ true → count_at s set sequence bound c ≡ Ok (v, d) → d.pos ≤ length s
unfolding count_at
sequence_counted s set sequence bound c v d e g = (read_inv s set c 4 v d (rw e at g)).inside

list_is : (k : ℕ) → among (25 ∷ 26 ∷ []) k ≡ true → (eqb k 25 || eqb k 26) ≡ true
list_is k = go (eqb k 25) (eqb k 26)
  where
    go : (a b : Bool) → (a || (b || false)) ≡ true → (a || b) ≡ true
    go true b e = refl
    go false true e = refl
    go false false e = e

list_link : (t : BookType) → is_list t ≡ true → OneOf t.element (links_of t)
unfolding links_of
list_link t e = rw e (Memᴰ.head refl)

list_element : (types : List BookType) (t : BookType) → element_supported types t ≡ true → is_list t ≡ true → unsupported_element (type_no types t.element).kind ≡ false
unfolding element_supported
list_element types t h e = not-true (unsupported_element (type_no types t.element).kind) (rw e at h)

by_length_law : (v : Version) (mode : Mode) (types : List BookType) (t : BookType) → by_length v mode types t ≡ true → eqb t.kind 25 ≡ true
unfolding by_length is_sequence
by_length_law Xcdr1 mode types t e = absurd (apart e)
by_length_law Xcdr2 Crate types t e = both_first (eqb t.kind 25) (primitive_element types t) e
by_length_law Xcdr2 Standard types t e = absurd (apart e)

-- what ends a list has no rows
list_end_law : (b : Bool) (end : ℕ) (c : Cursor) → Settles NoRows (list_end_if b end c)
unfolding list_end_if
list_end_law false end c = finished refl
list_end_law true end c = by_test (Settles NoRows) (eqb c.pos end) (λ e. finished refl) (λ e. broken bad_data)

-- ---- members

member_type : (ms : List Member) (m : Member) → OneOf m ms → OneOf m.type (member_types ms)
unfolding member_types
member_type [] m o = elim o [ ]
member_type (x ∷ xs) m (Memᴰ.head e) = Memᴰ.head (ap (λ (y : Member). y.type) e)
member_type (x ∷ xs) m (Memᴰ.tail o) = Memᴰ.tail (member_type xs m o)

member_link : (t : BookType) (m : Member) → is_list t ≡ false → is_enum t ≡ false → OneOf m t.members → OneOf m.type (links_of t)
unfolding links_of
member_link t m l n o = rw (l, n) (member_type t.members m o)

-- a member that may be read: its kind, and what it reaches
record Ready (types : List BookType) (longest : ℕ) (m : Member) : Type 0 where
  supported : member_supported types m ≡ true
  fit : Fit check_clauses types longest m.type

abbrev AllReady : List BookType → ℕ → List Member → Type 0
AllReady types longest ms = (m : Member) → OneOf m ms → Ready types longest m

-- what is asked of a type that is opened
record Openable (types : List BookType) (longest ty : ℕ) : Type 0 where
  opens : opens (type_no types ty).kind ≡ true
  base : base_supported types (type_no types ty) ≡ true
  discriminator : discriminator_fits types (type_no types ty) ≡ true
  ready : eqb (type_no types ty).kind 21 ≡ false → AllReady types longest (type_no types ty).members

openable : (types : List BookType) → ((k : ℕ) → Right types k) → (longest ty : ℕ) → opens (type_no types ty).kind ≡ true → Fit check_clauses types (suc longest) ty → Openable types longest ty
unfolding members_supported
openable types right longest ty o f =
    let t = type_no types ty in
    record {
      opens = o;
      base = base_supported_law f;
      discriminator = discriminator_fits_law f;
      ready =
          λ (n : eqb t.kind 21 ≡ false) (m : Member) (i : OneOf m t.members).
          record {
            supported = every_one (member_supported types) t.members m (rw n at (members_supported_law f)) i;
            fit = fit_below o (member_link t m (opened_flat t.kind (right ty).kind o) n i) f;
          };
    }

-- ---- one level of the rules, given what opening a value comes to

-- the shape of the rows is said over the whole data w, and what is read is w or what cuts leave of it
module _ (types : List BookType) (w : List ℕ) (set : Settings) (right : (k : ℕ) → Right types k) (nest : Nest) (depth : ℕ)
    (below : (s : List ℕ) → PartOf w s → (ty id : ℕ) (c : Cursor) (k : ℕ) → opens (type_no types ty).kind ≡ true → Fit check_clauses types depth ty → Settles (Opened types w ty id) (nest s ty id c k)) where
  module _ (s : List ℕ) (of : PartOf w s) where
    -- a number or a text of a type
    single_settles : (ty id : ℕ) (c : Cursor) (k : ℕ) → readable (read_as (type_no types ty)) ≡ true → Settles (Single types w ty id) (scalar_of s set (read_as (type_no types ty)) id c k)
    single_settles ty id c k h =
        let t = type_no types ty in
        scalar_settles s of.bytes set (read_as t) id c k h
        (λ a b at p q g l. rw (read_stored t) (shape.scalar a b at (scalar_kind t (right ty).kind h p q) (rw (read_stored t) at g) (omega (arith, of.fits))))
        (λ start n at e i l. shape.text8 start n at (text_kind t 16 refl e) (omega (arith, of.fits)) (omega (arith, of.fits)))
        (λ start n at e i l. shape.text16 start n at (text_kind t 17 refl e) (omega (arith, of.fits)) (omega (arith, of.fits)))

    scalars_settle : (ty left i : ℕ) (c : Cursor) (k : ℕ) → readable (read_as (type_no types ty)) ≡ true → Settles (Elements types w ty left i) (elements_from s set (read_as (type_no types ty)) left i c k)
    unfolding elements_from
    scalars_settle ty zero i c k h = finished shape.no_element
    scalars_settle ty (suc left) i c k h =
        ends_then _ (single_settles ty i c k h) (λ d n. scalars_settle ty left (i + 1) d (k - n) h) (λ rs ss r s. shape.element r s)

    -- a list of them, whatever is said of its row and its elements
    module _ {R : List Row → Type 0} (ty id count : ℕ) (c : Cursor) (r : (rs : List Row) → Elements types w ty count 0 rs → R (row 25 id (stored_kind (type_no types ty)) count c.pos ∷ rs)) where
      list_settles : (k : ℕ) → readable (read_as (type_no types ty)) ≡ true → Settles R (list_of s set (read_as (type_no types ty)) id count c k)
      unfolding list_of
      list_settles k h = rw (read_stored (type_no types ty)) (ends_room k no_room_law (ends_prepend _ (scalars_settle ty count 0 c (k - 1) h) r))

      block_settles : (p : Place) (o : Outcome) → Settles R o → Settles R (on_block p o)
      unfolding on_block
      block_settles (Err x) o h = wanting
      block_settles (Ok d) o h = h

    opened_elements : (ty left i : ℕ) (c : Cursor) (k : ℕ) → opens (type_no types ty).kind ≡ true → Fit check_clauses types depth ty → Settles (Elements types w ty left i) (opened_from types s set nest ty left i c k)
    unfolding opened_from
    opened_elements ty zero i c k o f = finished shape.no_element
    opened_elements ty (suc left) i c k o f =
        ends_then _ (below s of ty i c k o f) (λ d n. opened_elements ty left (i + 1) d (k - n) o f) (λ rs ss r s. shape.element (shape.nested r) s)

    elements_settle : {R : List Row → Type 0} (ty id count : ℕ) (c : Cursor) → ((rs : List Row) → Elements types w ty count 0 rs → R (row 25 id (stored_kind (type_no types ty)) count c.pos ∷ rs))
        → (k : ℕ) → unsupported_element (type_no types ty).kind ≡ false → Fit check_clauses types depth ty → Settles R (elements_of types s set nest ty id count c k)
    unfolding elements_of opened_list primitives_of bitmasks_or_texts_of block_of
    elements_settle {R} ty id count c r k u f =
        let F : Outcome → Type 0 = Settles R in
        let t = type_no types ty in
        by_test F (unsupported_element t.kind) (λ e. absurd (apart (sym u ∙ e))) (λ n.
        by_test F (opens t.kind) (λ o.
        ends_room k no_room_law (ends_prepend _ (opened_elements ty count 0 c (k - 1) o f) (λ ss e. rw (opened_kind t (right ty).kind o) at (r ss e)))) (λ o.
        let h : readable (read_as t) ≡ true = element_readable t (right ty).kind u o in
        by_test F (is_primitive t.kind) (λ p.
        let own : Settles R (list_of s set t.kind id count c k) = rw (primitive_read t p) at (list_settles {R = R} ty id count c r k h) in
        by_test F (among (2 ∷ 13 ∷ []) t.kind) (λ e. block_settles ty id count c r (seek_to s c count) _ own) (λ n2. own))
        (λ p. list_settles ty id count c r k h)))

    -- an array has as many elements as its bound says
    counted_settles : (ty id : ℕ) (c : Cursor) (k : ℕ) → among (25 ∷ 26 ∷ []) (type_no types ty).kind ≡ true → Fit check_clauses types depth ty → Settles (Value types w ty id) (counted_of types s set nest (type_no types ty) id c k)
    unfolding counted_of is_sequence
    counted_settles ty id c k e f =
        let t = type_no types ty in
        ends_number _ _ (λ count d g.
        elements_settle t.element id count d (rows count d g (eqb t.kind 25) refl) k (list_element types t (element_supported_law f) (list_is t.kind e)) (fit_next (list_link t (list_is t.kind e)) f))
      where
        rows : (count : ℕ) (d : Cursor) → count_at s set (eqb (type_no types ty).kind 25) (type_no types ty).bound c ≡ Ok (count, d)
            → (b : Bool) → eqb (type_no types ty).kind 25 ≡ b → (rs : List Row) → Elements types w (type_no types ty).element count 0 rs
            → Value types w ty id (row 25 id (stored_kind (type_no types (type_no types ty).element)) count d.pos ∷ rs)
        rows count d g true q rs x = shape.sequence count d.pos (eqb-true (type_no types ty).kind 25 q) (omega (arith, of.fits, sequence_counted s set (eqb (type_no types ty).kind 25) (type_no types ty).bound c count d q g)) x
        rows count d g false q rs x =
            let t = type_no types ty in
            let n : count ≡ t.bound = array_count s set (eqb t.kind 25) t.bound c count d q g in
            rw n (shape.array d.pos (eqb-true t.kind 26 (one_second (eqb t.kind 25) (eqb t.kind 26) (list_is t.kind e) q)) (rw n at x))

  module _ (s : List ℕ) (of : PartOf w s) where
    list_value_law : (ty id : ℕ) (c : Cursor) (k : ℕ) → among (25 ∷ 26 ∷ []) (type_no types ty).kind ≡ true → Fit check_clauses types depth ty → Settles (Value types w ty id) (list_value types s set nest (type_no types ty) id c k)
    unfolding list_value list_end
    list_value_law ty id c k e f =
        let t = type_no types ty in
        ends_contents InvalidData bad_data (contents_at s set (has_dheader types t) c) _ (λ d end.
        settles_then_none _ (counted_settles (cut_at set s end) (part_cut set s end of) ty id d k e f) (λ x used. list_end_law (both (keeps_ends set) (has_dheader types t)) end x))

    value_settles : (m : Member) (c : Cursor) (k : ℕ) → Ready types depth m → Settles (Held types w m) (value_of types s set nest m.type m.id c k)
    unfolding value_of member_supported
    value_settles m c k h =
        let F : Outcome → Type 0 = Settles (Held types w m) in
        let t = type_no types m.type in
        let u : unsupported_member t.kind ≡ false = not-true (unsupported_member t.kind) h.supported in
        by_test F (eqb t.kind 0) (λ e. finished shape.absent) (λ z.
        by_test F (unsupported_member t.kind) (λ e. absurd (apart (sym u ∙ e))) (λ n.
        by_test F (opens t.kind) (λ o. ends_as (below s of m.type m.id c k o h.fit) (λ rs r. shape.present (shape.one (shape.nested r)))) (λ o.
        by_test F (among (25 ∷ 26 ∷ []) t.kind) (λ e. ends_as (list_value_law m.type m.id c k e h.fit) (λ rs r. shape.present r)) (λ l.
        ends_as (single_settles s of m.type m.id c k (member_readable t (right m.type).kind z u o l)) (λ rs r. shape.present (shape.one r))))))

    -- ---- a member

    found_settles : (b : Bool) (m : Member) (n : ℕ) (c : Cursor) (k : ℕ) → c.pos ≤ length w → by_length set.version set.mode types (type_no types m.type) ≡ b → Ready types depth m → Settles (Held types w m) (found_by types s set nest b m n c k)
    unfolding found_by
    found_settles true m n c k inside e h =
        let t = type_no types m.type in
        let q : eqb t.kind 25 ≡ true = by_length_law set.version set.mode types t e in
        let l : (eqb t.kind 25 || eqb t.kind 26) ≡ true = rw q in
        elements_settle s of t.element m.id (element_count types t n) c (λ rs x. shape.present (shape.sequence _ c.pos (eqb-true t.kind 25 q) inside x)) k (list_element types t (element_supported_law h.fit) l) (fit_next (list_link t l) h.fit)
    found_settles false m n c k inside e h = value_settles m c k h

  module _ (s : List ℕ) (of : PartOf w s) where
    -- from the data up to the member's own end
    located_settles : (m : Member) (k : ℕ) (l : Located) → ((n : ℕ) (c back : Cursor) → l ≡ Ok (Some (n, c), back) → c.pos ≤ length s) → Ready types depth m → Settles (Held types w m) (on_located types s set nest m k l)
    unfolding on_located found_of found_value
    located_settles m k (Err x) inside h = wanting
    located_settles m k (Ok (None, back)) inside h = finished shape.absent
    located_settles m k (Ok (Some (n, c), back)) inside h =
        ends_back back (found_settles (cut_at set s (c.pos + n)) (part_cut set s (c.pos + n) of) (by_length set.version set.mode types (type_no types m.type)) m n c k (omega (arith, of.fits, inside n c back refl)) refl h)

    mmember_settles : (m : Member) (c : Cursor) (k : ℕ) → Ready types depth m → Settles (Held types w m) (mmember_of types s set nest m c k)
    unfolding mmember_of
    mmember_settles m c k h = located_settles m k (locate s set m.id c) (λ n d back e. found_inside s set m.id c n d back e) h

    present_settles : (m : Member) (k : ℕ) (b : Boolean) → Ready types depth m → Settles (Held types w m) (on_present types s set nest m k b)
    unfolding on_present
    present_settles m k (Err (unread.Short x)) h = wanting
    present_settles m k (Err unread.Bad) h = broken bad_data
    present_settles m k (Ok (false, c)) h = finished shape.absent
    present_settles m k (Ok (true, c)) h = value_settles s of m c k h

    optional_settles : (v : Version) (m : Member) (c : Cursor) (k : ℕ) → Ready types depth m → Settles (Held types w m) (optional_by types s set nest v m c k)
    unfolding optional_by
    optional_settles Xcdr1 m c k h = mmember_settles m c k h
    optional_settles Xcdr2 m c k h = present_settles m k (read_boolean s set c) h

    fmember_by_law : (b : Bool) (m : Member) (c : Cursor) (k : ℕ) → Ready types depth m → Settles (Held types w m) (fmember_by types s set nest b m c k)
    unfolding fmember_by
    fmember_by_law true m c k h = optional_settles set.version m c k h
    fmember_by_law false m c k h = value_settles s of m c k h

    fmember_settles : (m : Member) (c : Cursor) (k : ℕ) → Ready types depth m → Settles (Held types w m) (fmember_of types s set nest m c k)
    unfolding fmember_of
    fmember_settles m c k h = fmember_by_law (optional m) m c k h

    -- ---- structures

    fmembers_settle : (t : BookType) (ms : List Member) (c : Cursor) (k : ℕ) → AllReady types depth ms → Settles (Members types w ms) (fmembers_of types s set nest t ms c k)
    unfolding fmembers_of
    fmembers_settle t [] c k h = finished shape.no_member
    fmembers_settle t (m ∷ ms) c k h =
        ends_end (absorbs t m) _ (fmember_settles m c k (h m (Memᴰ.head refl))) (none_held types w (m ∷ ms))
        (λ d n. fmembers_settle t ms d (k - n) (λ x o. h x (Memᴰ.tail o))) (λ rs ss r x. shape.member r x)

    mmembers_settle : (ms : List Member) (c : Cursor) (k : ℕ) → AllReady types depth ms → Settles (Members types w ms) (mmembers_of types s set nest ms c k)
    unfolding mmembers_of
    mmembers_settle [] c k h = finished shape.no_member
    mmembers_settle (m ∷ ms) c k h =
        ends_then _ (mmember_settles m c k (h m (Memᴰ.head refl))) (λ d n. mmembers_settle ms d (k - n) (λ x o. h x (Memᴰ.tail o))) (λ rs ss r x. shape.member r x)

    -- what ends it has no rows
    ending_by_law : (v : Version) (end : ℕ) (c : Cursor) → Settles NoRows (ending_by s set v end c)
    unfolding ending_by
    ending_by_law Xcdr1 end c = ends_move (seek_to_sentinel s set c) _ (λ d. finished refl)
    ending_by_law Xcdr2 end c = finished refl

    ending_settles : (f : Bool) (end : ℕ) (c : Cursor) → Settles NoRows (ending_if s set f end c)
    unfolding ending_if
    ending_settles true end c = ending_by_law set.version end c
    ending_settles false end c = finished refl

    -- ---- unions

    member_by_law : (b : Bool) (m : Member) (c : Cursor) (k : ℕ) → Ready types depth m → Settles (Held types w m) (member_by types s set nest b m c k)
    unfolding member_by
    member_by_law true m c k h = mmember_settles m c k h
    member_by_law false m c k h = fmember_settles m c k h

    discriminator_settles : (b : Bool) (m : Member) (c : Cursor) (k : ℕ) → Ready types depth m → Settles (Held types w m) (discriminator_by types s set nest b m c k)
    unfolding discriminator_by
    discriminator_settles true m c k h = mmember_settles m c k h
    discriminator_settles false m c k h = value_settles s of m c k h

    -- a union whose first member is a discriminator that the check passes
    record Choosing (t : BookType) (disc : Member) (others : List Member) : Type 0 where
      kind : t.kind ≡ 23
      is : t.members ≡ disc ∷ others
      no_default : default disc ≡ false
      no_label : disc.labels ≡ []
      fits : chooses (type_no types disc.type) ≡ true
      ready : AllReady types depth (disc ∷ others)

    module _ (mutable : Bool) {t : BookType} {disc : Member} {others : List Member} (u : Choosing t disc others) where
      selected_settles : (ds : List Row) (value : ℤ) (o : Option Member) (c : Cursor) (k : ℕ) → Held types w disc ds → discriminator_of ds ≡ Ok value
          → selected_of types disc (disc ∷ others) value ≡ o → Settles (λ ss. Beneath types w t (ds ++ ss)) (on_selected types s set nest mutable o c k)
      unfolding on_selected
      selected_settles ds value none c k h e q = broken bad_data
      selected_settles ds value (some m) c k h e q =
          let i : OneOf m others = selected_other disc others u.no_default u.no_label types value m q in
          ends_as (member_by_law mutable m c k (u.ready m (Memᴰ.tail i))) (λ ss x. shape.union value u.kind u.is h e q i x)

      told_settles : (ds : List Row) (v : Discriminator) (c : Cursor) (k : ℕ) → Held types w disc ds → discriminator_of ds ≡ v
          → Settles (λ ss. Beneath types w t (ds ++ ss)) (on_discriminator types s set nest mutable disc (disc ∷ others) c k v)
      unfolding on_discriminator
      told_settles ds (Err unsaid.Absent) c k h e = broken no_discriminator
      told_settles ds (Err unsaid.Unfit) c k h e = absurd (never_unfit types w disc ds h u.fits e)
      told_settles ds (Ok d) c k h e = selected_settles ds d (selected_of types disc (disc ∷ others) d) c k h e refl

      chosen_settles : (k : ℕ) {o : Outcome} → Settles (Held types w disc) o → Settles (Beneath types w t) (chosen_of types s set nest mutable disc (disc ∷ others) k o)
      unfolding chosen_of
      chosen_settles k (finished {c} {rs} h) = ends_prepend rs (told_settles rs (discriminator_of rs) c (k - length rs) h refl) (λ ss x. x)
      chosen_settles k wanting = wanting
      chosen_settles k (broken p) = broken p

    union_settles : (mutable : Bool) (t : BookType) (ms : List Member) (c : Cursor) (k : ℕ) → t.kind ≡ 23 → t.members ≡ ms → first_chooses types ms ≡ true
        → ((m : Member) (rest : List Member) → t.members ≡ m ∷ rest → (default m ≡ false) × (m.labels ≡ [])) → AllReady types depth ms
        → Settles (Beneath types w t) (members_by types s set nest mutable ms c k)
    unfolding members_by first_chooses
    union_settles mutable t [] c k e q f good h = absurd (apart f)
    union_settles mutable t (m ∷ ms) c k e q f good h =
        let g = good m ms q in
        chosen_settles mutable (record { kind = e; is = q; no_default = g.0; no_label = g.1; fits = f; ready = h }) k (discriminator_settles mutable m c k (h m (Memᴰ.head refl)))

    -- ---- what is opened

    enum_settles : (t : BookType) (c : Cursor) (k : ℕ) → t.kind ≡ 21 → among (3 ∷ 4 ∷ 12 ∷ []) t.base ≡ true → Settles (Beneath types w t) (enum_of s set t.base c k)
    unfolding enum_of
    enum_settles t c k e b =
        let base = base_is t.base b in
        rw b
        (scalar_settles s of.bytes set t.base 0 c k base.reads (λ x y at p q g l. rw base.stored (shape.enum x y at e b (rw base.stored at g) (omega (arith, of.fits)))) (λ start n at z i l. absurd (base.no_text8 z)) (λ start n at z i l. absurd (base.no_text16 z)))

  module _ (ty : ℕ) (o : Openable types depth ty) where
    abbrev own : BookType
    own = type_no types ty

    module _ (s : List ℕ) (of : PartOf w s) where
      a_union : (mutable : Bool) (c : Cursor) (k : ℕ) → eqb own.kind 21 ≡ false → eqb own.kind 22 ≡ false → Settles (Beneath types w own) (members_by types s set nest mutable own.members c k)
      unfolding discriminator_fits
      a_union mutable c k n m =
          let e : own.kind ≡ 23 = opened_union own.kind (right ty).kind o.opens n m in
          union_settles s of mutable own own.members c k e refl (rw (eq-eqb own.kind 23 e) at o.discriminator) (λ d rest q. ((right ty).no_default d rest e q, (right ty).no_label d rest e q)) (o.ready n)

      members_settle : (b mutable : Bool) (c : Cursor) (k : ℕ) → eqb own.kind 22 ≡ b → eqb own.kind 21 ≡ false → Settles (Beneath types w own) (members_if types s set nest b mutable own c k)
      unfolding members_if
      members_settle true true c k e n = ends_as (mmembers_settle s of own.members c k (o.ready n)) (λ rs x. shape.structure (eqb-true own.kind 22 e) x)
      members_settle true false c k e n = ends_as (fmembers_settle s of own own.members c k (o.ready n)) (λ rs x. shape.structure (eqb-true own.kind 22 e) x)
      members_settle false mutable c k e n = a_union mutable c k n e

      contents_settle : (end : ℕ) (c : Cursor) (k : ℕ) → eqb own.kind 21 ≡ false → Settles (Beneath types w own) (contents_of types s set nest own end c k)
      unfolding contents_of members_of ending_of is_structure
      contents_settle end c k n = settles_then_none _ (members_settle (eqb own.kind 22) (is_mutable own) c k refl n) (λ e used. ending_settles s of _ end e)

    module _ (s : List ℕ) (of : PartOf w s) where
      -- from the data up to where the contents end
      delimited_settles : (c : Cursor) (k : ℕ) → eqb own.kind 21 ≡ false → Settles (Beneath types w own) (delimited_of types s set nest own c k)
      unfolding delimited_of
      delimited_settles c k n = ends_contents InvalidData bad_data (beginning_of s set own c) _ (λ d end. contents_settle (cut_at set s end) (part_cut set s end of) end d k n)

      body_by_law : (b : Bool) (c : Cursor) (k : ℕ) → eqb own.kind 21 ≡ b → Settles (Beneath types w own) (body_by types s set nest b own c k)
      unfolding body_by base_supported
      body_by_law true c k e = enum_settles s of own c k (eqb-true own.kind 21 e) (rw e at o.base)
      body_by_law false c k e = delimited_settles c k e

      opened_settles : (id : ℕ) (c : Cursor) (k : ℕ) → Settles (Opened types w ty id) (opened_if types s set nest (opens own.kind) ty id c k)
      unfolding opened_if body_of
      opened_settles id c k =
          rw o.opens (ends_room k no_room_law (ends_closed _ _ _ _ (body_by_law (eqb own.kind 21) c (k - 1) refl) (λ rs x. shape.opened _ x)))

-- a value of a fit type, where as many values may be opened as its longest chain has
pub nested_settles : (types : List BookType) (w : List ℕ) (set : Settings) → ((k : ℕ) → Right types k) → (depth : ℕ) (s : List ℕ) → PartOf w s → (ty id : ℕ) (c : Cursor) (k : ℕ) → opens (type_no types ty).kind ≡ true
    → Fit check_clauses types depth ty → Settles (Opened types w ty id) (nested_at types set depth s ty id c k)
unfolding nested_at
nested_settles types w set right zero s of ty id c k o f = absurd (omega (arith, f.chains 1 (fit.last o)))
nested_settles types w set right (suc depth) s of ty id c k o f =
    opened_settles types w set right (nested_at types set depth) depth (nested_settles types w set right depth) ty (openable types right depth ty o f) s of id c k
