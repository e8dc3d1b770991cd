-- WHAT IS CLAIMED OF PLACES AND SHORTAGES HOLDS OF EVERY READING: one law for each rule of the reader, over the claim's laws and one hypothesis about how
-- values are opened; then the depth. No check of the type is asked for. Assumes nothing.
use Prim.Native.Nat.{ℕ, zero, suc, ◌+◌, ◌-◌, ◌/◌, ◌≤◌}
use mathlib.Core.Path.{◌≡◌, refl}
use mathlib.Core.Bool.{Bool, true, false}
use mathlib.Core.List.{List, [], ◌∷◌, ◌++◌}
use mathlib.Core.Option.{Option, none, some}
use native.Mathlib.Omega.{arith}
use native.Mathlib.Nat.{div-le_self}
use lib.Dec.{eqb}
use lib.ListN.{length}
use Rattle.ground.specs.Choice.{both, among}
use Rattle.wire.specs.declared.cursor.Cursor.{Cursor}
use Rattle.wire.specs.declared.cursor.Shortage.{Shortage}
use Rattle.wire.specs.declared.settings.Settings.{Settings}
use Rattle.wire.specs.declared.settings.Version.{Version}
use Rattle.wire.specs.declared.settings.Version.TheVariants.{Xcdr1, Xcdr2}
use Rattle.wire.specs.Place.{Place, cursor_at, after_move}
use Rattle.wire.specs.Number.{Number, Boolean, halves_of, read_float128, after_number}
use Rattle.wire.specs.Ends.{keeps_ends, cut_at}
use Rattle.wire.specs.Dheader.{Contents, after_contents}
use Rattle.kinds.specs.Kinds.{is_primitive, opens, unsupported_member, unsupported_element, align_of, element_size_of}
use Rattle.text.specs.Text.{Text}
use Rattle.book.specs.Types.{BookType, Member, optional, type_no}
use Rattle.book.specs.Asked.{read_as, is_sequence, is_mutable, is_structure, is_delimited}
use Rattle.choice.specs.Discriminator.{Discriminator, discriminator_of}
use Rattle.choice.specs.Select.{selected_of}
use Rattle.choice.specs.declared.discriminator.Unsaid.TheVariants as unsaid
use Rattle.std.specs.Prelude.{Ok, Err, Some}
use Rattle.lookup.specs.Search.{Seek}
use Rattle.lookup.specs.Xcdr1.{sentinel_place, seek_to_sentinel}
use Rattle.lookup.specs.Member.{Located, locate}
use Rattle.table.specs.declared.rows.Row.{Row}
use Rattle.table.specs.declared.out.Refusal.{Refusal}
use Rattle.table.specs.declared.out.Refusal.TheVariants.{InvalidData}
use Rattle.table.specs.Outcome.{Outcome, read, short, refused, room_for, prepend, and_then, or_end_if, closed, back_to}
use Rattle.values.specs.Scalar.{rowed, place_before, on_boolean, on_float128, on_number, on_text, scalar_of, enum_of}
use Rattle.values.specs.List.{elements_from, list_of, on_block, block_of, primitives_of, bitmasks_or_texts_of}
use Rattle.values.specs.Count.{count_at}
use Rattle.reader.specs.Value.{Nest, opened_from, opened_list, elements_of, counted_of, has_dheader, list_end_if, list_end, list_value, value_of}
use Rattle.reader.specs.Member.{by_length, element_count, found_by, found_value, found_of, on_located, mmember_of, on_present, optional_by, fmember_by, fmember_of}
use Rattle.reader.specs.Structure.{absorbs, fmembers_of, mmembers_of}
use Rattle.reader.specs.Union.{member_by, discriminator_by, on_selected, on_discriminator, chosen_of, members_by}
use Rattle.reader.specs.Nested.{unheard, unheard_if, beginning_of, ending_by, ending_if, ending_of, members_if, members_of, contents_of, delimited_of, body_by, body_of, opened_if, too_deep_if, nested_at, reading}
use Rattle.fit.proofs.Ends.{by_test}
use Rattle.fit.proofs.Claims.{Claim}
use Rattle.fit.proofs.Standing.{PlaceIn, place_in, no_place, NumberIn, number_in, no_number, BooleanIn, boolean_in_law, bad_boolean, no_boolean_law, TextIn, text_in, bad_text, no_text, ContentsIn, contents_in, contents_past, no_contents}
use Rattle.fit.proofs.Standing.{after_number_law, seek_in, read_in, read_boolean_in, string_in, wstring_in, contents_at_in, unheard_at, kept_at, wanted_by}
use Rattle.fit.proofs.Searches.{SeekIn, found_in_law, not_found, no_seek, LocatedIn, located_in, absent_in, no_lookup, found_begins, found_wanted, seek_1, locate_in}

-- each of these rows tells such a place
pub data RowsAt {set : Settings} (K : Claim set) (s : List ℕ) : List Row → Type 0 where
  no_row : RowsAt K s []
  row_at : {r : Row} {rs : List Row} → K.At s r.place → RowsAt K s rs → RowsAt K s (r ∷ rs)

-- what was read stands at such a place, and so do its rows; what ran short is such a shortage; a refusal tells nothing
pub data Stands {set : Settings} (K : Claim set) (s : List ℕ) : Outcome → Type 0 where
  read_stands : {c : Cursor} {rs : List Row} → K.At s c.pos → RowsAt K s rs → Stands K s (read c rs)
  short_stands : {x : Shortage} → K.Lacks s x → Stands K s (short x)
  refused_stands : {k : Refusal} → Stands K s (refused k)

-- ---- one law for each way in which outcomes are put together

module _ {set : Settings} {K : Claim set} {s : List ℕ} where
  rows_append : {rs ss : List Row} → RowsAt K s rs → RowsAt K s ss → RowsAt K s (rs ++ ss)
  rows_append no_row qs = qs
  rows_append (row_at p ps) qs = row_at p (rows_append ps qs)

  stands_prepend : {o : Outcome} {rs : List Row} → RowsAt K s rs → Stands K s o → Stands K s (prepend rs o)
  unfolding prepend
  stands_prepend ps (read_stands l qs) = read_stands l (rows_append ps qs)
  stands_prepend ps (short_stands l) = short_stands l
  stands_prepend ps refused_stands = refused_stands

  stands_then : {o : Outcome} (rest : Cursor → ℕ → Outcome) → Stands K s o → ((c : Cursor) (n : ℕ) → K.At s c.pos → Stands K s (rest c n)) → Stands K s (and_then o rest)
  unfolding and_then
  stands_then rest (read_stands {c} {rs} l ps) more = stands_prepend ps (more c (length rs) l)
  stands_then rest (short_stands l) more = short_stands l
  stands_then rest refused_stands more = refused_stands

  -- a shortage that is absorbed stands where it did, and is told no more
  stands_end : {o : Outcome} (flag : Bool) (rest : Cursor → ℕ → Outcome) → Stands K s o → ((c : Cursor) (n : ℕ) → K.At s c.pos → Stands K s (rest c n)) → Stands K s (or_end_if flag o rest)
  unfolding or_end_if
  stands_end flag rest (read_stands {c} {rs} l ps) more = stands_prepend ps (more c (length rs) l)
  stands_end true rest (short_stands {x} l) more = read_stands (K.stands s x l) no_row
  stands_end false rest (short_stands l) more = short_stands l
  stands_end flag rest refused_stands more = refused_stands

  stands_room : {o : Outcome} (k : ℕ) → Stands K s o → Stands K s (room_for k o)
  unfolding room_for
  stands_room zero h = refused_stands
  stands_room (suc k) h = h

  stands_closed : {o : Outcome} (kind id ty opening : ℕ) → K.At s opening → Stands K s o → Stands K s (closed kind id ty opening o)
  unfolding closed
  stands_closed kind id ty opening h (read_stands l ps) = read_stands l (row_at h ps)
  stands_closed kind id ty opening h (short_stands l) = short_stands l
  stands_closed kind id ty opening h refused_stands = refused_stands

  -- the place comes back; what is told of a shortage stays
  stands_back : {o : Outcome} (c : Cursor) → K.At s c.pos → Stands K s o → Stands K s (back_to c o)
  unfolding back_to
  stands_back c l (read_stands h ps) = read_stands l ps
  stands_back c l (short_stands {x} h) = short_stands (K.back s x c h l)
  stands_back c l refused_stands = refused_stands

  stands_contents : {g : Contents} (k : Refusal) (next : Cursor → ℕ → Outcome) → ContentsIn K s g → ((c : Cursor) (own : ℕ) → K.At (cut_at set s own) c.pos → K.At (cut_at set s own) own → Stands K s (next c own)) → Stands K s (after_contents short (refused k) g next)
  unfolding after_contents
  stands_contents k next (contents_in {c} {own} l h) more = more c own l h
  stands_contents k next contents_past more = refused_stands
  stands_contents k next (no_contents l) more = short_stands l

  stands_block : {p : Place} {o : Outcome} → PlaceIn K s p → Stands K s o → Stands K s (on_block p o)
  unfolding on_block
  stands_block (place_in l) h = h
  stands_block (no_place l) h = short_stands l

-- what stands in what is left of the data stands in the data
rows_wider : {set : Settings} {K : Claim set} (s : List ℕ) (end : ℕ) {rs : List Row} → RowsAt K (cut_at set s end) rs → RowsAt K s rs
rows_wider s end no_row = no_row
rows_wider {K = K} s end (row_at {r} p ps) = row_at {r = r} (K.outer s end r.place p) (rows_wider s end ps)

stands_wider : {set : Settings} {K : Claim set} {o : Outcome} (s : List ℕ) (end : ℕ) → Stands K (cut_at set s end) o → Stands K s o
stands_wider {K = K} s end (read_stands {c} l ps) = read_stands {c = c} (K.outer s end c.pos l) (rows_wider s end ps)
stands_wider {K = K} s end (short_stands {x} l) = short_stands {x = x} (K.outer_lacks s end x l)
stands_wider s end refused_stands = refused_stands

-- ---- a value that opens nothing

-- no number's size is greater
size_few : (k : ℕ) → align_of k ≤ 16
unfolding align_of
size_few k =
    let F : ℕ → Type 0 = λ n. n ≤ 16 in
    by_test F (among (1 ∷ 2 ∷ 12 ∷ 13 ∷ 14 ∷ []) k) (λ e. omega arith) (λ e.
    by_test F (among (3 ∷ 6 ∷ 15 ∷ []) k) (λ e. omega arith) (λ e.
    by_test F (among (4 ∷ 7 ∷ 9 ∷ []) k) (λ e. omega arith) (λ e.
    by_test F (among (5 ∷ 8 ∷ 10 ∷ []) k) (λ e. omega arith) (λ e.
    by_test F (eqb k 11) (λ e. omega arith) (λ e. omega arith)))))

module _ {set : Settings} (K : Claim set) (s : List ℕ) (g : K.Given s) where
  rowed_stands : (k : ℕ) (c : Cursor) (r : Row) → c.pos ≤ length s → r.place ≤ length s → Stands K s (rowed k c r)
  unfolding rowed
  rowed_stands k c r l p = stands_room k (read_stands (K.inside s c.pos g l) (row_at (K.inside s r.place g p) no_row))

  -- what ends there begins there
  begins : (size p : ℕ) → p ≤ length s → place_before size p ≤ length s
  unfolding place_before
  begins size p l = omega arith

  boolean_stands : (id k : ℕ) {b : Boolean} → BooleanIn K s b → Stands K s (on_boolean id k b)
  unfolding on_boolean
  boolean_stands id k (boolean_in_law {c = c} l) = rowed_stands k c _ l (begins 1 c.pos l)
  boolean_stands id k bad_boolean = refused_stands
  boolean_stands id k (no_boolean_law l) = short_stands l

  float128_stands : (id k : ℕ) {P : ℕ → Type 0} {n : Number} → NumberIn K s P n → Stands K s (on_float128 id k (halves_of n))
  unfolding on_float128 halves_of
  float128_stands id k (number_in {c = c} l p) = rowed_stands k c _ l (begins 16 c.pos l)
  float128_stands id k (no_number l) = short_stands l

  number_stands : (id k kind : ℕ) {P : ℕ → Type 0} {n : Number} → NumberIn K s P n → Stands K s (on_number kind id k n)
  unfolding on_number
  number_stands id k kind (number_in {c = c} l p) = rowed_stands k c _ l (begins (align_of kind) c.pos l)
  number_stands id k kind (no_number l) = short_stands l

  text_stands : (id k kind : ℕ) {t : Text} → TextIn K s t → Stands K s (on_text kind id k t)
  unfolding on_text
  text_stands id k kind (text_in {start = start} {c = c} b l) = rowed_stands k c _ l (begins 4 start b)
  text_stands id k kind bad_text = refused_stands
  text_stands id k kind (no_text l) = short_stands l

  scalar_stands : (kind id : ℕ) (c : Cursor) (k : ℕ) → K.At s c.pos → Stands K s (scalar_of s set kind id c k)
  unfolding scalar_of read_float128
  scalar_stands kind id c k l =
      let F : Outcome → Type 0 = Stands K s in
      by_test F (eqb kind 1) (λ e. boolean_stands id k (read_boolean_in K s g c l)) (λ n1.
      by_test F (eqb kind 11) (λ e. float128_stands id k (read_in K s g c 16 (omega arith) l)) (λ n11.
      by_test F (eqb kind 15) (λ e. refused_stands) (λ n15.
      by_test F (eqb kind 16) (λ e. text_stands id k 16 (string_in K s g c l)) (λ n16.
      by_test F (eqb kind 17) (λ e. text_stands id k 17 (wstring_in K s g c l)) (λ n17.
      by_test F (is_primitive kind) (λ e. number_stands id k kind (read_in K s g c (align_of kind) (size_few kind) l)) (λ e. refused_stands))))))

  enum_stands : (base : ℕ) (c : Cursor) (k : ℕ) → K.At s c.pos → Stands K s (enum_of s set base c k)
  unfolding enum_of
  enum_stands base c k l = by_test (Stands K s) (among (3 ∷ 4 ∷ 12 ∷ []) base) (λ e. scalar_stands base 0 c k l) (λ e. refused_stands)

  scalars_stand : (kind left i : ℕ) (c : Cursor) (k : ℕ) → K.At s c.pos → Stands K s (elements_from s set kind left i c k)
  unfolding elements_from
  scalars_stand kind zero i c k l = read_stands l no_row
  scalars_stand kind (suc left) i c k l = stands_then _ (scalar_stands kind i c k l) (λ d n h. scalars_stand kind left (i + 1) d (k - n) h)

  list_stands : (kind id count : ℕ) (c : Cursor) (k : ℕ) → K.At s c.pos → Stands K s (list_of s set kind id count c k)
  unfolding list_of
  list_stands kind id count c k l = stands_room k (stands_prepend (row_at l no_row) (scalars_stand kind count 0 c (k - 1) l))

-- ---- one level of the rules, given what opening a value comes to. What an array's bound makes a read want is claimed of the types

module _ (types : List BookType) {set : Settings} (K : Claim set) (bounds : (ty : ℕ) → K.Wanted (type_no types ty).bound) (nest : Nest) (below : (s : List ℕ) (ty id : ℕ) (c : Cursor) (k : ℕ) → K.Given s → K.At s c.pos → Stands K s (nest s ty id c k)) where
  module _ (s : List ℕ) (g : K.Given s) where
    opened_elements : (ty left i : ℕ) (c : Cursor) (k : ℕ) → K.At s c.pos → Stands K s (opened_from types s set nest ty left i c k)
    unfolding opened_from
    opened_elements ty zero i c k l = read_stands l no_row
    opened_elements ty (suc left) i c k l = stands_then _ (below s ty i c k g l) (λ d n h. opened_elements ty left (i + 1) d (k - n) h)

    elements_stand : (ty id count : ℕ) (c : Cursor) (k : ℕ) → K.Wanted count → K.At s c.pos → Stands K s (elements_of types s set nest ty id count c k)
    unfolding elements_of opened_list primitives_of bitmasks_or_texts_of block_of
    elements_stand ty id count c k w l =
        let F : Outcome → Type 0 = Stands K s in
        let t = type_no types ty in
        by_test F (unsupported_element t.kind) (λ e. refused_stands) (λ u.
        by_test F (opens t.kind) (λ o. stands_room k (stands_prepend (row_at l no_row) (opened_elements ty count 0 c (k - 1) l))) (λ o.
        by_test F (is_primitive t.kind) (λ p.
        by_test F (among (2 ∷ 13 ∷ []) t.kind) (λ e. stands_block (seek_in K s g c count l w) (list_stands K s g t.kind id count c k l)) (λ e. list_stands K s g t.kind id count c k l))
        (λ p. list_stands K s g (read_as t) id count c k l)))

    array_stands : (t : BookType) (id : ℕ) (c : Cursor) (k : ℕ) → K.Wanted t.bound → K.At s c.pos → Stands K s (after_number short (Ok (t.bound, c)) (λ count d. elements_of types s set nest t.element id count d k))
    unfolding after_number
    array_stands t id c k w l = elements_stand t.element id t.bound c k w l

    -- a sequence's own length, or an array's bound
    counted_stands : (t : BookType) (id : ℕ) (c : Cursor) (k : ℕ) → K.Wanted t.bound → K.At s c.pos → Stands K s (counted_of types s set nest t id c k)
    unfolding counted_of count_at
    counted_stands t id c k w l =
        by_test (λ n. Stands K s (after_number short n (λ count d. elements_of types s set nest t.element id count d k))) (is_sequence t)
        (λ e. after_number_law K s (Stands K s) short (λ x h. short_stands h) (read_in K s g c 4 (omega arith) l) _ (λ count d h v.
        elements_stand t.element id count d k (wanted_by K s g count count (omega arith) (v (omega arith))) (K.inside s d.pos g h)))
        (λ e. array_stands t id c k w l)

    list_end_law : (b : Bool) (end : ℕ) (c : Cursor) → K.At s c.pos → Stands K s (list_end_if b end c)
    unfolding list_end_if
    list_end_law false end c l = read_stands l no_row
    list_end_law true end c l = by_test (Stands K s) (eqb c.pos end) (λ e. read_stands l no_row) (λ e. refused_stands)

  module _ (s : List ℕ) (g : K.Given s) where
    list_value_law : (t : BookType) (id : ℕ) (c : Cursor) (k : ℕ) → K.Wanted t.bound → K.At s c.pos → Stands K s (list_value types s set nest t id c k)
    unfolding list_value list_end
    list_value_law t id c k w l =
        stands_contents InvalidData _ (contents_at_in K s g (has_dheader types t) c l) (λ d end h m.
        let cut = cut_at set s end in
        let f : K.Given (cut_at set s end) = K.cuts s end g in
        stands_wider s end (stands_then _ (counted_stands cut f t id d k w h) (λ e n i. list_end_law cut f (both (keeps_ends set) (has_dheader types t)) end e i)))

    value_stands : (ty id : ℕ) (c : Cursor) (k : ℕ) → K.At s c.pos → Stands K s (value_of types s set nest ty id c k)
    unfolding value_of
    value_stands ty id c k l =
        let F : Outcome → Type 0 = Stands K s in
        let t = type_no types ty in
        by_test F (eqb t.kind 0) (λ e. read_stands l no_row) (λ z.
        by_test F (unsupported_member t.kind) (λ e. refused_stands) (λ u.
        by_test F (opens t.kind) (λ o. below s ty id c k g l) (λ o.
        by_test F (among (25 ∷ 26 ∷ []) t.kind) (λ e. list_value_law t id c k (bounds ty) l) (λ n. scalar_stands K s g (read_as t) id c k l))))

    found_by_law : (b : Bool) (m : Member) (n : ℕ) (c : Cursor) (k : ℕ) → K.Wanted n → K.At s c.pos → Stands K s (found_by types s set nest b m n c k)
    unfolding found_by element_count
    found_by_law true m n c k w l =
        let size = element_size_of (type_no types (type_no types m.type).element).kind in
        elements_stand s g (type_no types m.type).element m.id (n / size) c k (K.fewer (n / size) n (div-le_self n size) w) l
    found_by_law false m n c k w l = value_stands m.type m.id c k l

  module _ (s : List ℕ) (g : K.Given s) where
    -- ---- a member

    -- from the data up to the member's own end
    found_stands : (m : Member) (n : ℕ) (c : Cursor) (k : ℕ) → K.Wanted n → c.pos ≤ length s → Stands K (cut_at set s (c.pos + n)) (found_of types s set nest m n c k)
    unfolding found_of found_value
    found_stands m n c k w l =
        found_by_law (cut_at set s (c.pos + n)) (K.cuts s (c.pos + n) g) (by_length set.version set.mode types (type_no types m.type)) m n c k w (kept_at K s g (c.pos + n) c.pos (omega arith) l)

    located_stands : (m : Member) (k : ℕ) {found : Located} → LocatedIn K s found → Stands K s (on_located types s set nest m k found)
    unfolding on_located
    located_stands m k (located_in {n} {c} {back} l h w) = stands_back back (K.inside s back.pos g h) (stands_wider s (c.pos + n) (found_stands m n c k w l))
    located_stands m k (absent_in {back} h) = read_stands (K.inside s back.pos g h) no_row
    located_stands m k (no_lookup h) = short_stands h

    mmember_stands : (m : Member) (c : Cursor) (k : ℕ) → K.At s c.pos → Stands K s (mmember_of types s set nest m c k)
    unfolding mmember_of
    mmember_stands m c k l = located_stands m k (locate_in K s g m.id c l)

    present_stands : (m : Member) (k : ℕ) {b : Boolean} → BooleanIn K s b → Stands K s (on_present types s set nest m k b)
    unfolding on_present
    present_stands m k (boolean_in_law {b = true} {c = c} l) = value_stands s g m.type m.id c k (K.inside s c.pos g l)
    present_stands m k (boolean_in_law {b = false} {c = c} l) = read_stands (K.inside s c.pos g l) no_row
    present_stands m k bad_boolean = refused_stands
    present_stands m k (no_boolean_law l) = short_stands l

    optional_stands : (v : Version) (m : Member) (c : Cursor) (k : ℕ) → K.At s c.pos → Stands K s (optional_by types s set nest v m c k)
    unfolding optional_by
    optional_stands Xcdr1 m c k l = mmember_stands m c k l
    optional_stands Xcdr2 m c k l = present_stands m k (read_boolean_in K s g c l)

    fmember_by_law : (b : Bool) (m : Member) (c : Cursor) (k : ℕ) → K.At s c.pos → Stands K s (fmember_by types s set nest b m c k)
    unfolding fmember_by
    fmember_by_law true m c k l = optional_stands set.version m c k l
    fmember_by_law false m c k l = value_stands s g m.type m.id c k l

    fmember_stands : (m : Member) (c : Cursor) (k : ℕ) → K.At s c.pos → Stands K s (fmember_of types s set nest m c k)
    unfolding fmember_of
    fmember_stands m c k l = fmember_by_law (optional m) m c k l

    -- ---- structures

    fmembers_stand : (t : BookType) (ms : List Member) (c : Cursor) (k : ℕ) → K.At s c.pos → Stands K s (fmembers_of types s set nest t ms c k)
    unfolding fmembers_of
    fmembers_stand t [] c k l = read_stands l no_row
    fmembers_stand t (m ∷ ms) c k l = stands_end (absorbs t m) _ (fmember_stands m c k l) (λ d n h. fmembers_stand t ms d (k - n) h)

    mmembers_stand : (ms : List Member) (c : Cursor) (k : ℕ) → K.At s c.pos → Stands K s (mmembers_of types s set nest ms c k)
    unfolding mmembers_of
    mmembers_stand [] c k l = read_stands l no_row
    mmembers_stand (m ∷ ms) c k l = stands_then _ (mmember_stands m c k l) (λ d n h. mmembers_stand ms d (k - n) h)

    -- ---- unions

    member_by_law : (b : Bool) (m : Member) (c : Cursor) (k : ℕ) → K.At s c.pos → Stands K s (member_by types s set nest b m c k)
    unfolding member_by
    member_by_law true m c k l = mmember_stands m c k l
    member_by_law false m c k l = fmember_stands m c k l

    discriminator_by_law : (b : Bool) (m : Member) (c : Cursor) (k : ℕ) → K.At s c.pos → Stands K s (discriminator_by types s set nest b m c k)
    unfolding discriminator_by
    discriminator_by_law true m c k l = mmember_stands m c k l
    discriminator_by_law false m c k l = value_stands s g m.type m.id c k l

    selected_stands : (mutable : Bool) (o : Option Member) (c : Cursor) (k : ℕ) → K.At s c.pos → Stands K s (on_selected types s set nest mutable o c k)
    unfolding on_selected
    selected_stands mutable none c k l = refused_stands
    selected_stands mutable (some m) c k l = member_by_law mutable m c k l

    told_stands : (mutable : Bool) (disc : Member) (ms : List Member) (c : Cursor) (k : ℕ) (v : Discriminator) → K.At s c.pos → Stands K s (on_discriminator types s set nest mutable disc ms c k v)
    unfolding on_discriminator
    told_stands mutable disc ms c k (Err unsaid.Absent) l = refused_stands
    told_stands mutable disc ms c k (Err unsaid.Unfit) l = refused_stands
    told_stands mutable disc ms c k (Ok d) l = selected_stands mutable (selected_of types disc ms d) c k l

    chosen_stands : (mutable : Bool) (disc : Member) (ms : List Member) (k : ℕ) {o : Outcome} → Stands K s o → Stands K s (chosen_of types s set nest mutable disc ms k o)
    unfolding chosen_of
    chosen_stands mutable disc ms k (read_stands {c} {rs} l ps) = stands_prepend ps (told_stands mutable disc ms c (k - length rs) (discriminator_of rs) l)
    chosen_stands mutable disc ms k (short_stands l) = short_stands l
    chosen_stands mutable disc ms k refused_stands = refused_stands

    union_stands : (mutable : Bool) (ms : List Member) (c : Cursor) (k : ℕ) → K.At s c.pos → Stands K s (members_by types s set nest mutable ms c k)
    unfolding members_by
    union_stands mutable [] c k l = refused_stands
    union_stands mutable (m ∷ ms) c k l = chosen_stands mutable m (m ∷ ms) k (discriminator_by_law mutable m c k l)

    -- ---- what is opened

    members_stand : (b mutable : Bool) (t : BookType) (c : Cursor) (k : ℕ) → K.At s c.pos → Stands K s (members_if types s set nest b mutable t c k)
    unfolding members_if
    members_stand true true t c k l = mmembers_stand t.members c k l
    members_stand true false t c k l = fmembers_stand t t.members c k l
    members_stand false mutable t c k l = union_stands mutable t.members c k l

    sentinel_stands : (c : Cursor) {found : Seek} → K.At s c.pos → SeekIn K s found → Stands K s (after_move short (sentinel_place c found) (λ d. read d []))
    unfolding sentinel_place after_move
    sentinel_stands c l (found_in_law {c = d} k w) = read_stands (K.inside s d.pos g k) no_row
    sentinel_stands c l not_found = read_stands l no_row
    sentinel_stands c l (no_seek k) = short_stands k

    -- what ends it stands at the end that it is told
    ending_by_law : (v : Version) (end : ℕ) (c : Cursor) → K.At s end → K.At s c.pos → Stands K s (ending_by s set v end c)
    unfolding ending_by seek_to_sentinel
    ending_by_law Xcdr1 end c h l = sentinel_stands c l (seek_1 K s g 0x3F02 c l)
    ending_by_law Xcdr2 end c h l = read_stands h no_row

    ending_stands : (f : Bool) (end : ℕ) (c : Cursor) → K.At s end → K.At s c.pos → Stands K s (ending_if s set f end c)
    unfolding ending_if
    ending_stands true end c h l = ending_by_law set.version end c h l
    ending_stands false end c h l = read_stands l no_row

    contents_stand : (t : BookType) (end : ℕ) (c : Cursor) (k : ℕ) → K.At s end → K.At s c.pos → Stands K s (contents_of types s set nest t end c k)
    unfolding contents_of members_of ending_of
    contents_stand t end c k h l = stands_then _ (members_stand (is_structure t) (is_mutable t) t c k l) (λ e n i. ending_stands _ end e h i)

    unheard_in : (b : Bool) {r : Contents} → ContentsIn K s r → ContentsIn K s (unheard_if s set b r)
    unfolding unheard_if unheard
    unheard_in true (contents_in l h) = contents_in l h
    unheard_in true contents_past = contents_past
    unheard_in true (no_contents {x} l) = unheard_at K s g x l
    unheard_in false h = h

  module _ (s : List ℕ) (g : K.Given s) where
    delimited_stands : (t : BookType) (c : Cursor) (k : ℕ) → K.At s c.pos → Stands K s (delimited_of types s set nest t c k)
    unfolding delimited_of beginning_of
    delimited_stands t c k l =
        stands_contents InvalidData _ (unheard_in s g _ (contents_at_in K s g (is_delimited t) c l)) (λ d end h m.
        stands_wider s end (contents_stand (cut_at set s end) (K.cuts s end g) t end d k m h))

    body_by_law : (b : Bool) (t : BookType) (c : Cursor) (k : ℕ) → K.At s c.pos → Stands K s (body_by types s set nest b t c k)
    unfolding body_by
    body_by_law true t c k l = enum_stands K s g t.base c k l
    body_by_law false t c k l = delimited_stands t c k l

    opened_stands : (b : Bool) (ty id : ℕ) (c : Cursor) (k : ℕ) → K.At s c.pos → Stands K s (opened_if types s set nest b ty id c k)
    unfolding opened_if body_of
    opened_stands false ty id c k l = refused_stands
    opened_stands true ty id c k l = stands_room k (stands_closed _ _ _ _ l (body_by_law (eqb (type_no types ty).kind 21) (type_no types ty) c (k - 1) l))

too_deep : {set : Settings} {K : Claim set} {s : List ℕ} (b : Bool) → Stands K s (too_deep_if b)
unfolding too_deep_if
too_deep false = refused_stands
too_deep true = refused_stands

module _ (types : List BookType) {set : Settings} (K : Claim set) (bounds : (ty : ℕ) → K.Wanted (type_no types ty).bound) where
  -- OPENING A VALUE, from all data of which the claim is made, at any depth
  pub nested_stands : (depth : ℕ) (s : List ℕ) (ty id : ℕ) (c : Cursor) (k : ℕ) → K.Given s → K.At s c.pos → Stands K s (nested_at types set depth s ty id c k)
  unfolding nested_at
  nested_stands zero s ty id c k g l = too_deep (opens (type_no types ty).kind)
  nested_stands (suc depth) s ty id c k g l =
      opened_stands types K bounds (nested_at types set depth) (nested_stands depth) s g (opens (type_no types ty).kind) ty id c k l

  -- A FOUND MEMBER, from the data up to the member's own end
  pub member_stands : (depth : ℕ) (s : List ℕ) (m : Member) (d : Cursor) (n : ℕ) (c back : Cursor) (k : ℕ) → K.Given s → K.At s d.pos → locate s set m.id d ≡ Ok (Some (n, c), back)
      → (c.pos ≤ length s) × Stands K (cut_at set s (c.pos + n)) (found_of types s set (nested_at types set depth) m n c k)
  member_stands depth s m d n c back k g l e =
      let f : LocatedIn K s (Ok (Some (n, c), back)) = rw e at (locate_in K s g m.id d l) in
      let h : c.pos ≤ length s = found_begins K n c back f refl in
      (h, found_stands types K bounds (nested_at types set depth) (nested_stands depth) s g m n c k (found_wanted K n c back f refl) h)

  -- A WHOLE READING
  pub reading_stands : (s : List ℕ) (root room : ℕ) → K.Given s → Stands K s (reading types s set root room)
  unfolding reading
  reading_stands s root room g = nested_stands 16 s root 0 (cursor_at 0 0) room g (K.inside s 0 g (omega arith))
