-- HOW MANY ROWS A READING NEEDS: one law for each rule, in its order, over one hypothesis about how values are opened; then the depth. No law asks for a
-- kind, and none for the mode. Assumes nothing.
use Rattle.wire.specs.declared.cursor.Unread.TheVariants as unread
use Prim.Native.Nat.{ℕ, zero, suc, ◌+◌}
use mathlib.Core.Path.{refl}
use mathlib.Core.Bool.{Bool, true, false}
use mathlib.Core.List.{List, [], ◌∷◌}
use mathlib.Core.Option.{Option, none, some}
use lib.Dec.{eqb}
use lib.ListN.{length}
use Rattle.ground.specs.Choice.{among}
use Rattle.wire.specs.declared.cursor.Cursor.{Cursor}
use Rattle.wire.specs.declared.settings.Settings.{Settings}
use Rattle.wire.specs.declared.settings.Version.{Version}
use Rattle.wire.specs.declared.settings.Version.TheVariants.{Xcdr1, Xcdr2}
use Rattle.wire.specs.Place.{Place, seek_to}
use Rattle.wire.specs.Number.{Number, Float128, Boolean, read_number, read_float128, read_boolean}
use Rattle.wire.specs.Dheader.{contents_at}
use Rattle.wire.specs.Ends.{cut_at}
use Rattle.kinds.specs.Kinds.{align_of, is_primitive, opens, unsupported_member, unsupported_element}
use Rattle.text.specs.Text.{Text, string_type, wstring_type}
use Rattle.book.specs.Types.{BookType, Member, optional, type_no}
use Rattle.book.specs.Asked.{read_as, is_sequence, is_mutable, is_structure}
use Rattle.choice.specs.Discriminator.{Discriminator, discriminator_of}
use Rattle.choice.specs.Select.{selected_of}
use Rattle.choice.specs.declared.discriminator.Unsaid.TheVariants as unsaid
use Rattle.std.specs.Prelude.{Ok, Err, None, Some}
use Rattle.lookup.specs.Xcdr1.{seek_to_sentinel}
use Rattle.lookup.specs.Member.{Located, locate}
use Rattle.table.specs.declared.rows.Row.{Row}
use Rattle.table.specs.declared.out.Refusal.TheVariants.{InvalidData, InvalidType, Unsupported, TooDeep, NoDiscriminator}
use Rattle.table.specs.Outcome.{Outcome, read, short, refused}
use Rattle.values.specs.Scalar.{rowed, on_boolean, on_float128, on_number, on_text, scalar_of, enum_of}
use Rattle.values.specs.List.{elements_from, list_of, on_block, block_of, primitives_of, bitmasks_or_texts_of}
use Rattle.values.specs.Count.{count_at}
use Rattle.reader.specs.Value.{Nest, opened_from, opened_list, elements_of, counted_of, has_dheader, list_end_if, list_end, list_value, value_of}
use Rattle.reader.specs.Member.{by_length, element_count, found_by, found_value, found_of, on_located, mmember_of, on_present, optional_by, fmember_by, fmember_of}
use Rattle.reader.specs.Structure.{absorbs, fmembers_of, mmembers_of}
use Rattle.reader.specs.Union.{member_by, discriminator_by, on_selected, on_discriminator, chosen_of, members_by}
use Rattle.reader.specs.Nested.{has_ending, beginning_of, ending_by, ending_if, ending_of, members_if, members_of, contents_of, delimited_of, body_by, body_of, opened_if, too_deep_if, nested_at}
use Rattle.fit.proofs.Ends.{finished, broken, ends_move, by_test}
use Rattle.fit.proofs.Room.{bad_data, bad_type, unsupported, too_deep, no_discriminator, Roomy, Needs, needs_none, needs_read, needs_short, needs_refused, needs_pick, needs_prepend, needs_closed, needs_back, needs_after, needs_room, needs_then, needs_and, needs_end, needs_ending, needs_number, needs_contents}

-- ---- values that open nothing, and lists of them

needs_rowed : (c : Cursor) (r : Row) → Needs (λ k. rowed k c r)
unfolding rowed
needs_rowed c r = needs_room (needs_read c (r ∷ []))

needs_boolean : (id : ℕ) (v : Boolean) → Needs (λ k. on_boolean id k v)
unfolding on_boolean
needs_boolean id (Ok (v, c)) = needs_rowed c _
needs_boolean id (Err unread.Bad) = needs_refused InvalidData bad_data
needs_boolean id (Err (unread.Short x)) = needs_short x

needs_float128 : (id : ℕ) (v : Float128) → Needs (λ k. on_float128 id k v)
unfolding on_float128
needs_float128 id (Ok (low, high, c)) = needs_rowed c _
needs_float128 id (Err x) = needs_short x

needs_word : (kind id : ℕ) (n : Number) → Needs (λ k. on_number kind id k n)
unfolding on_number
needs_word kind id (Ok (v, c)) = needs_rowed c _
needs_word kind id (Err x) = needs_short x

needs_text : (kind id : ℕ) (v : Text) → Needs (λ k. on_text kind id k v)
unfolding on_text
needs_text kind id (Ok (start, size, c)) = needs_rowed c _
needs_text kind id (Err unread.Bad) = needs_refused InvalidData bad_data
needs_text kind id (Err (unread.Short x)) = needs_short x

needs_block : (p : Place) (o : ℕ → Outcome) → Needs o → Needs (λ k. on_block p (o k))
unfolding on_block
needs_block (Err x) o h = needs_short x
needs_block (Ok d) o h = h

module _ (s : List ℕ) (set : Settings) where
  needs_scalar : (kind id : ℕ) (c : Cursor) → Needs (λ k. scalar_of s set kind id c k)
  unfolding scalar_of
  needs_scalar kind id c =
      needs_pick (eqb kind 1) (needs_boolean id (read_boolean s set c))
      (needs_pick (eqb kind 11) (needs_float128 id (read_float128 s set c))
      (needs_pick (eqb kind 15) (needs_refused Unsupported unsupported)
      (needs_pick (eqb kind 16) (needs_text 16 id (string_type s set c))
      (needs_pick (eqb kind 17) (needs_text 17 id (wstring_type s set c))
      (needs_pick (is_primitive kind) (needs_word kind id (read_number s set c (align_of kind))) (needs_refused Unsupported unsupported))))))

  needs_enum : (base : ℕ) (c : Cursor) → Needs (λ k. enum_of s set base c k)
  unfolding enum_of
  needs_enum base c = needs_pick (among (3 ∷ 4 ∷ 12 ∷ []) base) (needs_scalar base 0 c) (needs_refused Unsupported unsupported)

  needs_elements : (kind left i : ℕ) (c : Cursor) → Needs (λ k. elements_from s set kind left i c k)
  unfolding elements_from
  needs_elements kind zero i c = needs_read c []
  needs_elements kind (suc left) i c =
      needs_and (λ k. scalar_of s set kind i c k) (λ d k. elements_from s set kind left (i + 1) d k)
      (λ d. needs_elements kind left (i + 1) d) (needs_scalar kind i c)

  needs_list : (kind id count : ℕ) (c : Cursor) → Needs (λ k. list_of s set kind id count c k)
  unfolding list_of
  needs_list kind id count c = needs_room (needs_prepend _ (needs_after 1 (needs_elements kind count 0 c)))

  needs_primitives : (kind id count : ℕ) (c : Cursor) → Needs (λ k. primitives_of s set kind id count c k)
  unfolding primitives_of block_of
  needs_primitives kind id count c =
      needs_pick (among (2 ∷ 13 ∷ []) kind) (needs_block (seek_to s c count) (λ k. list_of s set kind id count c k) (needs_list kind id count c)) (needs_list kind id count c)

-- ---- what ends a list, and what ends a structure or a union: neither has rows

list_end_roomy : (b : Bool) (end : ℕ) (c : Cursor) → Roomy (list_end_if b end c)
unfolding list_end_if
list_end_roomy false end c = finished tt
list_end_roomy true end c = by_test Roomy (eqb c.pos end) (λ e. finished tt) (λ e. broken bad_data)

ending_by_roomy : (s : List ℕ) (set : Settings) (v : Version) (end : ℕ) (c : Cursor) → Roomy (ending_by s set v end c)
unfolding ending_by
ending_by_roomy s set Xcdr1 end c = ends_move (seek_to_sentinel s set c) (λ d. read d []) (λ d. finished tt)
ending_by_roomy s set Xcdr2 end c = finished tt

ending_roomy : (s : List ℕ) (set : Settings) (b : Bool) (end : ℕ) (c : Cursor) → Roomy (ending_if s set b end c)
unfolding ending_if
ending_roomy s set true end c = ending_by_roomy s set set.version end c
ending_roomy s set false end c = finished tt

-- ---- one level of the rules, given what opening a value needs, whatever data it is read from

module _ (types : List BookType) (set : Settings) (nest : Nest) (below : (s : List ℕ) (ty id : ℕ) (c : Cursor) → Needs (nest s ty id c)) where
  module _ (s : List ℕ) where
    needs_opened_elements : (ty left i : ℕ) (c : Cursor) → Needs (λ k. opened_from types s set nest ty left i c k)
    unfolding opened_from
    needs_opened_elements ty zero i c = needs_read c []
    needs_opened_elements ty (suc left) i c =
        needs_and (nest s ty i c) (λ d k. opened_from types s set nest ty left (i + 1) d k)
        (λ d. needs_opened_elements ty left (i + 1) d) (below s ty i c)

    needs_opened_list : (ty id count : ℕ) (c : Cursor) → Needs (λ k. opened_list types s set nest ty id count c k)
    unfolding opened_list
    needs_opened_list ty id count c = needs_room (needs_prepend _ (needs_after 1 (needs_opened_elements ty count 0 c)))

    needs_any_elements : (ty id count : ℕ) (c : Cursor) → Needs (λ k. elements_of types s set nest ty id count c k)
    unfolding elements_of bitmasks_or_texts_of
    needs_any_elements ty id count c =
        let kind = (type_no types ty).kind in
        needs_pick (unsupported_element kind) (needs_refused Unsupported unsupported)
        (needs_pick (opens kind) (needs_opened_list ty id count c)
        (needs_pick (is_primitive kind) (needs_primitives s set kind id count c)
        (needs_list s set (read_as (type_no types ty)) id count c)))

    needs_counted : (t : BookType) (id : ℕ) (c : Cursor) → Needs (λ k. counted_of types s set nest t id c k)
    unfolding counted_of
    needs_counted t id c =
        needs_number (count_at s set (is_sequence t) t.bound c) (λ count d k. elements_of types s set nest t.element id count d k)
        (λ count d. needs_any_elements t.element id count d)

  module _ (s : List ℕ) where
    needs_list_value : (t : BookType) (id : ℕ) (c : Cursor) → Needs (λ k. list_value types s set nest t id c k)
    unfolding list_value list_end
    needs_list_value t id c =
        needs_contents (contents_at s set (has_dheader types t) c) _
        (λ d end. needs_ending (λ k. counted_of types (cut_at set s end) set nest t id d k) (λ e. list_end types set t end e)
        (λ e. list_end_roomy _ end e) (needs_counted (cut_at set s end) t id d))

    needs_value : (ty id : ℕ) (c : Cursor) → Needs (λ k. value_of types s set nest ty id c k)
    unfolding value_of
    needs_value ty id c =
        let kind = (type_no types ty).kind in
        needs_pick (eqb kind 0) (needs_read c [])
        (needs_pick (unsupported_member kind) (needs_refused Unsupported unsupported)
        (needs_pick (opens kind) (below s ty id c)
        (needs_pick (among (25 ∷ 26 ∷ []) kind) (needs_list_value (type_no types ty) id c)
        (needs_scalar s set (read_as (type_no types ty)) id c))))

    needs_found_by : (t : Bool) (m : Member) (length : ℕ) (c : Cursor) → Needs (λ k. found_by types s set nest t m length c k)
    unfolding found_by
    needs_found_by true m length c = needs_any_elements s (type_no types m.type).element m.id (element_count types (type_no types m.type) length) c
    needs_found_by false m length c = needs_value m.type m.id c

  module _ (s : List ℕ) where
    needs_located : (m : Member) (l : Located) → Needs (λ k. on_located types s set nest m k l)
    unfolding on_located found_of found_value
    needs_located m (Err x) = needs_short x
    needs_located m (Ok (None, back)) = needs_read back []
    needs_located m (Ok (Some (length, c), back)) =
        needs_back back (needs_found_by (cut_at set s (c.pos + length)) (by_length set.version set.mode types (type_no types m.type)) m length c)

    needs_mmember : (m : Member) (c : Cursor) → Needs (λ k. mmember_of types s set nest m c k)
    unfolding mmember_of
    needs_mmember m c = needs_located m (locate s set m.id c)

    needs_present : (m : Member) (b : Boolean) → Needs (λ k. on_present types s set nest m k b)
    unfolding on_present
    needs_present m (Err (unread.Short x)) = needs_short x
    needs_present m (Err unread.Bad) = needs_refused InvalidData bad_data
    needs_present m (Ok (false, c)) = needs_read c []
    needs_present m (Ok (true, c)) = needs_value s m.type m.id c

    needs_optional : (v : Version) (m : Member) (c : Cursor) → Needs (λ k. optional_by types s set nest v m c k)
    unfolding optional_by
    needs_optional Xcdr1 m c = needs_mmember m c
    needs_optional Xcdr2 m c = needs_present m (read_boolean s set c)

    needs_fmember_by : (t : Bool) (m : Member) (c : Cursor) → Needs (λ k. fmember_by types s set nest t m c k)
    unfolding fmember_by
    needs_fmember_by true m c = needs_optional set.version m c
    needs_fmember_by false m c = needs_value s m.type m.id c

    needs_fmember : (m : Member) (c : Cursor) → Needs (λ k. fmember_of types s set nest m c k)
    unfolding fmember_of
    needs_fmember m c = needs_fmember_by (optional m) m c

    needs_fmembers : (t : BookType) (ms : List Member) (c : Cursor) → Needs (λ k. fmembers_of types s set nest t ms c k)
    unfolding fmembers_of
    needs_fmembers t [] c = needs_read c []
    needs_fmembers t (m ∷ ms) c =
        needs_end (λ k. fmember_of types s set nest m c k) (λ d k. fmembers_of types s set nest t ms d k)
        (λ d. needs_fmembers t ms d) (absorbs t m) (needs_fmember m c)

    needs_mmembers : (ms : List Member) (c : Cursor) → Needs (λ k. mmembers_of types s set nest ms c k)
    unfolding mmembers_of
    needs_mmembers [] c = needs_read c []
    needs_mmembers (m ∷ ms) c =
        needs_and (λ k. mmember_of types s set nest m c k) (λ d k. mmembers_of types s set nest ms d k) (λ d. needs_mmembers ms d) (needs_mmember m c)

    -- ---- unions

    needs_member_by : (mutable : Bool) (m : Member) (c : Cursor) → Needs (λ k. member_by types s set nest mutable m c k)
    unfolding member_by
    needs_member_by true m c = needs_mmember m c
    needs_member_by false m c = needs_fmember m c

    needs_discriminator : (mutable : Bool) (m : Member) (c : Cursor) → Needs (λ k. discriminator_by types s set nest mutable m c k)
    unfolding discriminator_by
    needs_discriminator true m c = needs_mmember m c
    needs_discriminator false m c = needs_value s m.type m.id c

    needs_selected : (mutable : Bool) (o : Option Member) (c : Cursor) → Needs (λ k. on_selected types s set nest mutable o c k)
    unfolding on_selected
    needs_selected mutable none c = needs_refused InvalidData bad_data
    needs_selected mutable (some m) c = needs_member_by mutable m c

    needs_by_discriminator : (mutable : Bool) (disc : Member) (ms : List Member) (c : Cursor) (d : Discriminator) → Needs (λ k. on_discriminator types s set nest mutable disc ms c k d)
    unfolding on_discriminator
    needs_by_discriminator mutable disc ms c (Err unsaid.Absent) = needs_refused NoDiscriminator no_discriminator
    needs_by_discriminator mutable disc ms c (Err unsaid.Unfit) = needs_refused InvalidType bad_type
    needs_by_discriminator mutable disc ms c (Ok d) = needs_selected mutable (selected_of types disc ms d) c

    needs_chosen : (mutable : Bool) (disc : Member) (ms : List Member) (o : ℕ → Outcome) → Needs o → Needs (λ k. chosen_of types s set nest mutable disc ms k (o k))
    unfolding chosen_of
    needs_chosen mutable disc ms o h = needs_then (λ k p. chosen_of types s set nest mutable disc ms k p) (λ k. refl) go h
      where
        go : (p : Outcome) → Roomy p → Needs (λ k. chosen_of types s set nest mutable disc ms k p)
        go (read c rs) r = needs_prepend rs (needs_after (length rs) (needs_by_discriminator mutable disc ms c (discriminator_of rs)))
        go (short x) r = needs_short x
        go (refused n) r = needs_none (refused n) r

    needs_union : (mutable : Bool) (ms : List Member) (c : Cursor) → Needs (λ k. members_by types s set nest mutable ms c k)
    unfolding members_by
    needs_union mutable [] c = needs_refused InvalidType bad_type
    needs_union mutable (m ∷ ms) c = needs_chosen mutable m (m ∷ ms) (λ k. discriminator_by types s set nest mutable m c k) (needs_discriminator mutable m c)

    -- ---- what stands beneath a row

    needs_members_if : (structure mutable : Bool) (t : BookType) (c : Cursor) → Needs (λ k. members_if types s set nest structure mutable t c k)
    unfolding members_if
    needs_members_if true true t c = needs_mmembers t.members c
    needs_members_if true false t c = needs_fmembers t t.members c
    needs_members_if false mutable t c = needs_union mutable t.members c

    needs_contents_of : (t : BookType) (end : ℕ) (c : Cursor) → Needs (λ k. contents_of types s set nest t end c k)
    unfolding contents_of members_of ending_of
    needs_contents_of t end c =
        needs_ending (λ k. members_of types s set nest t c k) (λ e. ending_of s set t end e) (λ e. ending_roomy s set (has_ending set t) end e) (needs_members_if (is_structure t) (is_mutable t) t c)

  module _ (s : List ℕ) where
    needs_delimited : (t : BookType) (c : Cursor) → Needs (λ k. delimited_of types s set nest t c k)
    unfolding delimited_of
    needs_delimited t c =
        needs_contents (beginning_of s set t c) (λ d end k. contents_of types (cut_at set s end) set nest t end d k)
        (λ d end. needs_contents_of (cut_at set s end) t end d)

    needs_body_by : (enum : Bool) (t : BookType) (c : Cursor) → Needs (λ k. body_by types s set nest enum t c k)
    unfolding body_by
    needs_body_by true t c = needs_enum s set t.base c
    needs_body_by false t c = needs_delimited t c

    needs_opened : (t : Bool) (ty id : ℕ) (c : Cursor) → Needs (λ k. opened_if types s set nest t ty id c k)
    unfolding opened_if body_of
    needs_opened false ty id c = needs_refused InvalidType bad_type
    needs_opened true ty id c =
        needs_room (needs_closed _ id ty _ (needs_after 1 (needs_body_by (eqb (type_no types ty).kind 21) (type_no types ty) c)))

-- ---- the depth

needs_too_deep : (t : Bool) → Needs (λ k. too_deep_if t)
unfolding too_deep_if
needs_too_deep false = needs_refused InvalidType bad_type
needs_too_deep true = needs_refused TooDeep too_deep

pub needs_nested : (types : List BookType) (set : Settings) (depth : ℕ) (s : List ℕ) (ty id : ℕ) (c : Cursor) → Needs (λ k. nested_at types set depth s ty id c k)
unfolding nested_at
needs_nested types set zero s ty id c = needs_too_deep (opens (type_no types ty).kind)
needs_nested types set (suc depth) s ty id c =
    needs_opened types set (nested_at types set depth) (needs_nested types set depth) s (opens (type_no types ty).kind) ty id c
