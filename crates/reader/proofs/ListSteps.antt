-- Laws of the quick way for a list: where its elements are numbers that are there, the value is what `value_of` says. Assumes nothing.
use Rattle.std.specs.Prelude.{Option, None, Some, Ok}
use Prim.Native.Nat.{ℕ, ◌+◌, ◌≤◌, ◌<◌, ◌^◌}
use mathlib.Core.Path.{◌≡◌, refl, sym, ap, ◌∙◌}
use mathlib.Core.Logic.{◌⊎◌, inl, inr}
use mathlib.Core.Bool.{Bool, true, false, not, ◌||◌, ◌&&◌}
use mathlib.Core.List.{List, []}
use native.Mathlib.Omega.{arith}
use mir.Syntax.{w64}
use mir.Val.{Fits}
use lib.ListN.{length}
use lib.Dec.{T, eqb, eqb→eq}
use borrow.Author.Tests.{ne_eqb}
use Rattle.ground.proofs.Between.{passes, between}
use Rattle.ground.proofs.Tests.{apart}
use Rattle.wire.specs.declared.cursor.Cursor.{Cursor}
use Rattle.wire.specs.declared.settings.Settings.{Settings}
use Rattle.wire.specs.Place.{cursor_at, alignment_of, padding_of}
use Rattle.wire.specs.Number.{number_at}
use Rattle.wire.specs.Ends.{keeps_ends, cut_at}
use Rattle.wire.specs.Dheader.{contents_at}
use Rattle.wire.proofs.Numbers.{read_there}
use Rattle.wire.proofs.Contents.{cut_whole}
use Rattle.kinds.specs.Kinds.{is_primitive, unsupported_member, unsupported_element, opens}
use Rattle.kinds.proofs.Table.{primitive_range}
use Rattle.book.specs.Types.{BookType}
use Rattle.book.specs.Places.{type_at, types_by, PlaceOf}
use Rattle.book.specs.Asked.{is_sequence, primitive_element, read_as}
use Rattle.table.specs.declared.rows.Row.{Row}
use Rattle.table.specs.Rows.{room, row_at}
use Rattle.table.specs.Outcome.{read}
use Rattle.table.specs.Code.Outcome.{Out}
use Rattle.table.specs.Code.Outcome.{Done}
use Rattle.table.proofs.Filling.{filled_fits}
use Rattle.table.proofs.Outcomes.{was_read}
use Rattle.values.specs.Count.{count_at}
use Rattle.values.specs.Code.Lists.{plain_of}
use Rattle.values.specs.Code.Quick.{Quickly}
use Rattle.values.proofs.Quickly.{quick_is, quick_not, quick_done, quick_none}
use Rattle.reader.specs.Value.{Nest, elements_of, list_value, value_of}
use Rattle.reader.proofs.ValueSteps.{primitive_read, elements_plain, list_rest, value_list}

-- a primitive but CHAR16: a list may have it, and it opens nothing
module _ (k : ℕ) (x : Bool) (e : x ≡ is_primitive k) (h : (not x || eqb k 15) ≡ false) where
  split : (y : Bool) → x ≡ y → (is_primitive k ≡ true) × (eqb k 15 ≡ false)
  split true f = (sym e ∙ f, (rw f at h))
  split false f = absurd (apart (sym (rw f at h)))

  primitive : is_primitive k ≡ true
  primitive = (split x refl).0

  none_at : (f : ℕ → Bool) → T (passes (λ i. eqb i 15 || not (f i)) 1 15) → f k ≡ false
  none_at f t =
      let r = primitive_range k primitive in
      let z : T (eqb k 15 || not (f k)) = between (λ i. eqb i 15 || not (f i)) 15 1 t k r.0 (omega (arith, r.1)) in
      is_false (f k) (rw (split x refl).1 at z)
    where
      is_false : (y : Bool) → T (not y) → y ≡ false
      is_false true t = absurd t
      is_false false t = refl

  supported : unsupported_element k ≡ false
  unfolding unsupported_element
  supported = none_at unsupported_element tt

  unopened : opens k ≡ false
  unfolding opens
  unopened = none_at opens tt

-- the two kinds of lists, of which neither is unsupported or opens
module _ (k : ℕ) where
  abbrev Listed : Type 0
  Listed = (k ≡ 25) ⊎ (k ≡ 26)

  one_of : Listed → (eqb k 25 || eqb k 26) ≡ true
  one_of (inl e) = rw e
  one_of (inr e) = rw e

  some : Listed → k ≡ 0 → ⊥
  some (inl e) z = absurd (omega arith)
  some (inr e) z = absurd (omega arith)

  allowed : Listed → unsupported_member k ≡ false
  unfolding unsupported_member
  allowed (inl e) = rw e
  allowed (inr e) = rw e

  closed_kind : Listed → opens k ≡ false
  unfolding opens
  closed_kind (inl e) = rw e
  closed_kind (inr e) = rw e

whole : (s : List ℕ) (set : Settings) → s ≡ cut_at set s (0 + length s)
whole s set = let z : 0 + length s ≡ length s = omega arith in rw z (sym (cut_whole set s))

module _ (b index s : List ℕ) (set : Settings) (ty id : ℕ) (c : Cursor) (t : List ℕ) (n at of : ℕ) (placed : PlaceOf b index ty at) (kind-of : of ≡ (type_at b at).kind)
    (el q k : ℕ) (element : el ≡ (type_at b at).element) (there : PlaceOf b index el q) (kind : k ≡ (type_at b q).kind) (x : Bool) (e : x ≡ is_primitive k) (h : (not x || eqb k 15) ≡ false) where
  undelimited_by : contents_at s set (not (is_primitive k)) c ≡ Ok (c, length s)
  unfolding contents_at
  undelimited_by = rw (primitive k x e h)

  elements_are : is_primitive k ≡ primitive_element (types_by b index) (type_at b at)
  unfolding primitive_element
  elements_are = rw (← element) (ap is_primitive (kind ∙ ap (λ (z : BookType). z.kind) there.is))

  unkept : (z : Bool) → (z && not (is_primitive k)) ≡ false
  unkept true = rw (primitive k x e h)
  unkept false = refl

  read_own : k ≡ read_as (type_at b q)
  read_own = kind ∙ sym (primitive_read (type_at b q) (rw kind at (primitive k x e h)))

  -- how many, and where the first stands
  module _ (listed : Listed of) (count : ℕ) (d : Cursor) (counts : count_at s set (is_sequence (type_at b at)) (type_at b at).bound c ≡ Ok (count, d)) (u : List ℕ) (r : Option ℕ)
      (taken : (bytes : Bool) → Quickly (plain_of bytes s set k id count d (room t n)) (1 + count) n d.origin t u r) (told : (p : ℕ) → r ≡ Some p → (row_at u n).b ≡ count) (nest : Nest) where
    list_done : {p : ℕ} → r ≡ Some p → Done (value_of (types_by b index) s set nest ty id c (room t n)) n t u (Ok (cursor_at p d.origin, n + (1 + count)))
    list_done {p} y =
        let o : Out = (Ok (cursor_at p d.origin, n + (1 + count))) in
        let w : Done (plain_of (eqb k 2 || eqb k 13) s set k id count d (room t n)) n t u o = quick_done (1 + count) r y (taken (eqb k 2 || eqb k 13)) in
        let v : Done (elements_of (types_by b index) s set nest el id count d (room t n)) n t u o =
        elements_plain b index s set nest el id d t n q k there kind count (unsupported_element k) refl (supported k x e h) (opens k) refl (unopened k x e h) k read_own u o w in
        let l : Done (list_value (types_by b index) s set nest (type_at b at) id c (room t n)) n t u o =
        list_rest b index s set nest at id c t n (is_primitive k) elements_are _ refl c (length s) undelimited_by s (whole s set) _ _ refl refl _ refl count d counts el element u o v (keeps_ends set) refl (unkept (keeps_ends set)) in
        value_list b index s set nest ty id c t n at of placed kind-of (some of listed) (unsupported_member of) refl (allowed of listed) (opens of) refl (closed_kind of listed) (one_of of listed) u o l

    list_quickly : d.origin ≡ c.origin → Quickly (value_of (types_by b index) s set nest ty id c (room t n)) (1 + (row_at u n).b) n c.origin t u r
    unfolding Quickly
    list_quickly f = go r refl
      where
        go : (x : Option ℕ) → r ≡ x → Quickly (value_of (types_by b index) s set nest ty id c (room t n)) (1 + (row_at u n).b) n c.origin t u x
        go None g = quick_none _ (1 + count) n d.origin t u r g (taken true)
        go (Some p) g =
            let z : ◌≡◌ {A = Out} (Ok (cursor_at p c.origin, n + (1 + (row_at u n).b))) (Ok (cursor_at p d.origin, n + (1 + count))) =
            ap (λ (m : ℕ). (Ok (cursor_at p m, n + (1 + (row_at u n).b)))) (sym f) ∙ ap (λ (m : ℕ). (Ok (cursor_at p d.origin, n + (1 + m)))) (told p g) in
            quick_is (1 + (row_at u n).b) p (rw z (list_done g))

  module _ (u : List ℕ) (r : Option ℕ) where
    -- an array has as many as its bound says
    pub list_array : of ≡ 26 → (count : ℕ) → count ≡ (type_at b at).bound
        → ((bytes : Bool) → Quickly (plain_of bytes s set k id count c (room t n)) (1 + count) n c.origin t u r) × ((p : ℕ) → r ≡ Some p → (row_at u n).b ≡ count)
        → (nest : Nest) → Quickly (value_of (types_by b index) s set nest ty id c (room t n)) (1 + (row_at u n).b) n c.origin t u r
    unfolding count_at is_sequence
    list_array g count bound z nest =
        let w : eqb (type_at b at).kind 25 ≡ false = rw (← kind-of, g) in
        list_quickly (inr g) count c (rw (w, ← bound)) u r z.0 z.1 nest refl

    -- a sequence tells it
    pub list_sequence : (not (eqb of 25) && not (eqb of 26)) ≡ false → (of ≡ 26 → ⊥) → (p count : ℕ) (d : Cursor) → (p + 4 ≤ length s → p ≡ c.pos + padding_of c (alignment_of set.version 4)) → p + 4 ≤ length s
        → count ≡ number_at set.order 0 s p 4 → d ≡ cursor_at (p + 4) c.origin
        → ((bytes : Bool) → Quickly (plain_of bytes s set k id count d (room t n)) (1 + count) n d.origin t u r) × ((p : ℕ) → r ≡ Some p → (row_at u n).b ≡ count)
        → (nest : Nest) → Quickly (value_of (types_by b index) s set nest ty id c (room t n)) (1 + (row_at u n).b) n c.origin t u r
    unfolding count_at is_sequence
    list_sequence l y p count d starts inside is at-d z nest =
        let g : of ≡ 25 = eqb→eq of 25 (sequence (eqb of 25) refl) in
        let w : eqb (type_at b at).kind 25 ≡ true = rw (← kind-of, g) in
        list_quickly (inl g) count d (rw w (read_there s set c 4 p count (starts inside) inside is ∙ ap ((λ y. Ok (count, y))) (sym at-d))) u r z.0 z.1 nest (ap (λ (m : Cursor). m.origin) at-d)
      where
        sequence : (m : Bool) → eqb of 25 ≡ m → T (eqb of 25)
        sequence true f = rw f tt
        sequence false f = absurd (apart (sym (rw (f, ne_eqb of 26 y) at l)))

pub list_none : (types : List BookType) (s : List ℕ) (set : Settings) (ty id : ℕ) (c : Cursor) (t : List ℕ) (n : ℕ) (nest : Nest) → Quickly (value_of types s set nest ty id c (room t n)) (1 + (row_at t n).b) n c.origin t t None
list_none types s set ty id c t n nest = quick_not _ _ n c.origin t

-- what the quick way took is the value; or it left all as it was
module _ (types : List BookType) (s : List ℕ) (set : Settings) (ty id : ℕ) (c : Cursor) (t : List ℕ) (n : ℕ) (u : List ℕ) (r : Option ℕ)
    (q : (f : Nest) → Quickly (value_of types s set f ty id c (room t n)) (1 + (row_at u n).b) n c.origin t u r) where
  pub list_taken : {p : ℕ} → r ≡ Some p → (nest : Nest) (d : Cursor) → d ≡ cursor_at p c.origin → (y : Row) → y ≡ row_at u n → Done (value_of types s set nest ty id c (room t n)) n t u (Ok (d, n + 1 + y.b))
  list_taken h nest d e y f =
      let z : n + 1 + (row_at u n).b ≡ n + (1 + (row_at u n).b) = omega arith in
      rw (e, f, z) (quick_done (1 + (row_at u n).b) r h (q nest))

  pub list_left : r ≡ None → (nest : Nest) (v : List ℕ) (x : Out) → Done (value_of types s set nest ty id c (room u n)) n u v x → Done (value_of types s set nest ty id c (room t n)) n t v x
  list_left h nest v x d = rw (quick_none _ (1 + (row_at u n).b) n c.origin t u r h (q nest)) at d

  -- the rows that were written have their places
  module _ {p : ℕ} (h : r ≡ Some p) (long : length t < 2 ^ 64) where
    pub rows_next : Fits w64 (n + 1)
    rows_next = let w = was_read (quick_done (1 + (row_at u n).b) r h (q (λ a b c d e. read d []))) refl in omega (arith, w.count, filled_fits w.filled)

    pub rows_past : (y : Row) → y ≡ row_at u n → Fits w64 (n + 1 + y.b)
    rows_past y e = let w = was_read (quick_done (1 + (row_at u n).b) r h (q (λ a b c d e. read d []))) refl in rw e (omega (arith, w.count, filled_fits w.filled))
