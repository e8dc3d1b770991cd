-- Laws of lists of values that open nothing: the loop's start, turn and ends, and the list around it. Assumes nothing.
use Rattle.std.specs.Prelude.{Option, None, Some, Err, Ok}
use Prim.Native.Nat.{ℕ, suc, ◌+◌, ◌-◌, ◌^◌, ◌≤◌, ◌<◌}
use mathlib.Core.Path.{◌≡◌, refl, sym, ap, ◌∙◌}
use mathlib.Core.Bool.{Bool, true, false, ◌||◌, or-false}
use mathlib.Core.List.{List, [], ◌∷◌}
use native.Mathlib.Nat.{sub-zero}
use native.Mathlib.Omega.{arith}
use mir.Syntax.{w64}
use mir.Val.{Fits}
use lib.ListN.{length}
use lib.Dec.{eqb}
use borrow.Author.Tests.{ne_eqb}
use Rattle.ground.specs.Choice.{pick, among}
use Rattle.ground.proofs.Tests.{apart, inside}
use Rattle.wire.specs.declared.cursor.Cursor.{Cursor}
use Rattle.wire.specs.declared.cursor.Shortage.{Shortage}
use Rattle.wire.specs.declared.settings.Settings.{Settings}
use Rattle.wire.specs.Place.{Place, cursor_at, seek_to}
use Rattle.wire.proofs.Moves.{seek_at}
use Rattle.kinds.specs.Kinds.{stored_of, is_primitive}
use Rattle.kinds.proofs.Table.{sequence_stored}
use Rattle.table.specs.declared.out.Refusal.TheVariants.{NoRoom}
use Rattle.table.specs.declared.out.Trouble.{Trouble}
use Rattle.table.specs.declared.out.Trouble.TheVariants as trouble
use Rattle.table.specs.declared.rows.Row.{Row}
use Rattle.table.specs.Rows.{row, row_at, room, no_room}
use Rattle.table.specs.Code.Rows.{put_row, Filled}
use Rattle.table.specs.Outcome.{Outcome, read, prepend, and_then}
use Rattle.table.specs.Code.Outcome.{Out, Done}
use Rattle.table.proofs.Filling.{filled_fits, filled_none, filled_one, filled_first, filled_row, full_fits, room_used}
use Rattle.table.proofs.Outcomes.{is_read, is_short, is_refused, is_same, is_after, no_room_law, some_room, was_read, was_short, was_refused, then_read, then_short, then_refused, Sofar, sofar_start, sofar_more, sofar_read, sofar_short, sofar_refused}
use Rattle.values.specs.Scalar.{scalar_of}
use Rattle.values.specs.List.{elements_from, list_of, on_block, block_of, primitives_of, bitmasks_or_texts_of}
use Rattle.values.specs.Code.Quick.{Quickly}
use Rattle.values.specs.Code.Lists.{block_at, plain_of}
use Rattle.values.proofs.Quickly.{quick_is, quick_done, quick_none, quick_not, quick_next}

module _ (s : List ℕ) (set : Settings) (kind count : ℕ) where
  more : (i : ℕ) (c : Cursor) (k : ℕ) → i < count → elements_from s set kind (count - i) i c k ≡ and_then (scalar_of s set kind i c k) (λ d used. elements_from s set kind (count - (i + 1)) (i + 1) d (k - used))
  unfolding elements_from
  more i c k h = let e : count - i ≡ suc (count - (i + 1)) = omega arith in rw e

  none : (i : ℕ) (c : Cursor) (k : ℕ) → count ≤ i → elements_from s set kind (count - i) i c k ≡ read c []
  unfolding elements_from
  none i c k h = let e : count - i ≡ 0 = omega arith in rw e

  -- the elements so far, with what is left of the list
  abbrev pub ElementsSofar : Outcome → ℕ → List ℕ → List ℕ → ℕ → Cursor → ℕ → Type 0
  ElementsSofar whole n t u i c m = Sofar whole (elements_from s set kind (count - i) i c (room u m)) n t u m

  pub elements_start : (c : Cursor) (t : List ℕ) (n : ℕ) → ElementsSofar (elements_from s set kind count 0 c (room t n)) n t t 0 c n
  elements_start c t n = sofar_start (rw sub-zero)

  -- where the quick way took nothing, and where it took all
  module _ (c : Cursor) (t u : List ℕ) (n : ℕ) (r : Option ℕ) (q : Quickly (elements_from s set kind count 0 c (room t n)) count n c.origin t u r) where
    pub quick_else : r ≡ None → (v : List ℕ) (x : Out) → Done (elements_from s set kind count 0 c (room u n)) n u v x → Done (elements_from s set kind count 0 c (room t n)) n t v x
    quick_else h v x d = rw (quick_none _ count n c.origin t u r h q) at d

    pub quick_all : {p : ℕ} → r ≡ Some p → (d : Cursor) → d ≡ cursor_at p c.origin → Done (elements_from s set kind count 0 c (room t n)) n t u (Ok (d, n + count))
    quick_all h d e = rw e (quick_done count r h q)

    pub quick_count : {p : ℕ} → r ≡ Some p → length t < 2 ^ 64 → n < 2 ^ 64 → Fits w64 (n + count)
    quick_count h k l = let w = was_read (quick_done count r h q) refl in omega (arith, w.count, filled_fits w.filled)

  module _ (whole : Outcome) (n : ℕ) (t u : List ℕ) (i : ℕ) (c : Cursor) (m : ℕ) (inv : ElementsSofar whole n t u i c m) where
    module _ (l : i < count) (v : List ℕ) (r : Out) (h : Done (scalar_of s set kind i c (room u m)) m u v r) where
      pub elements_turn : (d : Cursor) (k : ℕ) → r ≡ Ok (d, k) → ElementsSofar whole n t v (i + 1) d k
      elements_turn d k q =
          let w = was_read h q in
          let z : room u m - length w.new ≡ room v k = room_used u v m (length w.new) w.filled.long ∙ ap (room v) (sym w.count) in
          sofar_more inv (more i c (room u m) l ∙ then_read _ w.is ∙ ap (λ (x : ℕ). prepend w.new (elements_from s set kind (count - (i + 1)) (i + 1) d x)) z) w.count w.filled

      pub elements_none : (x : Trouble) → r ≡ Err x → Done whole n t v (Err x)
      elements_none (trouble.Short x) q = let w = was_short h q in sofar_short inv (more i c (room u m) l ∙ then_short _ w.is) w.filled
      elements_none (trouble.Refused k) q = let w = was_refused h q in sofar_refused inv (more i c (room u m) l ∙ then_refused _ w.is) w.filled

    -- an element that the quick way took, or left alone
    module _ (v : List ℕ) (r : Option ℕ) (q : Quickly (scalar_of s set kind i c (room u m)) 1 m c.origin u v r) where
      pub elements_quick : i < count → {p : ℕ} → r ≡ Some p → (d : Cursor) → d ≡ cursor_at p c.origin → ElementsSofar whole n t v (i + 1) d (m + 1)
      elements_quick l {p} h d e = rw e (elements_turn l v (Ok (cursor_at p c.origin, m + 1)) (quick_done 1 r h q) (cursor_at p c.origin) (m + 1) refl)

      pub elements_left : r ≡ None → ElementsSofar whole n t v i c m
      elements_left h = rw (quick_none _ 1 m c.origin u v r h q) inv

      pub elements_next : {p : ℕ} → r ≡ Some p → length t < 2 ^ 64 → Fits w64 (m + 1)
      elements_next h k = quick_next _ _ _ _ _ r h q (rw (← inv.filled.long) at k)

    pub elements_end : count ≤ i → Done whole n t u (Ok (c, m))
    elements_end h = sofar_read inv (none i c (room u m) h) (filled_none u m)

  -- the list's row, and then its elements
  module _ (id : ℕ) (c : Cursor) (t : List ℕ) (n : ℕ) (f : Bool) (is : f ≡ no_room t n) where
    pub list_full : f ≡ true → Done (list_of s set kind id count c (room t n)) n t t (Err (trouble.Refused NoRoom))
    unfolding list_of
    list_full e = is_refused (no_room_law t n _ f is e) (filled_none t n)

    pub list_rows : f ≡ false → (k x : ℕ) → k ≡ stored_of 25 → x ≡ stored_of kind → (u : List ℕ) → u ≡ put_row t n (row k id x count c.pos) → (v : List ℕ) (r : Out)
        → Done (elements_from s set kind count 0 c (room u (n + 1))) (n + 1) u v r → Done (list_of s set kind id count c (room t n)) n t v r
    unfolding list_of
    list_rows e k x list stored u p v r h =
        let q : u ≡ put_row t n (row 25 id (stored_of kind) count c.pos) = rw (list ∙ sequence_stored, stored) at p in
        let w : Filled t u n (row 25 id (stored_of kind) count c.pos ∷ []) = rw q (filled_one t n (row 25 id (stored_of kind) count c.pos) (full_fits t n f is e)) in
        is_same (some_room t n _ f is e ∙ ap (λ (y : ℕ). prepend (row 25 id (stored_of kind) count c.pos ∷ []) (elements_from s set kind count 0 c y)) (room_used t u n 1 w.long)) (is_after w h)

  -- a block of bytes before it, if one is asked for
  module _ (bytes : Bool) (id : ℕ) (c : Cursor) (t : List ℕ) (n : ℕ) (p : Place) (is : p ≡ block_at bytes s c count) where
    pub plain_short : (x : Shortage) → p ≡ Err x → Done (plain_of bytes s set kind id count c (room t n)) n t t (Err (trouble.Short x))
    unfolding plain_of on_block
    plain_short x e = is_short (rw (sym is ∙ e)) (filled_none t n)

-- bytes are primitives
bytes_primitive : (kind : ℕ) → is_primitive kind ≡ false → among (2 ∷ 13 ∷ []) kind ≡ false
unfolding is_primitive
bytes_primitive kind h =
    let no_2 : kind ≡ 2 → ⊥ = λ e. apart (sym h ∙ inside 1 15 kind (omega (arith, e)) (omega (arith, e))) in
    let no_13 : kind ≡ 13 → ⊥ = λ e. apart (sym h ∙ inside 1 15 kind (omega (arith, e)) (omega (arith, e))) in
    rw (ne_eqb kind 2 no_2, ne_eqb kind 13 no_13)

-- both sorts of lists, by the elements' kind and by the kind that they are read as, which is a primitive's own
pub plain_by_kind : (s : List ℕ) (set : Settings) (kind read_as_law id count : ℕ) (c : Cursor) (free : ℕ) (bytes : Bool) → (is_primitive kind ≡ true → read_as_law ≡ kind) → bytes ≡ (eqb kind 2 || eqb kind 13)
    → pick (is_primitive kind) (primitives_of s set kind id count c free) (bitmasks_or_texts_of s set read_as_law id count c free) ≡ plain_of bytes s set read_as_law id count c free
unfolding primitives_of bitmasks_or_texts_of block_of plain_of block_at on_block
plain_by_kind s set kind read_as_law id count c free bytes own e = go (is_primitive kind) refl
  where
    is : bytes ≡ among (2 ∷ 13 ∷ []) kind
    is = e ∙ (simp or-false)

    blocked : (k : ℕ) (b : Bool) → pick b (on_block (seek_to s c count) (list_of s set k id count c free)) (list_of s set k id count c free) ≡ on_block (block_at b s c count) (list_of s set k id count c free)
    blocked k true = refl
    blocked k false = refl

    go : (p : Bool) → is_primitive kind ≡ p
        → pick p (primitives_of s set kind id count c free) (bitmasks_or_texts_of s set read_as_law id count c free) ≡ plain_of bytes s set read_as_law id count c free
    go true f = rw (own f, is) (blocked kind (among (2 ∷ 13 ∷ []) kind))
    go false f = rw (is, bytes_primitive kind f) (blocked read_as_law false)

-- an empty list is read where it stands
pub quick_empty : (s : List ℕ) (set : Settings) (kind count : ℕ) → count ≡ 0 → (c : Cursor) (t : List ℕ) (n : ℕ) → Quickly (elements_from s set kind count 0 c (room t n)) count n c.origin t t (Some c.pos)
unfolding Quickly elements_from
quick_empty s set kind count e c t n = rw e (is_read {rs = []} refl refl (filled_none t n))

-- a list that the quick way took: its row, once its elements have theirs
module _ (s : List ℕ) (set : Settings) (kind count id : ℕ) (c : Cursor) (t u : List ℕ) (n : ℕ) (r : Option ℕ) where
  module _ (f : Bool) (is : f ≡ no_room t n) (free : f ≡ false) (within : c.pos ≤ length s) (enough : count ≤ length s - c.pos) where
    blocked : (bytes : Bool) (o : Outcome) → on_block (block_at bytes s c count) o ≡ o
    unfolding on_block block_at
    blocked true o = rw (← seek_at s c count (omega (arith, within, enough)))
    blocked false o = refl

    module _ (q : Quickly (elements_from s set kind count 0 c (room t (n + 1))) count (n + 1) c.origin t u r) where
      pub quick_list : {p : ℕ} → r ≡ Some p → (k x : ℕ) → k ≡ stored_of 25 → x ≡ stored_of kind → (v : List ℕ) → v ≡ put_row u n (row k id x count c.pos)
          → (bytes : Bool) → Quickly (plain_of bytes s set kind id count c (room t n)) (1 + count) n c.origin t v (Some p)
      unfolding plain_of list_of prepend
      quick_list {p} h k x list stored v put bytes =
          let w = was_read (quick_done count r h q) refl in
          let rs = row 25 id (stored_of kind) count c.pos in
          let z : v ≡ put_row u n rs = rw (list ∙ sequence_stored, stored) at put in
          let e : plain_of bytes s set kind id count c (room t n) ≡ read (cursor_at p c.origin) (rs ∷ w.new) =
          blocked bytes _ ∙ some_room t n _ f is free ∙ ap (λ (y : ℕ). prepend (rs ∷ []) (elements_from s set kind count 0 c y)) (room_used t t n 1 refl) ∙ ap (prepend (rs ∷ [])) w.is in
          quick_is (1 + count) p (is_read e (omega (arith, w.count)) (rw z (filled_row rs (full_fits t n f is free) w.filled)))

      -- .. which tells how many they are
      pub quick_counted : {p : ℕ} → r ≡ Some p → (k x : ℕ) (v : List ℕ) → v ≡ put_row u n (row k id x count c.pos) → (row_at v n).b ≡ count
      quick_counted h k x v put =
          let w = was_read (quick_done count r h q) refl in
          rw put (ap (λ (y : Row). y.b) (filled_first (filled_row (row k id x count c.pos) (full_fits t n f is free) w.filled)))

  pub quick_listless : r ≡ None → Quickly (elements_from s set kind count 0 c (room t (n + 1))) count (n + 1) c.origin t u r → (bytes : Bool) → Quickly (plain_of bytes s set kind id count c (room t n)) (1 + count) n c.origin t u None
  quick_listless h q bytes = rw (quick_none _ count (n + 1) c.origin t u r h q) (quick_not _ (1 + count) n c.origin t)
