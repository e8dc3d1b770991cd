-- Laws of opening a value: what each return shows. Assumes nothing.
use Rattle.std.specs.Prelude.{Err, Ok}
use Rattle.table.specs.declared.out.Trouble.TheVariants as trouble
use Rattle.wire.specs.declared.cursor.Unread.TheVariants as unread
use Prim.Native.Nat.{ℕ, zero, suc, ◌+◌, ◌-◌, ◌*◌, ◌≤◌}
use mathlib.Core.Path.{◌≡◌, refl, sym, ap, ◌∙◌}
use mathlib.Core.Bool.{Bool, true, false, not, ◌&&◌}
use mathlib.Core.List.{List, [], ◌∷◌, append-nil}
use native.Mathlib.Omega.{arith}
use lib.ListN.{length}
use lib.Dec.{eqb}
use borrow.Author.Tests.{eq-eqb, ne_eqb, eqb-true}
use Rattle.wire.specs.declared.cursor.Cursor.{Cursor}
use Rattle.wire.specs.declared.settings.Settings.{Settings}
use Rattle.wire.specs.declared.settings.Mode.{Mode}
use Rattle.wire.specs.declared.settings.Version.{Version}
use Rattle.wire.specs.declared.settings.Version.TheVariants.{Xcdr1, Xcdr2}
use Rattle.table.specs.declared.out.Trouble.{Trouble}
use Rattle.wire.specs.declared.cursor.Unread.{Unread}
use Rattle.table.specs.Code.Outcome.{Out}
use Rattle.table.specs.declared.rows.Row.{Row}
use Rattle.table.specs.Rows.{row, width, room, no_room, row_at}
use Rattle.table.specs.Code.Rows.{put_row, counting}
use Rattle.table.specs.Outcome.{Outcome, read, refused, room_for, closed, prepend, and_then}
use Rattle.table.specs.Code.Outcome.{Done, unread_trouble}
use Rattle.table.proofs.Filling.{filled_none, full_fits, length_put_row}
use Rattle.table.proofs.Outcomes.{is_read, is_short, is_refused, is_same, was_read, was_failed, is_failed, then_failed, row_failed, then_read, then_nil, row_full, row_read}
use Rattle.wire.specs.Dheader.{Contents}
use Rattle.wire.specs.Place.{cursor_at}
use Rattle.wire.specs.Ends.{keeps_ends_by, keeps_ends, cut_at}
use Rattle.wire.proofs.Contents.{contents_short, contents_between, contents_past}
use Rattle.ground.specs.Choice.{pick, both, among}
use Rattle.ground.proofs.Tests.{and_both}
use Rattle.kinds.proofs.Table.{opened_stored}
use Rattle.kinds.specs.Kinds.{stored_of, opens}
use Rattle.book.specs.Types.{BookType, type_no}
use Rattle.book.specs.Places.{type_at, types_by, PlaceOf}
use Rattle.book.specs.Asked.{is_mutable, is_structure, is_delimited}
use Rattle.table.specs.declared.out.Refusal.TheVariants.{InvalidType, TooDeep, NoRoom}
use Rattle.values.specs.Scalar.{enum_of}
use Rattle.reader.specs.Value.{Nest}
use Rattle.reader.specs.Union.{members_by}
use Rattle.reader.specs.Structure.{fmembers_of, mmembers_of}
use Rattle.reader.specs.Nested.{beginning_of, ending_by, ending_if, has_ending, ending_of, members_if, members_of, contents_of, delimited_of, body_by, body_of, opened_if, too_deep_if, nested_at}

-- two tests
and_first : (a b : Bool) → (a && b) ≡ true → a ≡ true
and_first true b e = refl
and_first false b e = e

and_second : (a b : Bool) → (a && b) ≡ true → b ≡ true
and_second true b e = e
and_second false b e = absurd (let z : ◌≡◌ {A = ℕ} 0 1 = cc in omega arith)

both_swap : (a b : Bool) → both a b ≡ false → both b a ≡ false
both_swap true true e = e
both_swap true false e = refl
both_swap false true e = refl
both_swap false false e = refl

-- a Mutable structure has an ending in both modes
mutable_ends : (set : Settings) (t : BookType) → is_structure t ≡ true → is_mutable t ≡ true → has_ending set t ≡ true
unfolding has_ending is_mutable is_delimited
mutable_ends set t e f = go (keeps_ends set)
  where
    go : (x : Bool) → pick x (among (1 ∷ 2 ∷ []) t.extensibility) (both (eqb t.extensibility 2) (is_structure t)) ≡ true
    go true = let g : t.extensibility ≡ 2 = eqb-true t.extensibility 2 f in rw g
    go false = rw (e, f)

-- where ends are kept, the version is XCDR2's
module _ (s : List ℕ) (set : Settings) (end : ℕ) (kept : keeps_ends set ≡ true) where
  at_end : (c : Cursor) → ending_by s set set.version end c ≡ read (cursor_at end c.origin) []
  unfolding ending_by keeps_ends_by
  at_end c = go set.version set.mode kept
    where
      go : (v : Version) (m : Mode) → keeps_ends_by v m ≡ true → ending_by s set v end c ≡ read (cursor_at end c.origin) []
      go Xcdr1 m e = absurd (let z : ◌≡◌ {A = ℕ} 0 1 = cc in omega arith)
      go Xcdr2 m e = refl

  stands_there : {o : Outcome} {n : ℕ} {t u : List ℕ} {r : Out} → Done o n t u r → (c : Cursor) (m : ℕ) → r ≡ Ok (c, m) → (d : Cursor) → d ≡ cursor_at end c.origin → Done (and_then o (λ e used. ending_by s set set.version end e)) n t u (Ok (d, m))
  unfolding and_then prepend
  stands_there h c m q d made =
      let w = was_read h q in
      rw made (is_read (then_read _ w.is ∙ ap (prepend w.new) (at_end c) ∙ ap (read (cursor_at end c.origin)) (append-nil w.new)) w.count w.filled)

-- what is not both
pub no_mutable_structure : (b : List ℕ) (at k : ℕ) (y : Bool) → k ≡ (type_at b at).kind → y ≡ is_mutable (type_at b at) → (eqb k 22 && y) ≡ false → both (is_structure (type_at b at)) (is_mutable (type_at b at)) ≡ false
unfolding is_structure
no_mutable_structure b at k y kind mutable e =
    ap (λ (x : Bool). both x (is_mutable (type_at b at))) (sym structure) ∙ ap (both (eqb k 22)) (sym mutable) ∙ sym (and_both (eqb k 22) y) ∙ e
  where
    structure : eqb k 22 ≡ is_structure (type_at b at)
    structure = ap (λ (x : ℕ). eqb x 22) kind

-- what stands beneath the row of a value
module _ (types : List BookType) (s : List ℕ) (set : Settings) (nest : Nest) (b : List ℕ) (at : ℕ) (c : Cursor) (t : List ℕ) (n k : ℕ) (kind : k ≡ (type_at b at).kind) where
  abbrev body : Outcome
  body = body_of types s set nest (type_at b at) c (room t n)

  by : (x : Bool) → eqb (type_at b at).kind 21 ≡ x → body ≡ body_by types s set nest x (type_at b at) c (room t n)
  unfolding body_of
  by x e = ap (λ (z : Bool). body_by types s set nest z (type_at b at) c (room t n)) e

  pub body_enum : k ≡ 21 → (e : ℕ) → e ≡ (type_at b at).base → (u : List ℕ) (r : Out) → Done (enum_of s set e c (room t n)) n t u r → Done body n t u r
  unfolding body_by
  body_enum q e f u r h = is_same (by true (eq-eqb (type_at b at).kind 21 (sym kind ∙ q)) ∙ ap (λ (z : ℕ). enum_of s set z c (room t n)) (sym f)) h

  module _ (other : k ≡ 21 → ⊥) (g : Contents) (is : g ≡ beginning_of s set (type_at b at) c) where
    no_enum : body ≡ delimited_of types s set nest (type_at b at) c (room t n)
    unfolding body_by
    no_enum = by false (ne_eqb (type_at b at).kind 21 (λ e. other (kind ∙ e)))

    -- what begins it ran short, or its end is past the data's
    pub body_unread : (x : Unread) → g ≡ Err x → Done body n t t (Err (unread_trouble x))
    unfolding delimited_of
    body_unread (unread.Short x) q = is_short (no_enum ∙ contents_short _ _ _ (sym is ∙ q)) (filled_none t n)
    body_unread unread.Bad q = is_refused (no_enum ∙ contents_past _ _ _ (sym is ∙ q)) (filled_none t n)

    module _ (d : Cursor) (end : ℕ) (q : g ≡ Ok (d, end)) (w : List ℕ) (cut : w ≡ cut_at set s (0 + end)) (y : Bool) (mutable : y ≡ is_mutable (type_at b at)) where
      between : body ≡ and_then (members_of types w set nest (type_at b at) d (room t n)) (λ e used. ending_of w set (type_at b at) end e)
      unfolding delimited_of contents_of
      between = no_enum ∙ contents_between _ _ _ (sym is ∙ q) ∙ ap (λ (x : List ℕ). contents_of types x set nest (type_at b at) end d (room t n)) (sym (cut ∙ ap (cut_at set s) (let z : 0 + end ≡ end = omega arith in z)))

      structure : eqb k 22 ≡ is_structure (type_at b at)
      unfolding is_structure
      structure = ap (λ (x : ℕ). eqb x 22) kind

      pub body_mstruct : (eqb k 22 && y) ≡ true → (u : List ℕ) (r : Out) → Done (and_then (mmembers_of types w set nest (type_at b at).members d (room t n)) (λ e used. ending_by w set set.version end e)) n t u r → Done body n t u r
      unfolding members_of members_if ending_of ending_if
      body_mstruct e u r h =
          let f : is_structure (type_at b at) ≡ true = sym structure ∙ and_first (eqb k 22) y e in
          let g : is_mutable (type_at b at) ≡ true = sym mutable ∙ and_second (eqb k 22) y e in
          is_same (between ∙ rw (mutable_ends set (type_at b at) f g, f, g)) h

      -- any other ends by its DHEADER, or where its members end
      module _ (others : (eqb k 22 && y) ≡ false) (u : List ℕ) (r : Out) (h : Done (members_of types w set nest (type_at b at) d (room t n)) n t u r) where
        pub body_failed : (x : Trouble) → r ≡ Err x → Done body n t u (Err x)
        body_failed x f = let v = was_failed h f in is_failed (between ∙ then_failed _ x v.is) v.filled

        pub body_there : (e : Cursor) (m : ℕ) → r ≡ Ok (e, m) → (z o : Bool) → z ≡ keeps_ends set → o ≡ is_delimited (type_at b at) → (z && o) ≡ true → (x : Cursor) → x ≡ cursor_at end e.origin → Done body n t u (Ok (x, m))
        unfolding ending_of ending_if has_ending
        body_there e m f z o keeps delimited g x made =
            let l : keeps_ends set ≡ true = sym keeps ∙ and_first z o g in
            let i : is_delimited (type_at b at) ≡ true = sym delimited ∙ and_second z o g in
            is_same (between ∙ rw (l, i)) (stands_there w set end l h e m f x made)

        pub body_rest : (e : Cursor) (m : ℕ) → r ≡ Ok (e, m) → (z o : Bool) → z ≡ keeps_ends set → o ≡ is_delimited (type_at b at) → (z && o) ≡ false → Done body n t u (Ok (e, m))
        unfolding ending_of ending_if has_ending
        body_rest e m f z o keeps delimited g = is_same (between ∙ rw (no_ending z o keeps delimited g) (then_nil _)) (rw f at h)
          where
            no_ending : (x p : Bool) → x ≡ keeps_ends set → p ≡ is_delimited (type_at b at) → (x && p) ≡ false → pick (keeps_ends set) (is_delimited (type_at b at)) (both (is_mutable (type_at b at)) (is_structure (type_at b at))) ≡ false
            no_ending true p i j q = rw (← i, ← j) q
            no_ending false p i j q = rw (← i) (both_swap (is_structure (type_at b at)) (is_mutable (type_at b at)) (no_mutable_structure b at k y kind mutable others))

-- the members of a structure that is not Mutable, and those of a union
module _ (types : List BookType) (s : List ℕ) (set : Settings) (nest : Nest) (b : List ℕ) (at : ℕ) (c : Cursor) (t : List ℕ) (n k : ℕ) (kind : k ≡ (type_at b at).kind) (u : List ℕ) (r : Out) where
  abbrev members : Outcome
  members = members_of types s set nest (type_at b at) c (room t n)

  pub members_structure : k ≡ 22 → both (is_structure (type_at b at)) (is_mutable (type_at b at)) ≡ false → Done (fmembers_of types s set nest (type_at b at) (type_at b at).members c (room t n)) n t u r → Done members n t u r
  unfolding members_of members_if is_structure
  members_structure e f h =
      let x : eqb (type_at b at).kind 22 ≡ true = eq-eqb (type_at b at).kind 22 (sym kind ∙ e) in
      let y : is_mutable (type_at b at) ≡ false = rw x at f in
      is_same (rw (x, y)) h

  pub members_union : (k ≡ 22 → ⊥) → (y : Bool) → y ≡ is_mutable (type_at b at) → Done (members_by types s set nest y (type_at b at).members c (room t n)) n t u r → Done members n t u r
  unfolding members_of members_if is_structure
  members_union e y f h = is_same (rw (ne_eqb (type_at b at).kind 22 (λ g. e (kind ∙ g)), ← f)) h

-- a row that was written has its place after the rows beneath it too
pub place_kept : (t u v : List ℕ) (n : ℕ) (x : Row) (o : Outcome) (r : Out) (f : Bool) → f ≡ no_room t n → f ≡ false → u ≡ put_row t n x → Done o (n + 1) u v r → width * n + width ≤ length v
place_kept t u v n x o r f full fits put h =
    let l : length u ≡ length t = ap length put ∙ length_put_row t n x (full_fits t n f full fits) in
    omega (arith, full_fits t n f full fits, l, h.table.long)

-- opening: the kind, the depth, the room, then the body and the row
module _ {b index : List ℕ} {ty p k : ℕ} {o : Bool} (at : PlaceOf b index ty p) (kind : k ≡ (type_at b p).kind) (is : o ≡ opens k) (s : List ℕ) (set : Settings) (id : ℕ) (c : Cursor) (t : List ℕ) (n D : ℕ) where
  abbrev types : List BookType
  types = types_by b index

  abbrev nested : Outcome
  nested = nested_at types set D s ty id c (room t n)

  kind_no : (type_no types ty).kind ≡ k
  kind_no = sym (kind ∙ ap (λ (x : BookType). x.kind) at.is)

  opens_is : opens (type_no types ty).kind ≡ o
  opens_is = ap opens kind_no ∙ sym is

  unfit_at : (d : ℕ) → o ≡ false → nested_at types set d s ty id c (room t n) ≡ refused InvalidType
  unfolding nested_at too_deep_if opened_if
  unfit_at zero e = ap too_deep_if (opens_is ∙ e)
  unfit_at (suc d) e = ap (λ (x : Bool). opened_if types s set (nested_at types set d) x ty id c (room t n)) (opens_is ∙ e)

  pub nested_unfit : not o ≡ true → Done nested n t t (Err (trouble.Refused InvalidType))
  nested_unfit e = is_refused (unfit_at D (negated o e)) (filled_none t n)
    where
      negated : (x : Bool) → not x ≡ true → x ≡ false
      negated true q = sym q
      negated false q = refl

  module _ (fit : not o ≡ false) where
    opened : o ≡ true
    opened = go o fit
      where
        go : (x : Bool) → not x ≡ false → x ≡ true
        go true q = refl
        go false q = sym q

    deep_at : (d : ℕ) → d ≡ 0 → nested_at types set d s ty id c (room t n) ≡ refused TooDeep
    unfolding nested_at too_deep_if
    deep_at zero e = ap too_deep_if (opens_is ∙ opened)
    deep_at (suc d) e = absurd (omega arith)

    pub nested_deep : D ≡ 0 → Done nested n t t (Err (trouble.Refused TooDeep))
    nested_deep e = is_refused (deep_at D e) (filled_none t n)

    opened_at : (d : ℕ) → nested_at types set (suc d) s ty id c (room t n) ≡ room_for (room t n) (closed (type_no types ty).kind id ty c.pos (body_of types s set (nested_at types set d) (type_no types ty) c (room t n - 1)))
    unfolding nested_at opened_if
    opened_at d = ap (λ (x : Bool). opened_if types s set (nested_at types set d) x ty id c (room t n)) (opens_is ∙ opened)

    is_opened : (D ≡ 0 → ⊥) → nested ≡ room_for (room t n) (closed k id ty c.pos (body_of types s set (nested_at types set (D - 1)) (type_at b p) c (room t n - 1)))
    is_opened h =
        let e : D ≡ suc (D - 1) = omega arith in
        ap (λ (x : ℕ). nested_at types set x s ty id c (room t n)) e ∙ opened_at (D - 1)
        ∙ ap (λ (x : ℕ). room_for (room t n) (closed x id ty c.pos (body_of types s set (nested_at types set (D - 1)) (type_no types ty) c (room t n - 1)))) kind_no
        ∙ ap (λ (x : BookType). room_for (room t n) (closed k id ty c.pos (body_of types s set (nested_at types set (D - 1)) x c (room t n - 1)))) (sym at.is)

    module _ (deep : D ≡ 0 → ⊥) (f : Bool) (full : f ≡ no_room t n) where
      abbrev beneath : ℕ → Outcome
      beneath x = body_of types s set (nested_at types set (D - 1)) (type_at b p) c x

      pub nested_full : f ≡ true → Done nested n t t (Err (trouble.Refused NoRoom))
      nested_full = row_full k id ty c.pos beneath t n f full (is_opened deep)

      module _ (fits : f ≡ false) {x : ℕ} (stored : x ≡ stored_of k) {w : List ℕ} (given-row : w ≡ put_row t n (row x id ty 0 c.pos)) {u : List ℕ} {r : Out} (h : Done (body_of types s set (nested_at types set (D - 1)) (type_at b p) c (room w (n + 1))) (n + 1) w u r) where
        put : w ≡ put_row t n (row k id ty 0 c.pos)
        put = given-row ∙ ap (λ (y : ℕ). put_row t n (row y id ty 0 c.pos)) (stored ∙ opened_stored k (sym is ∙ opened))

        pub nested_read : (e : Cursor) (m : ℕ) (v : List ℕ) → r ≡ Ok (e, m) → v ≡ put_row u n (counting (row_at u n) (m - n - 1)) → Done nested n t v (Ok (e, m))
        nested_read = row_read k id ty c.pos beneath t n f full (is_opened deep) fits w put u r h

        pub nested_failed : (y : Trouble) → r ≡ Err y → Done nested n t u (Err y)
        nested_failed = row_failed k id ty c.pos beneath t n f full (is_opened deep) fits w put u r h
