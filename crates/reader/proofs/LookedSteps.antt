-- Laws of the members of a Mutable structure: each by its lookup, and then the structure's end. Assumes nothing.
use Rattle.std.specs.Prelude.{Option, None, Some, Err, Ok}
use Rattle.table.specs.declared.out.Trouble.TheVariants as trouble
use Prim.Native.Nat.{ℕ, suc, ◌+◌, ◌-◌, ◌^◌, ◌<◌}
use mathlib.Core.Path.{◌≡◌, refl, sym, ap, ◌∙◌}
use mathlib.Core.Bool.{Bool, true, false}
use mathlib.Core.List.{List, [], ◌∷◌}
use native.Mathlib.Omega.{arith}
use mir.Syntax.{w64}
use mir.Val.{Fits}
use lib.ListN.{length}
use lib.Dec.{ltb, lit<}
use borrow.Author.Tests.{lt-ltb}
use Rattle.ground.specs.Choice.{pick}
use Rattle.wire.specs.declared.cursor.Cursor.{Cursor}
use Rattle.wire.specs.declared.cursor.Shortage.{Shortage}
use Rattle.wire.specs.Place.{Place}
use Rattle.wire.specs.declared.settings.Settings.{Settings}
use Rattle.wire.specs.declared.settings.Version.{Version}
use Rattle.wire.specs.declared.settings.Version.TheVariants.{Xcdr1, Xcdr2}
use Rattle.wire.specs.Place.{cursor_at, align_to, after_move}
use Rattle.wire.specs.Ends.{cut_at}
use Rattle.wire.proofs.Moves.{align_twice, after_at, after_short}
use Rattle.book.specs.declared.member.Run.{Run}
use Rattle.book.specs.Types.{BookType, Member}
use Rattle.book.specs.Places.{member_at, type_at, places_left, listed, Started}
use Rattle.book.proofs.Places.{listed_some, listed_none}
use Rattle.lookup.specs.Xcdr1 as xcdr1
use Rattle.lookup.specs.Xcdr2 as xcdr2
use Rattle.lookup.specs.Search.{Seek}
use Rattle.lookup.specs.Member.{locate, looked_up, located_v1, located_v2}
use Rattle.lookup.specs.Member.{Located}
use Rattle.lookup.specs.declared.ahead.Hint.{Hint}
use Rattle.lookup.specs.Code.Ahead.{Start}
use Rattle.lookup.specs.declared.ahead.Ahead.{Ahead}
use Rattle.lookup.specs.Code.Ahead.{TrueHint, hint_after, first_lookup, StartIs, value_at}
use Rattle.table.specs.declared.rows.Row.{Row}
use Rattle.table.specs.declared.out.Trouble.{Trouble}
use Rattle.reader.specs.Code.Ending.{coming_back}
use Rattle.reader.proofs.BeginningSteps.{came_done}
use Rattle.table.specs.Code.Outcome.{Out}
use Rattle.table.specs.Rows.{room}
use Rattle.table.specs.Outcome.{Outcome, read, short, refused, prepend, and_then, back_to}
use Rattle.table.specs.Code.Outcome.{Done}
use Rattle.table.proofs.Filling.{filled_none, room_used}
use Rattle.table.proofs.Outcomes.{is_short, is_same, is_after, was_read, was_failed, failing, then_read, then_short, then_refused, then_failed, prepend_nil, prepend_then, Sofar, sofar_start, sofar_more, sofar_failed}
use Rattle.values.specs.Code.Quick.{Quickly}
use Rattle.values.proofs.Quickly.{quick_done, quick_none, quick_next}
use Rattle.reader.specs.Value.{Nest}
use Rattle.reader.specs.Member.{found_value, found_of, on_located, mmember_of}
use Rattle.reader.specs.Structure.{mmembers_of}
use Rattle.reader.specs.Nested.{ending_by}

-- every lookup comes back to where the first alignment left it
CameBack : (f : Located) (back : Cursor) → Type 0
CameBack (Ok (Some (n, c), d)) back = d ≡ back
CameBack (Ok (None, d)) back = d ≡ back
CameBack (Err x) back = ⊥

first_back : (g : Seek) (back : Cursor) → CameBack (located_v1 g back) back
unfolding located_v1 CameBack
first_back (Ok (Some (n, c))) back = go (ltb 0 n)
  where
    go : (x : Bool) → CameBack (pick x (Ok (Some (n, cursor_at c.pos c.pos), back)) (Ok (None, back))) back
    go true = refl
    go false = refl
first_back (Ok None) back = refl
first_back (Err x) back = refl

second_back : (g : Seek) (back : Cursor) → CameBack (located_v2 g back) back
unfolding located_v2 CameBack
second_back (Ok (Some (n, c))) back = refl
second_back (Ok None) back = refl
second_back (Err x) back = refl

looked_back : (s : List ℕ) (set : Settings) (v : Version) (id : ℕ) (back : Cursor) → CameBack (looked_up s set v id back) back
unfolding looked_up
looked_back s set Xcdr1 id back = first_back (xcdr1.seek_to_pid s set id back) back
looked_back s set Xcdr2 id back = second_back (xcdr2.seek_to_pid s set id back) back

module _ (types : List BookType) (s : List ℕ) (set : Settings) (nest : Nest) (back : Cursor) where
  located_is : align_to s set.version back 4 ≡ Ok back → (id : ℕ) → locate s set id back ≡ looked_up s set set.version id back
  unfolding locate
  located_is aligned id = after_at _ _ aligned

  member_back : align_to s set.version back 4 ≡ Ok back → (m : Member) (k : ℕ) (e : Cursor) (rs : List Row) → mmember_of types s set nest m back k ≡ read e rs → e ≡ back
  unfolding mmember_of on_located back_to CameBack
  member_back aligned m k e rs q = go (looked_up s set set.version m.id back) (looked_back s set set.version m.id back) (ap (on_located types s set nest m k) (sym (located_is aligned m.id)) ∙ q)
    where
      after : (o : Outcome) (d : Cursor) → d ≡ back → back_to d o ≡ read e rs → e ≡ back
      after (read c ss) d f z = let y : d ≡ e = cc in sym y ∙ f
      after (short x) d f z = absurd (let y : ◌≡◌ {A = ℕ} 0 1 = cc in omega arith)
      after (refused x) d f z = absurd (let y : ◌≡◌ {A = ℕ} 0 1 = cc in omega arith)

      go : (f : Located) → CameBack f back → on_located types s set nest m k f ≡ read e rs → e ≡ back
      go (Ok (Some (n, c), d)) f z = after (found_of types s set nest m n c k) d f z
      go (Ok (None, d)) f z = let y : d ≡ e = cc in sym y ∙ f
      go (Err x) f z = absurd f

-- the members, and what ends the structure
abbrev then_end : List ℕ → Settings → ℕ → Outcome → Outcome
then_end s set end o = and_then o (λ e used. ending_by s set set.version end e)

end_prepend : (s : List ℕ) (set : Settings) (end : ℕ) (rs : List Row) (o : Outcome) → then_end s set end (prepend rs o) ≡ prepend rs (then_end s set end o)
unfolding and_then prepend
end_prepend s set end rs (read c ss) = sym (prepend_then rs ss (ending_by s set set.version end c))
end_prepend s set end rs (short x) = refl
end_prepend s set end rs (refused k) = refl

end_failed : (s : List ℕ) (set : Settings) (end : ℕ) (e : Trouble) → then_end s set end (failing e) ≡ failing e
end_failed s set end (trouble.Short x) = then_short _ refl
end_failed s set end (trouble.Refused k) = then_refused _ refl

-- where the lookups begin: the first one aligns to 4
first_of : (s : List ℕ) (set : Settings) (c : Cursor) (m : Member) (ms : List Member) → align_to s set.version c 4 ≡ first_lookup s set (ltb 0 (length (m ∷ ms))) c
unfolding first_lookup
first_of s set c m ms = rw (lt-ltb 0 (suc (length ms)) (omega arith))

module _ (types : List BookType) (s : List ℕ) (set : Settings) (nest : Nest) (end : ℕ) (c : Cursor) (k : ℕ) where
  abbrev whole_from : List Member → Cursor → Outcome
  whole_from ms d = then_end s set end (mmembers_of types s set nest ms d k)

  first_short : (ms : List Member) (x : Shortage) → first_lookup s set (ltb 0 (length ms)) c ≡ Err x → whole_from ms c ≡ short x
  unfolding first_lookup mmembers_of mmember_of on_located locate
  first_short [] x e = absurd (let z : ◌≡◌ {A = ℕ} 0 1 = cc in omega arith)
  first_short (m ∷ ms) x e =
      let q : mmember_of types s set nest m c k ≡ short x = ap (on_located types s set nest m k) (after_short _ _ (first_of s set c m ms ∙ e)) in
      ap (then_end s set end) (then_short (λ e used. mmembers_of types s set nest ms e (k - used)) q) ∙ then_short _ refl

  first_at : (ms : List Member) (back : Cursor) → first_lookup s set (ltb 0 (length ms)) c ≡ Ok back → whole_from ms c ≡ whole_from ms back
  unfolding first_lookup mmembers_of mmember_of locate
  first_at [] back e = let z : c ≡ back = cc in rw z
  first_at (m ∷ ms) back e =
      let f : align_to s set.version c 4 ≡ (Ok back) = first_of s set c m ms ∙ e in
      let g : align_to s set.version back 4 ≡ (Ok back) = align_twice s set.version c 4 back (lit< tt) f in
      let q : mmember_of types s set nest m c k ≡ mmember_of types s set nest m back k =
      ap (λ (y : Place). on_located types s set nest m k (after_move Err y (λ b. looked_up s set set.version m.id b))) (f ∙ sym g) in
      ap (λ (o : Outcome). then_end s set end (and_then o (λ x used. mmembers_of types s set nest ms x (k - used)))) q

first_aligned : (s : List ℕ) (set : Settings) (c : Cursor) (ms : List Member) (back : Cursor) → first_lookup s set (ltb 0 (length ms)) c ≡ Ok back → (ms ≡ [] → ⊥) → align_to s set.version back 4 ≡ Ok back
unfolding first_lookup
first_aligned s set c [] back e some = absurd (some refl)
first_aligned s set c (m ∷ ms) back e some = align_twice s set.version c 4 back (lit< tt) (first_of s set c m ms ∙ e)

module _ (s : List ℕ) (set : Settings) (b : List ℕ) (at : ℕ) (c : Cursor) (k : ℕ) (counted : k ≡ length (type_at b at).members) (g : Start) (is : StartIs s set (ltb 0 k) c g) where
  module _ (back : Cursor) (h : Hint) (q : g ≡ Ok (back, h)) where
    stands : first_lookup s set (ltb 0 (length (type_at b at).members)) c ≡ Ok back
    unfolding StartIs
    stands = rw (← counted) (rw q at is).0

    pub mstruct_hint : TrueHint s set back back.origin h × (((type_at b at).members ≡ [] → ⊥) → align_to s set.version back 4 ≡ Ok back)
    unfolding StartIs
    mstruct_hint = ((rw q at is).1, first_aligned s set c (type_at b at).members back stands)

  module _ (types : List BookType) (nest : Nest) (end : ℕ) (t : List ℕ) (n : ℕ) where
    abbrev mutable : Cursor → Outcome
    mutable d = then_end s set end (mmembers_of types s set nest (type_at b at).members d (room t n))

    pub mstruct_short : (x : Shortage) → g ≡ Err x → Done (mutable c) n t t (Err (trouble.Short x))
    unfolding StartIs
    mstruct_short x q = is_short (first_short types s set nest end c (room t n) (type_at b at).members x (rw (← counted) (rw q at is))) (filled_none t n)

    pub mstruct_members : (back : Cursor) (h : Hint) → g ≡ Ok (back, h) → (u : List ℕ) (r : Out) → Done (mutable back) n t u r → Done (mutable c) n t u r
    mstruct_members back h q u r d = is_same (first_at types s set nest end c (room t n) (type_at b at).members back (stands back h q)) d

-- the members so far, with those that are left, and a hint that is true
pub record LookedSofar (types : List BookType) (s : List ℕ) (set : Settings) (nest : Nest) (back : Cursor) (b : List ℕ) (end : ℕ) (whole : Outcome) (n : ℕ) (t u : List ℕ) (ms : Run) (m : ℕ) (h : Hint) : Type 0 where
  pub so : Sofar whole (then_end s set end (mmembers_of types s set nest (listed b ms) back (room u m))) n t u m
  pub hint : TrueHint s set back back.origin h
  pub aligned : (listed b ms ≡ [] → ⊥) → align_to s set.version back 4 ≡ Ok back

-- a member is still to come
one_more : (b : List ℕ) (ms ns : Run) (p : ℕ) → places_left ms ≡ p ∷ places_left ns → listed b ms ≡ [] → ⊥
one_more b ms ns p y f = absurd (let z : ◌≡◌ {A = List Member} [] (member_at b p ∷ listed b ns) = sym f ∙ listed_some b ms p ns y in cc)

pub looked_start : (types : List BookType) (s : List ℕ) (set : Settings) (nest : Nest) (back : Cursor) (end : ℕ) (t : List ℕ) (n : ℕ) {b : List ℕ} {at : ℕ} {ms : Run} {h : Hint} → Started b at ms
    → TrueHint s set back back.origin h × (((type_at b at).members ≡ [] → ⊥) → align_to s set.version back 4 ≡ Ok back)
    → LookedSofar types s set nest back b end (then_end s set end (mmembers_of types s set nest (type_at b at).members back (room t n))) n t t ms n h
looked_start types s set nest back end t n {b} {at} {ms} e f =
    record { so = sofar_start (ap (λ (l : List Member). then_end s set end (mmembers_of types s set nest l back (room t n))) (sym e.is)); hint = f.0; aligned = λ l. f.1 (λ g. l (e.is ∙ g)) }

module _ {types : List BookType} {s : List ℕ} {set : Settings} {nest : Nest} {back : Cursor} {b : List ℕ} {end : ℕ} {whole : Outcome} {n : ℕ} {t u : List ℕ} {ms : Run} {m : ℕ} {h : Hint} (inv : LookedSofar types s set nest back b end whole n t u ms m h) where
  abbrev left_from : List Member → Cursor → ℕ → Outcome
  left_from = mmembers_of types s set nest

  -- whichever member it is
  module _ (p : ℕ) where
    module _ {size : ℕ} {c : Cursor} (there : locate s set (member_at b p).id back ≡ Ok (Some (size, c), back)) {own : List ℕ} (cut : own ≡ cut_at set s (c.pos + size)) where
      came : mmember_of types s set nest (member_at b p) back (room u m) ≡ back_to back (found_value types own set nest (member_at b p) size c (room u m))
      unfolding mmember_of on_located found_of
      came = ap (on_located types s set nest (member_at b p) (room u m)) there ∙ ap (λ (x : List ℕ). back_to back (found_value types x set nest (member_at b p) size c (room u m))) (sym cut)

    pub found_next : (own : List ℕ) (c : Cursor) (v : List ℕ) (x : Option ℕ) → ((f : Nest) (j : ℕ) → Quickly (found_value types own set f (member_at b p) j c (room u m)) 1 m c.origin u v x) → {y : ℕ} → x ≡ Some y → length t < 2 ^ 64 → Fits w64 (m + 1)
    found_next own c v x q some k = quick_next _ _ _ _ _ x some (q (λ w ty id d r. read d []) 0) (rw (← inv.so.filled.long) at k)

    pub found_still : (own : List ℕ) (c : Cursor) (v : List ℕ) (x : Option ℕ) → ((f : Nest) (j : ℕ) → Quickly (found_value types own set f (member_at b p) j c (room u m)) 1 m c.origin u v x) → x ≡ None → LookedSofar types s set nest back b end whole n t v ms m h
    found_still own c v x q none = rw (quick_none _ 1 m c.origin u v x none (q nest 0)) inv

  module _ (p : ℕ) (ns : Run) (y : places_left ms ≡ p ∷ places_left ns) where
    pub looked_aligned : align_to s set.version back 4 ≡ Ok back
    looked_aligned = inv.aligned (one_more b ms ns p y)

    module _ {v : List ℕ} {r : Out} (d : Done (mmember_of types s set nest (member_at b p) back (room u m)) m u v r) where
      next : left_from (listed b ms) back (room u m) ≡ and_then (mmember_of types s set nest (member_at b p) back (room u m)) (λ e used. left_from (listed b ns) e (room u m - used))
      unfolding mmembers_of
      next = rw (listed_some b ms p ns y)

      -- with a hint that is true, which may be the old one
      pub looked_turn : {e : Cursor} {k : ℕ} {g : Hint} → r ≡ Ok (e, k) → TrueHint s set back back.origin g → LookedSofar types s set nest back b end whole n t v ns k g
      looked_turn {e} {k} {g} q true-hint =
          let w = was_read d q in
          let f : e ≡ back = member_back types s set nest back looked_aligned (member_at b p) (room u m) e w.new w.is in
          let z : room u m - length w.new ≡ room v k = room_used u v m (length w.new) w.filled.long ∙ ap (room v) (sym w.count) in
          let o : left_from (listed b ms) back (room u m) ≡ prepend w.new (left_from (listed b ns) back (room v k)) =
          next ∙ then_read _ w.is ∙ ap (λ (x : Cursor). prepend w.new (left_from (listed b ns) x (room u m - length w.new))) f
          ∙ ap (λ (x : ℕ). prepend w.new (left_from (listed b ns) back x)) z in
          record { so = sofar_more inv.so (ap (then_end s set end) o ∙ end_prepend s set end w.new _) w.count w.filled; hint = true-hint; aligned = λ k. looked_aligned }

      pub looked_failed : (e : Trouble) → r ≡ Err e → Done whole n t v (Err e)
      looked_failed e q = let w = was_failed d q in sofar_failed inv.so (ap (then_end s set end) (next ∙ then_failed _ e w.is) ∙ end_failed s set end e) w.filled

    -- a member that was found where the hint says, from its own data
    module _ {size : ℕ} {c : Cursor} (there : locate s set (member_at b p).id back ≡ Ok (Some (size, c), back)) {own : List ℕ} (cut : own ≡ cut_at set s (c.pos + size)) where
      pub found_came : {v : List ℕ} {r o : Out} → Done (found_value types own set nest (member_at b p) size c (room u m)) m u v r → o ≡ coming_back back r → Done (mmember_of types s set nest (member_at b p) back (room u m)) m u v o
      found_came d e = is_same (came p there cut) (came_done back d e)

      -- .. and was taken where it stands
      pub found_quick : (v : List ℕ) (x : Option ℕ) → ((f : Nest) (j : ℕ) → Quickly (found_value types own set f (member_at b p) j c (room u m)) 1 m c.origin u v x) → {y : ℕ} → x ≡ Some y → {g : Hint} → TrueHint s set back back.origin g → LookedSofar types s set nest back b end whole n t v ns (m + 1) g
      unfolding coming_back
      found_quick v x q some z = looked_turn (found_came (quick_done 1 x some (q nest size)) refl) refl z

  pub looked_end : places_left ms ≡ [] → {r : Out} → ((t : List ℕ) → Done (ending_by s set set.version end back) m t t r) → Done whole n t u r
  unfolding mmembers_of and_then prepend
  looked_end l d =
      let o : then_end s set end (left_from (listed b ms) back (room u m)) ≡ ending_by s set set.version end back = rw (listed_none b ms l) (sym (prepend_nil (ending_by s set set.version end back))) in
      is_same (inv.so.same ∙ ap (prepend inv.so.new) o) (is_after inv.so.filled (rw inv.so.count at (d u)))

-- what is told of an id, of a cursor and of a hint that have names
pub small_as : {i j k : ℕ} → i ≡ j → j < k → i < k
small_as e h = rw e h

pub found_at : (s : List ℕ) (set : Settings) (i : ℕ) {size : ℕ} {c d back : Cursor} → c ≡ d → locate s set i back ≡ Ok (Some (size, d), back) → locate s set i back ≡ Ok (Some (size, c), back)
found_at s set i {size} {back = back} e f = f ∙ ap (λ (x : Cursor). (Ok (Some (size, x), back))) (sym e)

-- .. and of a member's own data
pub own_at : (s : List ℕ) (set : Settings) (v o size : ℕ) {c : Cursor} {own : List ℕ} → c ≡ value_at set.version v o → own ≡ cut_at set s (v + size) → own ≡ cut_at set s (c.pos + size)
unfolding value_at
own_at s set v o size {c} e f =
    let z : v + size ≡ c.pos + size = omega (arith, ap (λ (x : Cursor). x.pos) e ∙ go set.version) in
    f ∙ ap (cut_at set s) z
  where
    go : (x : Version) → (value_at x v o).pos ≡ v
    go Xcdr1 = refl
    go Xcdr2 = refl

pub hint_on : (s : List ℕ) (set : Settings) (back : Cursor) (o : ℕ) (a : Ahead) {i j : ℕ} {g : Hint} → g ≡ hint_after a i → i ≡ j → TrueHint s set back o (hint_after a j) → TrueHint s set back o g
hint_on s set back o a e f l = rw (e, f) l
