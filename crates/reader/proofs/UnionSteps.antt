-- Laws of unions: the discriminator, and the member that it selects. Assumes nothing.
use Rattle.std.specs.Prelude.{Err, None, Ok, Some, Option as Found}
use Rattle.table.specs.declared.out.Trouble.TheVariants as trouble
use Prim.Native.Nat.{ℕ, ◌+◌, ◌-◌}
use mathlib.Core.Path.{◌≡◌, sym, ap, ◌∙◌}
use mathlib.Core.Bool.{Bool, true, false}
use mathlib.Core.List.{List, [], ◌∷◌}
use lib.ListN.{length}
use Rattle.wire.specs.declared.cursor.Cursor.{Cursor}
use Rattle.wire.specs.declared.settings.Settings.{Settings}
use Rattle.table.specs.declared.out.Trouble.{Trouble}
use Rattle.table.specs.Code.Outcome.{Out}
use Rattle.table.specs.Rows.{room}
use Rattle.table.specs.Code.Rows.{Filled}
use Rattle.table.specs.Outcome.{Outcome, read, short, refused, prepend}
use Rattle.table.specs.Code.Outcome.{Done}
use Rattle.table.proofs.Filling.{filled_none, room_used}
use Rattle.table.proofs.Outcomes.{is_short, is_refused, is_same, is_after, was_read, was_short, was_refused}
use mathlib.Core.Option.{Option, none, some}
use lib.IntN.{ℤ}
use Rattle.book.specs.declared.member.Run.{Run}
use Rattle.book.specs.Types.{BookType, Member}
use Rattle.book.specs.Places.{member_at, type_at, places_left, listed, Started}
use Rattle.book.specs.Labels.{told}
use Rattle.book.proofs.Places.{listed_some, listed_none}
use Rattle.choice.specs.Discriminator.{discriminator_of}
use Rattle.choice.specs.Code.Discriminator.{discriminator_at, unsaid_trouble}
use Rattle.choice.specs.declared.discriminator.Unsaid.{Unsaid}
use Rattle.choice.specs.declared.discriminator.Unsaid.TheVariants.{Absent, Unfit}
use Rattle.choice.specs.Select.{selected_of}
use Rattle.choice.specs.Discriminator.{Discriminator}
use Rattle.choice.proofs.Discriminators.{at_of}
use Rattle.table.specs.declared.rows.Row.{Row}
use Rattle.table.specs.declared.out.Refusal.TheVariants.{InvalidData, InvalidType}
use Rattle.reader.specs.Value.{Nest, value_of}
use Rattle.reader.specs.Member.{fmember_of, mmember_of}
use Rattle.reader.specs.Union.{member_by, discriminator_by, on_selected, on_discriminator, chosen_of, members_by}

module _ (types : List BookType) (s : List ℕ) (set : Settings) (nest : Nest) (b : List ℕ) (at : ℕ) where
  -- the member that is selected
  module _ (p : ℕ) (mutable : Bool) (c : Cursor) (t : List ℕ) (n : ℕ) (v : Discriminator) where
    abbrev selection : Outcome
    selection = on_discriminator types s set nest mutable (member_at b p) (type_at b at).members c (room t n) v

    pub chosen_failed : (k : Unsaid) → v ≡ Err k → Done selection n t t (Err (unsaid_trouble k))
    unfolding on_discriminator
    chosen_failed Absent e = is_refused (ap (on_discriminator types s set nest mutable (member_at b p) (type_at b at).members c (room t n)) e) (filled_none t n)
    chosen_failed Unfit e = is_refused (ap (on_discriminator types s set nest mutable (member_at b p) (type_at b at).members c (room t n)) e) (filled_none t n)

    module _ (d : ℤ) (e : v ≡ Ok d) (f : Found ℕ) (is : told b f ≡ selected_of types (member_at b p) (type_at b at).members d) where
      by : (o : Option Member) → told b f ≡ o → selection ≡ on_selected types s set nest mutable o c (room t n)
      unfolding on_discriminator
      by o q = ap (on_discriminator types s set nest mutable (member_at b p) (type_at b at).members c (room t n)) e ∙ ap (λ (x : Option Member). on_selected types s set nest mutable x c (room t n)) (sym is ∙ q)

      pub chosen_none : f ≡ None → Done selection n t t (Err (trouble.Refused InvalidData))
      unfolding on_selected told
      chosen_none q = is_refused (by none (ap (told b) q)) (filled_none t n)

      module _ (k : ℕ) (q : f ≡ Some k) where
        is_member : selection ≡ member_by types s set nest mutable (member_at b k) c (room t n)
        unfolding on_selected told
        is_member = by (some (member_at b k)) (ap (told b) q)

        pub chosen_looked : mutable ≡ true → (u : List ℕ) (r : Out) → Done (mmember_of types s set nest (member_at b k) c (room t n)) n t u r → Done selection n t u r
        unfolding member_by
        chosen_looked m u r h = is_same (is_member ∙ ap (λ (x : Bool). member_by types s set nest x (member_at b k) c (room t n)) m) h

        pub chosen_plain : mutable ≡ false → (u : List ℕ) (r : Out) → Done (fmember_of types s set nest (member_at b k) c (room t n)) n t u r → Done selection n t u r
        unfolding member_by
        chosen_plain m u r h = is_same (is_member ∙ ap (λ (x : Bool). member_by types s set nest x (member_at b k) c (room t n)) m) h

  -- the discriminator, and then the selected member
  module _ (ms : Run) (started : Started b at ms) (mutable : Bool) (c : Cursor) (t : List ℕ) (n : ℕ) where
    abbrev union : Outcome
    union = members_by types s set nest mutable (type_at b at).members c (room t n)

    empty : places_left ms ≡ [] → union ≡ refused InvalidType
    unfolding members_by
    empty e = ap (λ (l : List Member). members_by types s set nest mutable l c (room t n)) (sym started.is ∙ listed_none b ms e)

    pub union_empty : places_left ms ≡ [] → Done union n t t (Err (trouble.Refused InvalidType))
    union_empty e = is_refused (empty e) (filled_none t n)

    module _ (p : ℕ) (ns : Run) (some_left : places_left ms ≡ p ∷ places_left ns) where
      listing : (type_at b at).members ≡ member_at b p ∷ listed b ns
      listing = sym started.is ∙ listed_some b ms p ns some_left

      is_chosen : union ≡ chosen_of types s set nest mutable (member_at b p) (type_at b at).members (room t n) (discriminator_by types s set nest mutable (member_at b p) c (room t n))
      unfolding members_by
      is_chosen =
          ap (λ (l : List Member). members_by types s set nest mutable l c (room t n)) listing
          ∙ ap (λ (l : List Member). chosen_of types s set nest mutable (member_at b p) l (room t n) (discriminator_by types s set nest mutable (member_at b p) c (room t n))) (sym listing)

      module _ (u : List ℕ) (r : Out) (h : Done (discriminator_by types s set nest mutable (member_at b p) c (room t n)) n t u r) where
        chosen : (o : Outcome) → discriminator_by types s set nest mutable (member_at b p) c (room t n) ≡ o → union ≡ chosen_of types s set nest mutable (member_at b p) (type_at b at).members (room t n) o
        chosen o e = is_chosen ∙ ap (chosen_of types s set nest mutable (member_at b p) (type_at b at).members (room t n)) e

        pub union_failed : (e : Trouble) → r ≡ Err e → Done union n t u (Err e)
        unfolding chosen_of
        union_failed (trouble.Short x) q = let w = was_short h q in is_short (chosen (short x) w.is) w.filled
        union_failed (trouble.Refused k) q = let w = was_refused h q in is_refused (chosen (refused k) w.is) w.filled

        -- over rows that are a variable
        then : (d : Cursor) (m : ℕ) (rs : List Row) → discriminator_by types s set nest mutable (member_at b p) c (room t n) ≡ read d rs → m ≡ n + length rs → Filled t u n rs
            → (v : Discriminator) → v ≡ discriminator_at u n m → (w : List ℕ) (y : Out) → Done (on_discriminator types s set nest mutable (member_at b p) (type_at b at).members d (room u m) v) m u w y → Done union n t w y
        unfolding chosen_of
        then d m rs e k f v i w y g =
            let z : discriminator_of rs ≡ v = sym (i ∙ at_of t u n m rs f k) in
            let l : room t n - length rs ≡ room u m = room_used t u n (length rs) f.long ∙ ap (room u) (sym k) in
            is_same
            (chosen (read d rs) e
            ∙ ap (λ (x : ℕ). prepend rs (on_discriminator types s set nest mutable (member_at b p) (type_at b at).members d x (discriminator_of rs))) l
            ∙ ap (λ (x : Discriminator). prepend rs (on_discriminator types s set nest mutable (member_at b p) (type_at b at).members d (room u m) x)) z)
            (is_after f (rw (sym k) g))

        pub union_read : (d : Cursor) (m : ℕ) → r ≡ Ok (d, m) → (v : Discriminator) → v ≡ discriminator_at u n m → (w : List ℕ) (y : Out)
            → Done (on_discriminator types s set nest mutable (member_at b p) (type_at b at).members d (room u m) v) m u w y → Done union n t w y
        union_read d m q v i w y g = let x = was_read h q in then d m x.new x.is x.count x.filled v i w y g

  -- the discriminator: looked up, or read as not optional
  module _ (p : ℕ) (mutable : Bool) (c : Cursor) (t : List ℕ) (n : ℕ) (u : List ℕ) (r : Out) where
    pub discriminator_looked : mutable ≡ true → Done (mmember_of types s set nest (member_at b p) c (room t n)) n t u r → Done (discriminator_by types s set nest mutable (member_at b p) c (room t n)) n t u r
    unfolding discriminator_by
    discriminator_looked e h = rw e h

    pub discriminator_plain : mutable ≡ false → (ty i : ℕ) → ty ≡ (member_at b p).type → i ≡ (member_at b p).id → Done (value_of types s set nest ty i c (room t n)) n t u r → Done (discriminator_by types s set nest mutable (member_at b p) c (room t n)) n t u r
    unfolding discriminator_by
    discriminator_plain e ty i type named h = rw (e, ← type, ← named) h
