-- Laws of the strings: one for each way through a read. Assumes nothing.
use Rattle.std.specs.Prelude.{Err, Ok}
use Rattle.wire.specs.declared.cursor.Unread.TheVariants as unread
use Prim.Native.Nat.{ℕ, suc, ◌+◌, ◌-◌, ◌≤◌, ◌<◌, ◌%◌, ◌/◌}
use mathlib.Core.Path.{◌≡◌, refl, sym, ap, ◌∙◌}
use mathlib.Core.Bool.{Bool, true, false}
use mathlib.Core.List.{List, [], ◌∷◌}
use native.Mathlib.Omega.{arith}
use lib.ListN.{length}
use borrow.Author.Tests.{ne_eqb}
use Rattle.wire.specs.Place.{seek_to, after_move}
use Rattle.wire.specs.Number.{after_number}
use Rattle.wire.specs.Code.Reads.{ReadIs}
use Rattle.wire.specs.declared.settings.Settings.{Settings}
use Rattle.wire.specs.declared.cursor.Cursor.{Cursor}
use Rattle.wire.specs.declared.cursor.Shortage.{Shortage}
use Rattle.wire.specs.Place.{Place}
use Rattle.wire.specs.Number.{Number}
use Rattle.wire.proofs.Moves.{seek_inv}
use Rattle.text.specs.Unicode.{utf8, rest_good}
use Rattle.text.specs.Code.Step.{good_from}
use Rattle.text.specs.Text.{Text, part, text_if, bytes_here, string_type, Units, short, units, unit_then, read_units, on_units, units_here, wide_here, wstring_type}
use Rattle.text.specs.declared.utf16.State.{State}
use Rattle.text.specs.declared.utf16.State.TheVariants as state

-- the block of a STRING8, and its closing byte
module _ (s : List ℕ) (c : Cursor) (n : ℕ) (b : Place) (is : b ≡ seek_to s c n) where
  pub block_short : (x : Shortage) → b ≡ Err x → Err (unread.Short x) ≡ bytes_here s c n
  unfolding bytes_here after_move
  block_short x e = rw (sym is ∙ e)

  module _ (d : Cursor) (e : b ≡ Ok d) where
    pub block_fits : c.pos + n ≤ length s
    block_fits = (seek_inv s c n d (sym is ∙ e)).0

    module _ (l : Place) (last : l ≡ seek_to s d 1) where
      pub closing_short : (x : Shortage) → l ≡ Err x → Err (unread.Short x) ≡ bytes_here s c n
      unfolding bytes_here after_move
      closing_short x f = rw (sym is ∙ e, sym last ∙ f)

      module _ (x : Cursor) (f : l ≡ Ok x) (t : Bool) (told : t ≡ utf8 (part s c.pos n)) where
        pub well_formed : t ≡ true → Ok (c.pos, n, x) ≡ bytes_here s c n
        unfolding bytes_here after_move
        well_formed g = rw (sym is ∙ e, sym last ∙ f, sym told ∙ g)

        pub ill_formed : t ≡ false → Err unread.Bad ≡ bytes_here s c n
        unfolding bytes_here after_move
        ill_formed g = rw (sym is ∙ e, sym last ∙ f, sym told ∙ g)

-- the length of a STRING8
module _ (s : List ℕ) (set : Settings) (c : Cursor) (r : Number) (read : ReadIs s set c 4 r) where
  pub string_short : (x : Shortage) → r ≡ Err x → Err (unread.Short x) ≡ string_type s set c
  unfolding string_type after_number
  string_short x e = rw (sym read.is ∙ e)

  module _ (n : ℕ) (d : Cursor) (e : r ≡ Ok (n, d)) (t : Text) where
    pub string_got : t ≡ bytes_here s d (n - 1) → t ≡ string_type s set c
    unfolding string_type after_number
    string_got f = rw (sym read.is ∙ e) f

-- what the units to come give in this state
unfoldable pub resumed : State → ℕ → ℕ → Units → Text
resumed st start n (short x) = Err (unread.Short x)
resumed st start n (units us c) = text_if (good_from st us) start n c

module _ (s : List ℕ) (set : Settings) (c : Cursor) (n : ℕ) where
  started : (r : Units) → resumed state.Whole c.pos n r ≡ on_units c.pos n r
  unfolding resumed on_units
  started (short x) = refl
  started (units us d) = refl

  pub units_start : resumed state.Whole c.pos n (read_units s set (n - 0) c) ≡ units_here s set c n
  unfolding units_here
  units_start = let e : n - 0 ≡ n = omega arith in rw e (started (read_units s set n c))

-- a unit that is taken, whatever comes after it
taken : (st next : State) (start n u : ℕ) (r : Units) → ((us : List ℕ) → good_from next us ≡ good_from st (u ∷ us)) → resumed next start n r ≡ resumed st start n (unit_then u r)
unfolding resumed unit_then
taken st next start n u (short x) f = refl
taken st next start n u (units us d) f = ap (λ (t : Bool). text_if t start n d) (f us)

-- one turn of the loop over the units, and its end; `whole` is what all of them give
module _ (s : List ℕ) (set : Settings) (c : Cursor) (st : State) (start n left : ℕ) (whole : Text) (inv : resumed st start n (read_units s set left c) ≡ whole) where
  module _ (h : 0 < left) (r : Number) (read : ReadIs s set c 2 r) where
    unit_first : resumed st start n (after_number short r (λ u d. unit_then u (read_units s set (left - 1) d))) ≡ whole
    unfolding read_units
    unit_first = let e : left ≡ suc (left - 1) = omega arith in rw read.is (rw e at inv)

    pub units_short : (x : Shortage) → r ≡ Err x → Err (unread.Short x) ≡ whole
    unfolding resumed after_number
    units_short x e = rw e at unit_first

    pub units_turn : (u : ℕ) (d : Cursor) → r ≡ Ok (u, d) → (next : State) → ((us : List ℕ) → good_from next us ≡ good_from st (u ∷ us)) → (rest : ℕ) → rest ≡ left - 1 → resumed next start n (read_units s set rest d) ≡ whole
    unfolding after_number
    units_turn u d e next f rest k = rw k (taken st next start n u (read_units s set (left - 1) d) f ∙ (rw e at unit_first))

  module _ (h : left ≤ 0) where
    none_left : resumed st start n (units [] c) ≡ whole
    unfolding read_units
    none_left = let z : left ≡ 0 = omega arith in rw z at inv

    pub units_whole : st ≡ state.Whole → Ok (start, n, c) ≡ whole
    unfolding resumed rest_good
    units_whole e = rw e at none_left

    pub units_half : st ≡ state.Half → Err unread.Bad ≡ whole
    unfolding resumed rest_good
    units_half e = rw e at none_left

    pub units_bad : st ≡ state.Bad → Err unread.Bad ≡ whole
    unfolding resumed rest_good
    units_bad e = rw e at none_left

-- the length of a STRING16
module _ (s : List ℕ) (set : Settings) (c : Cursor) (r : Number) (read : ReadIs s set c 4 r) where
  pub wstring_short : (x : Shortage) → r ≡ Err x → Err (unread.Short x) ≡ wstring_type s set c
  unfolding wstring_type after_number wide_here
  wstring_short x e = rw (sym read.is ∙ e)

  module _ (n : ℕ) (d : Cursor) (e : r ≡ Ok (n, d)) where
    pub wstring_empty : n ≡ 0 → Ok (d.pos, 0, d) ≡ wstring_type s set c
    unfolding wstring_type after_number wide_here
    wstring_empty z = rw (sym read.is ∙ e, z)

    pub wstring_odd : (n ≡ 0 → ⊥) → n % 2 ≡ 1 → Err unread.Bad ≡ wstring_type s set c
    unfolding wstring_type after_number wide_here
    wstring_odd z o = rw (sym read.is ∙ e, ne_eqb n 0 z, o)

    pub wstring_units : (t : Text) → (n ≡ 0 → ⊥) → (n % 2 ≡ 1 → ⊥) → t ≡ units_here s set d (n / 2) → t ≡ wstring_type s set c
    unfolding wstring_type after_number wide_here
    wstring_units t z o f = rw (sym read.is ∙ e, ne_eqb n 0 z, ne_eqb (n % 2) 1 o) f
