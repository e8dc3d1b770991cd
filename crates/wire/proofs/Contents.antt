-- Laws of the DHEADER, and of contents with or without one. Assumes nothing.
use Rattle.std.specs.Prelude.{Err, Ok}
use Rattle.wire.specs.declared.cursor.Unread.TheVariants as unread
use Rattle.std.proofs.Common.{arith, take_all, ◌≡◌, ℕ, ◌+◌, ◌^◌, ◌<◌, ◌≤◌, Bool, true, false, List, length, sym, refl, ap, ◌∙◌, le-ltb, lt-ltb}
use Rattle.wire.specs.Place.{cursor_at, alignment_of, padding_of}
use Rattle.wire.specs.Number.{number_at, after_number}
use Rattle.wire.specs.Code.Reads.{ReadIs}
use Rattle.wire.specs.Ends.{keeps_ends, cut_at}
use Rattle.wire.specs.Dheader.{up_to, dheader_at, delimited_by, contents_at, after_contents}
use Rattle.wire.specs.declared.settings.Settings.{Settings}
use Rattle.wire.specs.declared.settings.Version.TheVariants.{Xcdr1}
use Rattle.wire.specs.declared.cursor.Cursor.{Cursor}
use Rattle.wire.specs.declared.cursor.Shortage.{Shortage}
use Rattle.wire.specs.Number.{Number}
use Rattle.wire.specs.Dheader.{Contents}
use Rattle.wire.proofs.Numbers.{read_inv, read_there}

-- an end that is past the data's, or not
module _ (s : List ℕ) (set : Settings) (c : Cursor) (end : ℕ) where
  module _ (k : Bool) (keeps : k ≡ keeps_ends set) (h : length s < end) where
    pub up_to_past : k ≡ true → Err unread.Bad ≡ up_to s set c end
    unfolding up_to
    up_to_past e = rw (sym keeps ∙ e, lt-ltb (length s) end h)

    pub up_to_let : k ≡ false → Ok (c, end) ≡ up_to s set c end
    unfolding up_to
    up_to_let e = rw (sym keeps ∙ e)

  pub up_to_there : end ≤ length s → Ok (c, end) ≡ up_to s set c end
  unfolding up_to
  up_to_there h = go (keeps_ends set) refl
    where
      go : (k : Bool) → keeps_ends set ≡ k → Ok (c, end) ≡ up_to s set c end
      go true e = rw (e, le-ltb (length s) end h)
      go false e = rw e

-- the data cut at its own end is the data
pub cut_whole : (set : Settings) (s : List ℕ) → cut_at set s (length s) ≡ s
unfolding cut_at
cut_whole set s = go (keeps_ends set) refl
  where
    go : (k : Bool) → keeps_ends set ≡ k → cut_at set s (length s) ≡ s
    go true e = rw e (take_all (length s) s (omega arith))
    go false e = rw e

-- the DHEADER: it and the contents all there, read, or short
pub dheader_there : (s : List ℕ) (set : Settings) (c : Cursor) (q n : ℕ) (d : Cursor) → (q + 4 ≤ length s → q ≡ c.pos + padding_of c (alignment_of set.version 4)) → q + 4 ≤ length s → n ≡ number_at set.order 0 s q 4 → d ≡ cursor_at (q + 4) c.origin
    → q + 4 + n ≤ length s → Ok (d, q + 4 + n) ≡ dheader_at s set c
unfolding dheader_at after_number
dheader_there s set c q n d starts h is e l = rw (read_there s set c 4 q n (starts h) h is) (up_to_there s set d (q + 4 + n) l ∙ ap (λ (y : Cursor). up_to s set y (q + 4 + n)) e)

module _ (s : List ℕ) (set : Settings) (c : Cursor) (r : Number) (is : ReadIs s set c 4 r) where
  pub dheader_short : (x : Shortage) → r ≡ Err x → Err (unread.Short x) ≡ dheader_at s set c
  unfolding dheader_at after_number
  dheader_short x e = rw (sym is.is ∙ e)

  pub dheader_read : (n : ℕ) (d : Cursor) → r ≡ Ok (n, d) → (y : Contents) → y ≡ up_to s set d (d.pos + n) → y ≡ dheader_at s set c
  unfolding dheader_at after_number
  dheader_read n d e y f = rw (sym is.is ∙ e) f

  -- what is summed: a position inside the data, and a u32
  pub dheader_parts : (n : ℕ) (d : Cursor) → r ≡ Ok (n, d) → (d.pos ≤ length s) × (n < 256 ^ 4)
  dheader_parts n d e = ((read_inv s set c 4 n d (sym is.is ∙ e)).inside, (rw e at is.small))

-- contents in XCDR1, which has no DHEADER, whatever the flag
module _ (s : List ℕ) (set : Settings) (f : Bool) (c : Cursor) where
  pub contents_first : set.version ≡ Xcdr1 → Ok (c, length s) ≡ contents_at s set f c
  unfolding contents_at delimited_by
  contents_first v = go f refl
    where
      go : (x : Bool) → f ≡ x → Ok (c, length s) ≡ contents_at s set f c
      go true e = rw (e, v)
      go false e = rw e

-- what follows, by what they came to
module _ {A : Type 0} (else : Shortage → A) (past : A) (next : Cursor → ℕ → A) {g : Contents} where
  pub contents_short : {x : Shortage} → g ≡ Err (unread.Short x) → after_contents else past g next ≡ else x
  unfolding after_contents
  contents_short e = rw e

  pub contents_between : {c : Cursor} {end : ℕ} → g ≡ Ok (c, end) → after_contents else past g next ≡ next c end
  unfolding after_contents
  contents_between e = rw e

  pub contents_past : g ≡ Err unread.Bad → after_contents else past g next ≡ past
  unfolding after_contents
  contents_past e = rw e
