-- Where a move, a number, a text and the contents of a value stand, and what their shortages tell: one predicate for each of their answers, over what
-- is claimed. What was read stands inside the data that it is read from. Assumes nothing.
use Rattle.std.specs.Prelude.{Err, Ok}
use Rattle.wire.specs.declared.cursor.Unread.TheVariants as unread
use Prim.Native.Nat.{ℕ, zero, suc, ◌+◌, ◌-◌, ◌*◌, ◌/◌, ◌%◌, ◌≤◌, min}
use mathlib.Core.Path.{◌≡◌, refl}
use mathlib.Core.Bool.{Bool, true, false}
use mathlib.Core.List.{List}
use native.Mathlib.Omega.{arith}
use native.Mathlib.Nat.{mod-le}
use lib.Dec.{eqb, leb, ltb}
use lib.ListN.{length}
use borrow.Author.Tests.{leb-true, leb-false, ltb-false}
use Rattle.wire.specs.declared.cursor.Cursor.{Cursor}
use Rattle.wire.specs.declared.cursor.Shortage.{Shortage}
use Rattle.wire.specs.declared.settings.Settings.{Settings}
use Rattle.wire.specs.declared.settings.ByteOrder.{ByteOrder}
use Rattle.wire.specs.declared.settings.Version.{Version}
use Rattle.wire.specs.declared.settings.Version.TheVariants.{Xcdr1, Xcdr2}
use Rattle.wire.specs.Place.{Place, alignment_of, padding_of, seek_to, align_to, after_move}
use Rattle.wire.specs.Number.{Number, Boolean, on_bytes, number_here, on_aligned, read_number, boolean_in, on_byte, read_boolean, after_number}
use Rattle.wire.specs.Ends.{keeps_ends, cut_at}
use Rattle.wire.proofs.Contents.{cut_whole}
use Rattle.wire.specs.Dheader.{Contents, up_to, dheader_at, delimited_by, contents_at}
use Rattle.text.specs.Unicode.{utf8, utf16}
use Rattle.text.specs.Text as textual
use Rattle.text.specs.Text.{Text, short_text, part, text_if, bytes_here, string_type, Units, unit_then, read_units, on_units, units_here, wide_here, wstring_type}
use Rattle.fit.proofs.Claims.{Claim}
use Rattle.fit.proofs.Cuts.{cut_keeps}
use Rattle.fit.proofs.Ends.{by_test}

-- ---- what each answer tells

pub data PlaceIn {set : Settings} (K : Claim set) (s : List ℕ) : Place → Type 0 where
  place_in : {c : Cursor} → c.pos ≤ length s → PlaceIn K s (Ok c)
  no_place : {x : Shortage} → K.Lacks s x → PlaceIn K s (Err x)

-- a number of which P holds
pub data NumberIn {set : Settings} (K : Claim set) (s : List ℕ) (P : ℕ → Type 0) : Number → Type 0 where
  number_in : {v : ℕ} {c : Cursor} → c.pos ≤ length s → P v → NumberIn K s P (Ok (v, c))
  no_number : {x : Shortage} → K.Lacks s x → NumberIn K s P (Err x)

-- what is claimed of a number of w bytes
abbrev pub OfBytes : {set : Settings} → Claim set → ℕ → ℕ → Type 0
OfBytes K w v = w ≤ 4 → K.Word v

pub data BooleanIn {set : Settings} (K : Claim set) (s : List ℕ) : Boolean → Type 0 where
  boolean_in_law : {b : Bool} {c : Cursor} → c.pos ≤ length s → BooleanIn K s (Ok (b, c))
  bad_boolean : BooleanIn K s (Err unread.Bad)
  no_boolean_law : {x : Shortage} → K.Lacks s x → BooleanIn K s (Err (unread.Short x))

pub data TextIn {set : Settings} (K : Claim set) (s : List ℕ) : Text → Type 0 where
  text_in : {start n : ℕ} {c : Cursor} → start ≤ length s → c.pos ≤ length s → TextIn K s (Ok (start, n, c))
  bad_text : TextIn K s (Err unread.Bad)
  no_text : {x : Shortage} → K.Lacks s x → TextIn K s (Err (unread.Short x))

data UnitsIn {set : Settings} (K : Claim set) (s : List ℕ) : Units → Type 0 where
  units_in : {us : List ℕ} {c : Cursor} → c.pos ≤ length s → UnitsIn K s (textual.units us c)
  no_units : {x : Shortage} → K.Lacks s x → UnitsIn K s (textual.short x)

-- contents begin and end in what is left of the data where it is cut at their end
pub data ContentsIn {set : Settings} (K : Claim set) (s : List ℕ) : Contents → Type 0 where
  contents_in : {c : Cursor} {own : ℕ} → K.At (cut_at set s own) c.pos → K.At (cut_at set s own) own → ContentsIn K s (Ok (c, own))
  contents_past : ContentsIn K s (Err unread.Bad)
  no_contents : {x : Shortage} → K.Lacks s x → ContentsIn K s (Err (unread.Short x))

-- ---- what follows a move or a number, whatever is said of it

module _ {set : Settings} (K : Claim set) (s : List ℕ) {A : Type 0} (F : A → Type 0) (short : Shortage → A) (fails : (x : Shortage) → K.Lacks s x → F (short x)) where
  pub after_move_law : {p : Place} → PlaceIn K s p → (next : Cursor → A) → ((c : Cursor) → c.pos ≤ length s → F (next c)) → F (after_move short p next)
  unfolding after_move
  after_move_law (place_in {c} l) next h = h c l
  after_move_law (no_place {x} l) next h = fails x l

  pub after_number_law : {P : ℕ → Type 0} {n : Number} → NumberIn K s P n → (next : ℕ → Cursor → A) → ((v : ℕ) (c : Cursor) → c.pos ≤ length s → P v → F (next v c)) → F (after_number short n next)
  unfolding after_number
  after_number_law (number_in {v} {c} l p) next h = h v c l p
  after_number_law (no_number {x} l) next h = fails x l

-- no padding is longer than the size that it aligns to
padding_within : (v : Version) (c : Cursor) (size : ℕ) → padding_of c (alignment_of v size) ≤ size
unfolding padding_of alignment_of
padding_within Xcdr1 c size = omega (arith, mod-le (size - (c.pos - c.origin) % size) size)
padding_within Xcdr2 c size = omega (arith, mod-le (min size 4 - (c.pos - c.origin) % min size 4) (min size 4))

-- the data cut where ends are not kept is the data
pub cut_nowhere : (set : Settings) (s : List ℕ) (end : ℕ) → keeps_ends set ≡ false → cut_at set s end ≡ s
unfolding cut_at
cut_nowhere set s end e = rw e

module _ {set : Settings} (K : Claim set) (s : List ℕ) (g : K.Given s) where
  -- ---- moves and numbers

  pub seek_in : (c : Cursor) (n : ℕ) → K.At s c.pos → K.Wanted n → PlaceIn K s (seek_to s c n)
  unfolding seek_to
  seek_in c n l w =
      by_test (PlaceIn K s) (leb (c.pos + n) (length s)) (λ e. place_in (leb-true (c.pos + n) (length s) e)) (λ e.
      no_place (K.lacks s c n g l w (leb-false (c.pos + n) (length s) e)))

  pub align_in : (c : Cursor) (size : ℕ) → size ≤ 16 → K.At s c.pos → PlaceIn K s (align_to s set.version c size)
  unfolding align_to
  align_in c size h l =
      let k : padding_of c (alignment_of set.version size) ≤ size = padding_within set.version c size in
      seek_in c (padding_of c (alignment_of set.version size)) l (K.few (padding_of c (alignment_of set.version size)) (omega arith))

  bytes_in : (o : ByteOrder) (p w : ℕ) {r : Place} → PlaceIn K s r → NumberIn K s (OfBytes K w) (on_bytes s o p w r)
  unfolding on_bytes
  bytes_in o p w (place_in l) = number_in l (λ h. K.word s o p w g h)
  bytes_in o p w (no_place l) = no_number l

  aligned_in : (o : ByteOrder) (w : ℕ) {r : Place} → w ≤ 16 → PlaceIn K s r → NumberIn K s (OfBytes K w) (on_aligned s o w r)
  unfolding on_aligned number_here
  aligned_in o w h (place_in {c} l) = bytes_in o c.pos w (seek_in c w (K.inside s c.pos g l) (K.few w h))
  aligned_in o w h (no_place l) = no_number l

  pub read_in : (c : Cursor) (w : ℕ) → w ≤ 16 → K.At s c.pos → NumberIn K s (OfBytes K w) (read_number s set c w)
  unfolding read_number
  read_in c w h l = aligned_in set.order w h (align_in c w h l)

  byte_in : {P : ℕ → Type 0} {n : Number} → NumberIn K s P n → BooleanIn K s (on_byte n)
  unfolding on_byte boolean_in
  byte_in (number_in {v} l p) =
      let F : Boolean → Type 0 = BooleanIn K s in
      by_test F (eqb v 0) (λ e. boolean_in_law l) (λ n. by_test F (eqb v 1) (λ e. boolean_in_law l) (λ m. bad_boolean))
  byte_in (no_number l) = no_boolean_law l

  pub read_boolean_in : (c : Cursor) → K.At s c.pos → BooleanIn K s (read_boolean s set c)
  unfolding read_boolean
  read_boolean_in c l = byte_in (read_in c 1 (omega arith) l)

  -- what a number of four bytes makes a read want, or less
  pub wanted_by : (m n : ℕ) → m ≤ n → K.Word n → K.Wanted m
  wanted_by m n h w = K.fewer m (n * 8 + 4) (omega arith) (K.eight n w)

  -- ---- texts

  text_if_law : (good : Bool) (start n : ℕ) (c : Cursor) → start ≤ length s → c.pos ≤ length s → TextIn K s (text_if good start n c)
  text_if_law true start n c b l = text_in b l
  text_if_law false start n c b l = bad_text

  abbrev failing : (x : Shortage) → K.Lacks s x → TextIn K s (Err (unread.Short x))
  failing x l = no_text l

  bytes_here_law : (c : Cursor) (n : ℕ) → c.pos ≤ length s → K.Wanted n → TextIn K s (bytes_here s c n)
  unfolding bytes_here
  bytes_here_law c n l w =
      let F : Text → Type 0 = TextIn K s in
      after_move_law K s F short_text failing (seek_in c n (K.inside s c.pos g l) w) _ (λ d k.
      after_move_law K s F short_text failing (seek_in d 1 (K.inside s d.pos g k) (K.few 1 (omega arith))) _ (λ e h. text_if_law (utf8 (part s c.pos n)) c.pos n e l h))

  pub string_in : (c : Cursor) → K.At s c.pos → TextIn K s (string_type s set c)
  unfolding string_type
  string_in c l =
      after_number_law K s (TextIn K s) short_text failing (read_in c 4 (omega arith) l) _ (λ n d k w. bytes_here_law d (n - 1) k (wanted_by (n - 1) n (omega arith) (w (omega arith))))

  unit_then_law : (u : ℕ) {r : Units} → UnitsIn K s r → UnitsIn K s (unit_then u r)
  unfolding unit_then
  unit_then_law u (units_in l) = units_in l
  unit_then_law u (no_units l) = no_units l

  read_units_law : (n : ℕ) (c : Cursor) → c.pos ≤ length s → UnitsIn K s (read_units s set n c)
  unfolding read_units
  read_units_law zero c l = units_in l
  read_units_law (suc n) c l =
      after_number_law K s (UnitsIn K s) textual.short (λ x k. no_units k) (read_in c 2 (omega arith) (K.inside s c.pos g l)) _ (λ u d k w. unit_then_law u (read_units_law n d k))

  on_units_law : (start n : ℕ) {r : Units} → start ≤ length s → UnitsIn K s r → TextIn K s (on_units start n r)
  unfolding on_units
  on_units_law start n b (units_in {us} {c} l) = text_if_law (utf16 us) start n c b l
  on_units_law start n b (no_units l) = no_text l

  wide_here_law : (c : Cursor) (n : ℕ) → c.pos ≤ length s → TextIn K s (wide_here s set c n)
  unfolding wide_here units_here
  wide_here_law c n l =
      let F : Text → Type 0 = TextIn K s in
      by_test F (eqb n 0) (λ e. text_in l l) (λ z. by_test F (eqb (n % 2) 1) (λ e. bad_text) (λ e. on_units_law c.pos (n / 2) l (read_units_law (n / 2) c l)))

  pub wstring_in : (c : Cursor) → K.At s c.pos → TextIn K s (wstring_type s set c)
  unfolding wstring_type
  wstring_in c l = after_number_law K s (TextIn K s) short_text failing (read_in c 4 (omega arith) l) _ (λ n d k w. wide_here_law d n k)

  -- ---- contents: an end past the data's is refused where ends are kept, and in XCDR1 none is told

  -- a place before an end is one of what is left there
  pub kept_at : (end p : ℕ) → p ≤ end → p ≤ length s → K.At (cut_at set s end) p
  kept_at end p h l = K.inside (cut_at set s end) p (K.cuts s end g) (cut_keeps set s end p h l)

  up_to_in : (c : Cursor) (n : ℕ) → set.version ≡ Xcdr2 → c.pos ≤ length s → K.Word n → ContentsIn K s (up_to s set c (c.pos + n))
  unfolding up_to
  up_to_in c n v l w = go (keeps_ends set) refl
    where
      go : (k : Bool) → keeps_ends set ≡ k → ContentsIn K s (up_to s set c (c.pos + n))
      go true e =
          rw e (by_test (ContentsIn K s) (ltb (length s) (c.pos + n)) (λ f. contents_past) (λ f.
          let h : c.pos + n ≤ length s = ltb-false (length s) (c.pos + n) f in
          contents_in {c = c} {own = c.pos + n} (kept_at (c.pos + n) c.pos (omega arith) l) (kept_at (c.pos + n) (c.pos + n) (omega arith) h)))
      go false e =
          let z : cut_at set s (c.pos + n) ≡ s = cut_nowhere set s (c.pos + n) e in
          rw e (contents_in {c = c} {own = c.pos + n} (rw z (K.inside s c.pos g l)) (rw z (K.past s c.pos n g v e l w)))

  undelimited_in : (c : Cursor) → K.At s c.pos → ContentsIn K s (Ok (c, length s))
  undelimited_in c l =
      let z : cut_at set s (length s) ≡ s = cut_whole set s in
      contents_in {c = c} {own = length s} (rw z l) (rw z (K.inside s (length s) g (omega arith)))

  delimited_in : (v : Version) (c : Cursor) → set.version ≡ v → K.At s c.pos → ContentsIn K s (delimited_by v s set c)
  unfolding delimited_by dheader_at
  delimited_in Xcdr1 c e l = undelimited_in c l
  delimited_in Xcdr2 c e l =
      after_number_law K s (ContentsIn K s) (λ x. Err (unread.Short x)) (λ x k. no_contents k) (read_in c 4 (omega arith) l) _ (λ n d k w. up_to_in d n e k (w (omega arith)))

  pub contents_at_in : (f : Bool) (c : Cursor) → K.At s c.pos → ContentsIn K s (contents_at s set f c)
  unfolding contents_at
  contents_at_in f c l = by_test (ContentsIn K s) f (λ e. delimited_in set.version c refl l) (λ e. undelimited_in c l)

  -- a short DHEADER that is unheard leaves contents that begin where it stands
  pub unheard_at : (x : Shortage) → K.Lacks s x → ContentsIn K s (Ok (x.at, length s))
  unheard_at x l = undelimited_in x.at (K.stands s x l)
