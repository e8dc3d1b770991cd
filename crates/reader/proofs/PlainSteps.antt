-- Laws of the quick way for a member: of a kind that is taken, the value of a member that is not optional, and of one that was found, is what
-- `scalar_of` says; and of the header that is asked first. Assumes nothing.
use Rattle.std.specs.Prelude.{Option, None, Some, Ok}
use Prim.Native.Nat.{ℕ, ◌+◌, ◌^◌, ◌≤◌, ◌<◌}
use mathlib.Core.Path.{◌≡◌, refl, sym, ap, ◌∙◌}
use mathlib.Core.Bool.{Bool, true, false, not}
use mathlib.Core.List.{List, [], ◌∷◌}
use native.Mathlib.Omega.{arith}
use mir.Syntax.{w64}
use mir.Val.{Fits}
use lib.ListN.{length}
use lib.Dec.{T, eqb, leb, leb→le, eqb→eq}
use borrow.Author.Tests.{not-true}
use Rattle.ground.specs.Choice.{among, both, ◌‥◌, within}
use Rattle.ground.proofs.Tests.{both_left, both_right}
use Rattle.wire.specs.declared.settings.Version.{Version}
use Rattle.wire.specs.declared.settings.Version.TheVariants.{Xcdr1, Xcdr2}
use Rattle.wire.specs.declared.settings.Mode.{Mode}
use Rattle.wire.specs.declared.settings.Mode.TheVariants.{Crate, Standard}
use Rattle.ground.proofs.Between.{passes, between}
use Rattle.wire.specs.declared.cursor.Cursor.{Cursor}
use Rattle.wire.specs.declared.settings.Settings.{Settings}
use Rattle.kinds.specs.Kinds.{unsupported_member, opens}
use Rattle.book.specs.Types.{BookType, optional, type_no}
use Rattle.book.specs.declared.member.Head.{Head}
use Rattle.book.specs.Places.{member_at, type_at, types_by, PlaceOf, HeadOf}
use Rattle.book.specs.Asked.{is_sequence, primitive_element, read_as}
use Rattle.lookup.specs.declared.ahead.Ahead.{Ahead}
use Rattle.lookup.specs.declared.ahead.Hint.{Hint}
use Rattle.lookup.specs.Code.Ahead.{HeaderAhead}
use Rattle.table.specs.Rows.{room}
use Rattle.table.specs.Outcome.{read}
use Rattle.table.specs.Code.Outcome.{Out}
use Rattle.table.specs.Code.Outcome.{Done}
use Rattle.wire.specs.Place.{cursor_at}
use Rattle.values.specs.Scalar.{scalar_of}
use Rattle.values.specs.Code.Quick.{is_taken, Quickly}
use Rattle.values.proofs.Quickly.{quick_as, quick_next, quick_done, quick_none}
use Rattle.reader.specs.Value.{Nest, value_of}
use Rattle.reader.specs.Member.{by_length, found_by, found_value, fmember_by, fmember_of}

-- what no kind that is taken is
none_of : (x : Bool) → T (not x) → x ≡ false
none_of true t = absurd t
none_of false t = refl

module _ (k : ℕ) (taken : is_taken k ≡ true) where
  inside_1 : (1 ≤ k) × (k ≤ 16)
  unfolding is_taken
  inside_1 =
      let t : T (both (within (1 ‥ 16) k) (not (among (11 ∷ 15 ∷ []) k))) = rw taken tt in
      let i = both_left (within (1 ‥ 16) k) (not (among (11 ∷ 15 ∷ []) k)) t in
      (leb→le 1 k (both_left (leb 1 k) (leb k 16) i), leb→le k 16 (both_right (leb 1 k) (leb k 16) i))

  outside : (f : ℕ → Bool) → T (passes (λ i. not (both (is_taken i) (f i))) 1 16) → f k ≡ false
  outside f p =
      let z : both (is_taken k) (f k) ≡ false = none_of (both (is_taken k) (f k)) (between (λ i. not (both (is_taken i) (f i))) 16 1 p k inside_1.0 (omega (arith, inside_1.1))) in
      rw taken at z

  supported : unsupported_member k ≡ false
  unfolding unsupported_member is_taken
  supported = outside unsupported_member tt

  unopened : opens k ≡ false
  unfolding opens is_taken
  unopened = outside opens tt

  unlisted : among (25 ∷ 26 ∷ []) k ≡ false
  unfolding is_taken
  unlisted = outside (among (25 ∷ 26 ∷ [])) tt

  some : eqb k 0 ≡ false
  unfolding is_taken
  some = outside (λ i. eqb i 0) tt

-- a value whose kind is taken is read as that kind
module _ (types : List BookType) (s : List ℕ) (set : Settings) (nest : Nest) (ty id : ℕ) (c : Cursor) (r k : ℕ) (taken : is_taken k ≡ true) (read : k ≡ read_as (type_no types ty)) where
  own : eqb (type_no types ty).kind 19 ≡ false → k ≡ (type_no types ty).kind
  unfolding read_as
  own e = read ∙ rw e

  taken_value : value_of types s set nest ty id c r ≡ scalar_of s set k id c r
  unfolding value_of unsupported_member opens
  taken_value = go (eqb (type_no types ty).kind 19) refl
    where
      go : (x : Bool) → eqb (type_no types ty).kind 19 ≡ x → value_of types s set nest ty id c r ≡ scalar_of s set k id c r
      go true e =
          let f : (type_no types ty).kind ≡ 19 = eqb→eq (type_no types ty).kind 19 (rw e tt) in
          let a : eqb (type_no types ty).kind 0 ≡ false = ap (λ (x : ℕ). eqb x 0) f in
          let b : unsupported_member (type_no types ty).kind ≡ false = ap unsupported_member f in
          let d : opens (type_no types ty).kind ≡ false = ap opens f in
          let g : among (25 ∷ 26 ∷ []) (type_no types ty).kind ≡ false = ap (among (25 ∷ 26 ∷ [])) f in
          rw (a, b, d, g) (ap (λ (x : ℕ). scalar_of s set x id c r) (sym read))
      go false e =
          let f : (type_no types ty).kind ≡ k = sym (own e) in
          let a : eqb (type_no types ty).kind 0 ≡ false = ap (λ (x : ℕ). eqb x 0) f ∙ some k taken in
          let b : unsupported_member (type_no types ty).kind ≡ false = ap unsupported_member f ∙ supported k taken in
          let d : opens (type_no types ty).kind ≡ false = ap opens f ∙ unopened k taken in
          let g : among (25 ∷ 26 ∷ []) (type_no types ty).kind ≡ false = ap (among (25 ∷ 26 ∷ [])) f ∙ unlisted k taken in
          rw (a, b, d, g) (ap (λ (x : ℕ). scalar_of s set x id c r) (sym read))

  -- and is no sequence
  taken_other : (v : Version) (m : Mode) → by_length v m types (type_no types ty) ≡ false
  unfolding by_length is_sequence is_taken
  taken_other Xcdr1 m = refl
  taken_other Xcdr2 Standard = refl
  taken_other Xcdr2 Crate = go (eqb (type_no types ty).kind 19) refl
    where
      go : (x : Bool) → eqb (type_no types ty).kind 19 ≡ x → both (is_sequence (type_no types ty)) (primitive_element types (type_no types ty)) ≡ false
      go true e = let f : eqb (type_no types ty).kind 25 ≡ false = ap (λ (x : ℕ). eqb x 25) (eqb→eq (type_no types ty).kind 19 (rw e tt)) in rw f
      go false e = let f : eqb (type_no types ty).kind 25 ≡ false = ap (λ (x : ℕ). eqb x 25) (sym (own e)) ∙ outside k taken (λ i. eqb i 25) tt in rw f

-- the kind by the place of the type
pub kind_here : (b index : List ℕ) (ty q k : ℕ) → PlaceOf b index ty q → k ≡ read_as (type_at b q) → 0 < k → k ≡ read_as (type_no (types_by b index) ty)
kind_here b index ty q k at is h = is ∙ ap read_as at.is

-- .. and that of a member
pub member_kind : (b index : List ℕ) (p ty k : ℕ) → ty ≡ (member_at b p).type → (0 < k → k ≡ read_as (type_no (types_by b index) ty)) → 0 < k → k ≡ read_as (type_no (types_by b index) (member_at b p).type)
member_kind b index p ty k e is h = is h ∙ ap (λ (x : ℕ). read_as (type_no (types_by b index) x)) e

-- who opens nothing
idle : Nest
idle w ty id e k = read e []

-- what the quick way took is the member's
module _ (b index s : List ℕ) (set : Settings) (p : ℕ) (c : Cursor) (t : List ℕ) (n : ℕ) where
  module _ (ty k i : ℕ) (type : ty ≡ (member_at b p).type) (read : 0 < k → k ≡ read_as (type_no (types_by b index) ty)) (named : i ≡ (member_at b p).id)
      (u : List ℕ) (r : Option ℕ) (d : Quickly (scalar_of s set k i c (room t n)) 1 n c.origin t u r) (takes : (x : ℕ) → r ≡ Some x → is_taken k ≡ true) where
    read_as_law : is_taken k ≡ true → k ≡ read_as (type_no (types_by b index) ty)
    read_as_law y = read (inside_1 k y).0

    value_is : is_taken k ≡ true → (nest : Nest) → value_of (types_by b index) s set nest (member_at b p).type (member_at b p).id c (room t n) ≡ scalar_of s set k i c (room t n)
    value_is y nest = rw (← type, ← named) (taken_value (types_by b index) s set nest ty i c (room t n) k y (read_as_law y))

    plain_taken : (o : Bool) → o ≡ optional (member_at b p) → o ≡ false → (nest : Nest) → Quickly (fmember_of (types_by b index) s set nest (member_at b p) c (room t n)) 1 n c.origin t u r
    unfolding fmember_of fmember_by
    plain_taken o is never nest = quick_as _ _ 1 n c.origin t u r d (λ x h. member_is (takes x h))
      where
        member_is : is_taken k ≡ true → fmember_of (types_by b index) s set nest (member_at b p) c (room t n) ≡ scalar_of s set k i c (room t n)
        member_is y = rw (sym is ∙ never) (value_is y nest)

    pub found_taken : (nest : Nest) (length : ℕ) → Quickly (found_value (types_by b index) s set nest (member_at b p) length c (room t n)) 1 n c.origin t u r
    unfolding found_value found_by
    found_taken nest length = quick_as _ _ 1 n c.origin t u r d (λ x h. found_is (takes x h))
      where
        found_is : is_taken k ≡ true → found_value (types_by b index) s set nest (member_at b p) length c (room t n) ≡ scalar_of s set k i c (room t n)
        found_is y = rw (← type, taken_other (types_by b index) s set nest ty i c (room t n) k y (read_as_law y) set.version set.mode) (rw type (value_is y nest))

    -- .. and so it is done, or left as it was
    pub found_done : {x : ℕ} → r ≡ Some x → (nest : Nest) (length : ℕ) → Done (found_value (types_by b index) s set nest (member_at b p) length c (room t n)) n t u (Ok (cursor_at x c.origin, n + 1))
    found_done h nest length = quick_done 1 r h (found_taken nest length)

    pub found_fits : {x : ℕ} → r ≡ Some x → length t < 2 ^ 64 → Fits w64 (n + 1)
    found_fits h l = quick_next _ _ _ _ _ r h (found_taken idle 0) l

    pub found_left : r ≡ None → (nest : Nest) (length : ℕ) {v : List ℕ} {x : Out} → Done (found_value (types_by b index) s set nest (member_at b p) length c (room u n)) n u v x → Done (found_value (types_by b index) s set nest (member_at b p) length c (room t n)) n t v x
    found_left h nest length l = rw (quick_none _ 1 n c.origin t u r h (found_taken nest length)) at l

-- .. so a member that is not optional was taken, or left as it was
module _ (b index s : List ℕ) (set : Settings) (p : ℕ) (c : Cursor) (t : List ℕ) (n : ℕ) {m : Head} (head : HeadOf (member_at b p) m) (never : not m.optional ≡ true) {k : ℕ} (read_as_law : 0 < k → k ≡ read_as (type_no (types_by b index) m.ty))
    (u : List ℕ) (r : Option ℕ) (d : Quickly (scalar_of s set k m.id c (room t n)) 1 n c.origin t u r × ((x : ℕ) → r ≡ Some x → is_taken k ≡ true)) where
  quickly : (nest : Nest) → Quickly (fmember_of (types_by b index) s set nest (member_at b p) c (room t n)) 1 n c.origin t u r
  quickly = plain_taken b index s set p c t n m.ty k m.id head.type read_as_law head.id u r d.0 d.1 m.optional head.option (not-true m.optional never)

  pub fmember_quick : (nest : Nest) → {x : ℕ} → r ≡ Some x → {e : Cursor} → e ≡ cursor_at x c.origin → Done (fmember_of (types_by b index) s set nest (member_at b p) c (room t n)) n t u (Ok (e, n + 1))
  fmember_quick nest h e = rw e (quick_done 1 r h (quickly nest))

  -- a row that was written has its place
  pub fmember_next : {x : ℕ} → r ≡ Some x → length t < 2 ^ 64 → Fits w64 (n + 1)
  fmember_next h l = quick_next _ _ _ _ _ r h (quickly idle) l

  pub fmember_left : (nest : Nest) → r ≡ None → {v : List ℕ} {x : Out} → Done (fmember_of (types_by b index) s set nest (member_at b p) c (room u n)) n u v x → Done (fmember_of (types_by b index) s set nest (member_at b p) c (room t n)) n t v x
  fmember_left nest h l = rw (quick_none _ 1 n c.origin t u r h (quickly nest)) at l

-- from a table that is the same
pub fmember_from : (b index s : List ℕ) (set : Settings) (nest : Nest) (p : ℕ) (c : Cursor) (n : ℕ) {t u v : List ℕ} {x : Out} → t ≡ u → Done (fmember_of (types_by b index) s set nest (member_at b p) c (room t n)) n t v x → Done (fmember_of (types_by b index) s set nest (member_at b p) c (room u n)) n u v x
fmember_from b index s set nest p c n e d = rw e at d

-- the header where the hint says is asked for the member's own id
pub ahead_of : (b s : List ℕ) (set : Settings) (p : ℕ) (h : Hint) (origin : ℕ) (r : Option Ahead) (i : ℕ) → i ≡ (member_at b p).id → HeaderAhead s set i h origin r → HeaderAhead s set (member_at b p).id h origin r
ahead_of b s set p h origin r i e k = rw e at k

pub ahead_none : (s : List ℕ) (set : Settings) (i : ℕ) (h : Hint) (origin : ℕ) → HeaderAhead s set i h origin None
ahead_none s set i h origin = record { small = λ a e. cc; near = λ a e. cc; found = λ b q y a e. cc; on = λ b y a e. cc }
