-- Laws of signed numbers in words. Assumes nothing.
use Rattle.std.proofs.Common.{◌≡◌, ℕ, suc, ◌+◌, ◌-◌, ◌/◌, ◌%◌, ◌^◌, ◌<◌, ◌≤◌, Bool, true, false, T, eqb, ltb, leb, ℤ, pos, negsuc, ◌-ℤ◌, sym, refl, ◌∙◌, arith, eqb→eq, leb→le, to_z-of_z, w32, w64, SFits, to_z, of_z, ltb-false, ltb-true, le-ltb, lt-ltb, eq-eqb, ne_eqb, eqb-true}
use mir.Facts.{to_z_pos, to_z-neg, sfits_to_z, sfits_widen}
use borrow.Author.Tests.{eqb-false}
use Rattle.ground.specs.Choice.{both}
use Rattle.ground.proofs.Tests.{both_left, both_right}
use Rattle.ground.proofs.Between.{between}
use Rattle.wire.specs.Signed.{extended, same_z}

-- half of the numbers of w bytes, at each width
pub half_at : (w k h : ℕ) → w ≡ k → h ≡ 256 ^ k / 2 → h ≡ 256 ^ w / 2
half_at w k h e f = rw e f

above : (w : ℕ) → 0 < w → (w ≡ 1 → ⊥) → (w ≡ 2 → ⊥) → (w ≡ 3 → ⊥) → (w ≡ 4 → ⊥) → 4 < w
above w some a b c d = omega arith

only : (w : ℕ) → 4 < w → w ≤ 8 → (w ≡ 5 → ⊥) → (w ≡ 6 → ⊥) → (w ≡ 7 → ⊥) → w ≡ 8
only w some m e f g = omega arith

pub half_last : (w h : ℕ) → w ≤ 8 → 0 < w → (w ≡ 1 → ⊥) → (w ≡ 2 → ⊥) → (w ≡ 3 → ⊥) → (w ≡ 4 → ⊥) → (w ≡ 5 → ⊥) → (w ≡ 6 → ⊥) → (w ≡ 7 → ⊥) → h ≡ 256 ^ 8 / 2 → h ≡ 256 ^ w / 2
half_last w h m some a b c d e f g is = rw (only w (above w some a b c d) m e f g) is

abbrev right : ℕ → Bool
right w = both (leb 1 (256 ^ w / 2)) (both (leb (256 ^ w / 2) (2 ^ 63)) (eqb (256 ^ w) (256 ^ w / 2 + 256 ^ w / 2)))

module _ (w : ℕ) (some : 0 < w) (fits : w ≤ 8) where
  holds : T (right w)
  holds = between right 8 1 tt w some (omega arith)

  rest : T (both (leb (256 ^ w / 2) (2 ^ 63)) (eqb (256 ^ w) (256 ^ w / 2 + 256 ^ w / 2)))
  rest = both_right (leb 1 (256 ^ w / 2)) _ holds

  pub half_some : 0 < 256 ^ w / 2
  half_some = leb→le 1 (256 ^ w / 2) (both_left (leb 1 (256 ^ w / 2)) _ holds)

  pub half_small : 256 ^ w / 2 ≤ 2 ^ 63
  half_small = leb→le (256 ^ w / 2) (2 ^ 63) (both_left (leb (256 ^ w / 2) (2 ^ 63)) _ rest)

  pub whole_is : 256 ^ w ≡ 256 ^ w / 2 + 256 ^ w / 2
  whole_is = eqb→eq (256 ^ w) (256 ^ w / 2 + 256 ^ w / 2) (both_right (leb (256 ^ w / 2) (2 ^ 63)) _ rest)

  module _ (x h : ℕ) (half : h ≡ 256 ^ w / 2) where
    pub extend_plus : x < h → x ≡ extended w x
    unfolding extended
    extend_plus k = rw (lt-ltb _ _ (rw half at k))

    pub extend_minus : (y : ℕ) → h ≤ x → y ≡ x + (2 ^ 64 - 256 ^ w) → y ≡ extended w x
    unfolding extended
    extend_minus y k e = rw (le-ltb _ _ (rw half at k), e)

-- half the range added, wrapping, and taken off again: the bits read as a signed number
module _ (x r : ℕ) (fits : x < 2 ^ 32) (is : r ≡ (x + 2 ^ 31) % 2 ^ 32) where
  low : x < 2 ^ 31 → r ≡ x + 2 ^ 31
  low h = omega arith

  high : 2 ^ 31 ≤ x → r ≡ x - 2 ^ 31
  high h = omega arith

  word : to_z w64 r ≡ pos r
  word = to_z_pos w64 (omega arith)

  pub taken_off : to_z w64 r -ℤ pos 2147483648 ≡ to_z w32 x
  taken_off = rw word (go (ltb x (2 ^ 31)) refl)
    where
      go : (t : Bool) → ltb x (2 ^ 31) ≡ t → pos r -ℤ pos 2147483648 ≡ to_z w32 x
      go true h =
          let l : x < 2 ^ 31 = ltb-true _ _ h in
          let e : r - 2147483648 ≡ x = omega (arith, low l) in
          rw (le-ltb r 2147483648 (omega (arith, low l)), e) (sym (to_z_pos w32 l))
      go false h =
          let l : 2 ^ 31 ≤ x = ltb-false _ _ h in
          let e : 2147483648 - suc r ≡ 4294967295 - x = omega (arith, high l) in
          let f : 2 ^ 32 - suc (4294967295 - x) ≡ x = omega arith in
          rw (lt-ltb r 2147483648 (omega (arith, high l)), e) (sym (rw f at (to_z-neg w32 (4294967295 - x) (omega arith))))

  signed : SFits w32 (to_z w32 x)
  signed = sfits_to_z (record { fits = fits })

  pub taken_fits : SFits w64 (to_z w64 r -ℤ pos 2147483648)
  taken_fits = rw taken_off (sfits_widen {w = w32} tt signed)

  back : to_z w64 (of_z w64 (to_z w64 r -ℤ pos 2147483648)) ≡ to_z w32 x
  back = to_z-of_z {w = w64} taken_fits ∙ taken_off

  pub cast_fits : SFits w32 (to_z w64 (of_z w64 (to_z w64 r -ℤ pos 2147483648)))
  cast_fits = rw back signed

  pub cast_is : to_z w32 (of_z w32 (to_z w64 (of_z w64 (to_z w64 r -ℤ pos 2147483648)))) ≡ to_z w32 x
  cast_is = rw back (to_z-of_z {w = w32} signed)

-- two tests that say the same
both_eqb : (m n a b : ℕ) (t : Bool) → eqb a b ≡ t → (m ≡ n → a ≡ b) → (a ≡ b → m ≡ n) → eqb m n ≡ t
both_eqb m n a b true e f g = eq-eqb m n (g (eqb-true a b e))
both_eqb m n a b false e f g = ne_eqb m n (λ q. eqb-false a b e (f q))

-- two numbers of 32 bits are the same where their bits are
pub same_bits : (a b : ℤ) → SFits w32 a → SFits w32 b → eqb (of_z w32 a) (of_z w32 b) ≡ same_z a b
unfolding same_z
same_bits (pos a) (pos b) f g = refl
same_bits (pos a) (negsuc b) f g = ne_eqb a (2 ^ 32 - suc b) (omega arith)
same_bits (negsuc a) (pos b) f g = ne_eqb (2 ^ 32 - suc a) b (omega arith)
same_bits (negsuc a) (negsuc b) f g = both_eqb (2 ^ 32 - suc a) (2 ^ 32 - suc b) a b _ refl (omega arith) (omega arith)
