-- Laws of tests: of `both`, of `||`, and of `within`. Assumes nothing.
use Prim.Native.Nat.{ℕ, ◌≤◌, ◌<◌}
use mathlib.Core.Path.{◌≡◌, refl, sym, ◌∙◌}
use mathlib.Core.Bool.{Bool, true, false, ◌&&◌, ◌||◌}
use native.Mathlib.Omega.{arith}
use lib.Dec.{T, leb}
use borrow.Author.Tests.{le-leb, lt-leb}
use Rattle.ground.specs.Choice.{both, ◌‥◌, within}

pub both_left : (a b : Bool) → T (both a b) → T a
both_left true b t = tt
both_left false b t = t

pub both_right : (a b : Bool) → T (both a b) → T b
both_right true b t = t
both_right false b t = absurd t

-- false is not true
pub apart : false ≡ true → ⊥
apart e = let z : ◌≡◌ {A = ℕ} 0 1 = cc in omega arith

pub both_first : (a b : Bool) → both a b ≡ true → a ≡ true
both_first true b e = refl
both_first false b e = e

pub both_second : (a b : Bool) → both a b ≡ true → b ≡ true
both_second true b e = e
both_second false b e = absurd (apart e)

-- one of two tests passes: where the first fails it is the second, and where the second fails the first
pub one_second : (a b : Bool) → (a || b) ≡ true → a ≡ false → b ≡ true
one_second true b e h = absurd (apart (sym h))
one_second false b e h = e

pub one_first : (a b : Bool) → (a || b) ≡ true → b ≡ false → a ≡ true
one_first true b e h = refl
one_first false b e h = absurd (apart (sym h ∙ e))

-- what either of two tests gives
pub either_way : {A : Type 0} (a b : Bool) → (a ≡ true → A) → (b ≡ true → A) → (a || b) ≡ true → A
either_way true b f g e = f refl
either_way false b f g e = g e

-- neither of two tests passes
pub neither_first : (a b : Bool) → (a || b) ≡ false → a ≡ false
neither_first true b e = e
neither_first false b e = refl

pub neither_second : (a b : Bool) → (a || b) ≡ false → b ≡ false
neither_second true b e = absurd (apart (sym e))
neither_second false b e = e

pub both_false : (b : Bool) → both b false ≡ false
both_false true = refl
both_false false = refl

-- the code's `&` asks both tests, and says the same
pub and_both : (a b : Bool) → (a && b) ≡ both a b
and_both true b = refl
and_both false b = refl

module _ (a b x : ℕ) where
  pub inside : a ≤ x → x ≤ b → within (a ‥ b) x ≡ true
  inside h k = rw (le-leb a x h, le-leb x b k)

  pub below : x < a → within (a ‥ b) x ≡ false
  below h = rw (lt-leb a x h)

  pub above : b < x → within (a ‥ b) x ≡ false
  above h = rw (lt-leb x b h, both_false (leb a x))
