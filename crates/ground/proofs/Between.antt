-- A fact of every number of a range, by one test that antt computes at each of them; and what is past the first ones. Assumes nothing.
use Prim.Native.Nat.{ℕ, zero, suc, ◌+◌, ◌≤◌, ◌<◌}
use mathlib.Core.Path.{◌≡◌, subst}
use mathlib.Core.Bool.{Bool, true}
use mathlib.Core.Logic.{⊎_elim}
use native.Mathlib.Nat.{eq-or-lt_of_le}
use native.Mathlib.Omega.{arith}
use lib.Dec.{T}
use Rattle.ground.specs.Choice.{both}
use Rattle.ground.proofs.Tests.{both_left, both_right}

-- the test passes at each of the n numbers from lo up
abbrev pub passes : (ℕ → Bool) → ℕ → ℕ → Bool
passes f lo zero = true
passes f lo (suc n) = both (f lo) (passes f (suc lo) n)

pub between : (f : ℕ → Bool) (n lo : ℕ) → T (passes f lo n) → (x : ℕ) → lo ≤ x → x < lo + n → T (f x)
between f zero lo t x h k = absurd (omega arith)
between f (suc n) lo t x h k =
    ⊎_elim (λ e. subst (λ (y : ℕ). T (f y)) e (both_left (f lo) (passes f (suc lo) n) t))
    (λ l. between f n (suc lo) (both_right (f lo) (passes f (suc lo) n) t) x l (omega arith)) (eq-or-lt_of_le h)

-- what is none of the first four numbers is past them
pub past3 : (x : ℕ) → (x ≡ 0 → ⊥) → (x ≡ 1 → ⊥) → (x ≡ 2 → ⊥) → (x ≡ 3 → ⊥) → 3 < x
past3 x n0 n1 n2 n3 = omega arith
