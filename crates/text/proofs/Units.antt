-- Laws of the UTF-16 check: one for each way that a unit is taken. Assumes nothing.
use Prim.Native.Nat.{ℕ, ◌<◌, ◌≤◌, ◌^◌, zero-le}
use mathlib.Core.Path.{◌≡◌}
use mathlib.Core.Bool.{false}
use mathlib.Core.List.{List, ◌∷◌}
use native.Mathlib.Omega.{arith}
use Rattle.ground.proofs.Tests.{inside, below, above}
use Rattle.text.specs.Unicode.{table16, follow, rest_good}
use Rattle.text.specs.Code.Step.{good_from}
use Rattle.text.specs.declared.utf16.State.TheVariants.{Whole, Half}

module _ (u : ℕ) (us : List ℕ) where
  pub plain : u < 0xD800 → good_from Whole us ≡ good_from Whole (u ∷ us)
  unfolding rest_good follow table16
  plain h = rw (inside 0 0xD7FF u zero-le (omega arith))

  pub high : 0xD800 ≤ u → u < 0xDC00 → good_from Half us ≡ good_from Whole (u ∷ us)
  unfolding rest_good follow table16
  high h k = rw (above 0 0xD7FF u (omega arith), inside 0xD800 0xDBFF u h (omega arith))

  pub lone : 0xDC00 ≤ u → u < 0xE000 → false ≡ good_from Whole (u ∷ us)
  unfolding rest_good follow table16
  lone h k = rw (above 0 0xD7FF u (omega arith), above 0xD800 0xDBFF u (omega arith), below 0xE000 0xFFFF u k)

  pub other : 0xE000 ≤ u → u < 2 ^ 16 → good_from Whole us ≡ good_from Whole (u ∷ us)
  unfolding rest_good follow table16
  other h k = rw (above 0 0xD7FF u (omega arith), above 0xD800 0xDBFF u (omega arith), inside 0xE000 0xFFFF u h (omega arith))

  pub low : 0xDC00 ≤ u → u < 0xE000 → good_from Whole us ≡ good_from Half (u ∷ us)
  unfolding rest_good
  low h k = rw (inside 0xDC00 0xDFFF u h (omega arith))

  pub under : u < 0xDC00 → false ≡ good_from Half (u ∷ us)
  unfolding rest_good
  under h = rw (below 0xDC00 0xDFFF u h)

  pub over : 0xE000 ≤ u → false ≡ good_from Half (u ∷ us)
  unfolding rest_good
  over h = rw (above 0xDC00 0xDFFF u (omega arith))

pub ruleset unit_laws = (plain, high, lone, other, low, under, over)
