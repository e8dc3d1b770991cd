-- Laws of the table of numbers. Assumes nothing.
use Prim.Native.Nat.{ℕ, ◌<◌}
use mathlib.Core.Path.{◌≡◌, refl}
use mathlib.Core.Bool.{true, false}
use lib.Dec.{eqb, ltb}
use borrow.Author.Tests.{eqb-false, ltb-true}
use native.Mathlib.Omega.{arith}
use Rattle.book.proofs.Faults.{reason_told}
use Rattle.sinotayam.specs.declared.answer.Status.{Status}
use Rattle.sinotayam.specs.declared.answer.Status.TheVariants.{Read, NotEnoughData, InvalidData, InvalidType, NotPrepared, BadRoot, TooLong, Unsupported, TooDeep, NoRoom, NoDiscriminator, NotText, Unfit, BadBook}
use Rattle.sinotayam.specs.Answer.{code_of}
use Rattle.sinotayam.specs.Room.{Listed}

-- what is said of each number of the table: it is not 4, and it is a byte
pub record NotFour (n : ℕ) : Type 0 where
  pub other : n ≡ 4 → ⊥
  pub small : n < 256

by_tests : (n : ℕ) → eqb n 4 ≡ false → ltb n 256 ≡ true → NotFour n
by_tests n e f = record { other = eqb-false n 4 e; small = ltb-true n 256 f }

status_not_four : (n : Status) → NotFour (code_of n)
unfolding code_of
status_not_four Read = by_tests 0 refl refl
status_not_four NotEnoughData = by_tests 1 refl refl
status_not_four InvalidData = by_tests 2 refl refl
status_not_four InvalidType = by_tests 3 refl refl
status_not_four NotPrepared = by_tests 8 refl refl
status_not_four BadRoot = by_tests 9 refl refl
status_not_four TooLong = by_tests 10 refl refl
status_not_four Unsupported = by_tests 11 refl refl
status_not_four TooDeep = by_tests 12 refl refl
status_not_four NoRoom = by_tests 13 refl refl
status_not_four NoDiscriminator = by_tests 14 refl refl
status_not_four NotText = by_tests 15 refl refl
status_not_four Unfit = by_tests 16 refl refl
status_not_four (BadBook why) = let n = reason_told why in record { other = λ e. omega (arith, n.low); small = omega (arith, n.high) }

pub listed_not_four : {n : ℕ} → Listed n → NotFour n
listed_not_four l = rw (← l.1) (status_not_four l.0)
