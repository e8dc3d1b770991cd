-- Signed numbers in words.
use Rattle.std.specs.Prelude.{ℕ, ◌+◌, ◌-◌, ◌/◌, ◌^◌, Bool, false, ℤ, pos, negsuc, ◌==◌, nat_lt}
use Rattle.ground.specs.Choice.{pick}

-- "signed extended to 64 bits": of the 256 ^ w numbers of w bytes the upper half is negative
unfoldable pub extended : ℕ → ℕ → ℕ
extended w x = pick (nat_lt x (256 ^ w / 2)) x (x + (2 ^ 64 - 256 ^ w))

-- two signed numbers are the same
unfoldable pub same_z : ℤ → ℤ → Bool
same_z (pos a) (pos b) = a == b
same_z (pos a) (negsuc b) = false
same_z (negsuc a) (pos b) = false
same_z (negsuc a) (negsuc b) = a == b
