-- What order 6 says of a call that reads.
use Rattle.std.specs.Prelude.{◌<◌, ◌≡◌}
use Rattle.table.specs.Outcome.{nothing_told}
use Rattle.sinotayam.specs.declared.answer.Answer.{Answer}
use Rattle.sinotayam.specs.Answer.{Result, code_of}

-- "For answers other than 1 both numbers are 0", and of an answer 1 the need is over 0
pub record ToldOf1 (w : Result) : Type 0 where
  pub nothing : (w.number ≡ 1 → ⊥) → w.told ≡ nothing_told
  pub some : w.number ≡ 1 → 0 < w.told.need

-- the same of what a call gives back
pub record ToldByCall (r : Answer) : Type 0 where
  pub nothing : (code_of r.status ≡ 1 → ⊥) → r.told ≡ nothing_told
  pub some : code_of r.status ≡ 1 → 0 < r.told.need
