-- What the exit of a `?` hands back. Assumes nothing.
use Rattle.std.proofs.Common.{◌≡◌, ◌∙◌, ap}
use Rattle.std.specs.Prelude.{Result, Err, IsErrAnd}
use Rattle.std.proofs.lemmas.Result.{err_from_is_err_and}

-- the error that its conversion gives
pub exits : {T E : Type 0} {x : E} {r : Result T E} → IsErrAnd r (λ y. y ≡ x) → r ≡ Err x
exits {T} {E} {x} {r} h = let p = err_from_is_err_and r h in p.1 ∙ ap Err p.2
