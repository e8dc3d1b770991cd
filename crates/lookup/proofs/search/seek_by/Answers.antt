use Rattle.std.proofs.Common.{◌∙◌, sym, ap}
use Rattle.std.specs.Prelude.{Ok}
use Rattle.ground.proofs.Exits.{exits}
use Rattle.lookup.proofs.Turns.{rest_start, rest_short, rest_settled, rest_on}
use Rattle.lookup.proofs.search.seek_by.Goals as goal

pub loop-turn-init : goal.loop-turn-init
loop-turn-init g c = λ t tells. rest_start _ t _

pub returns-in_err-found : goal.returns-in_err-found
returns-in_err-found g c = λ t tells. exits c.from_residual.ensures.1 ∙ rest_short _ t _ _ _ _ (c.loop-turn.invariant t tells) (tells _ _ c.turn.ensures) c.in_err-found.was

pub returns-in-Break : goal.returns-in-Break
returns-in-Break g c = λ t tells. rest_settled _ t _ _ _ _ (c.loop-turn.invariant t tells) (tells _ _ c.turn.ensures) (c.in_ok-found.was ∙ ap Ok c.in-Break.is)

pub loop-turn-preserved : goal.loop-turn-preserved
loop-turn-preserved g c = λ t tells.
    let is = c.in_ok-found.was ∙ ap Ok c.in-Continue.is in
    let m = c.requires.moves _ _ (rw is at c.turn.ensures) in
    rest_on _ t _ _ _ (c.loop-turn.invariant t tells) (sym (tells _ _ c.turn.ensures) ∙ is) m.0 m.1
