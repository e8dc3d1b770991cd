-- `book::judge::judge_into`: the head, then the records by the index that it leaves, which spells the types.
use mathlib.Core.Path.{◌∙◌}
use Rattle.ground.proofs.Exits.{exits}
use Rattle.book.proofs.Telling.{head_told, head_places, records_told, records_places}
use Rattle.book.proofs.judge.judge_into.Goals as goal

pub returns-in_err-unless : goal.returns-in_err-unless
returns-in_err-unless c =
    (exits c.from_residual.ensures.1 ∙ head_told _ _ c.head_ok.ensures _ c.unless.ensures _ c.in_err-unless.was, head_places _ _ c.head_ok.ensures _ c.unless.ensures _ _ c.in_err-unless.was)

pub returns : goal.returns
returns c =
    (records_told _ _ c.head_ok.ensures _ c.unless.ensures _ _ _ _ c.in_ok-unless.was c.requires c.index-n.ensures.0 c.index-n.ensures.1 _ c.records_fault.ensures, records_places _ _ c.head_ok.ensures _ c.unless.ensures _ _ _ _ c.in_ok-unless.was c.requires c.index-n.ensures.0 c.index-n.ensures.1)
