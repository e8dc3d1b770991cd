use borrow.Author.Rules.{rules}
use Rattle.ground.proofs.Exits.{exits}
use Rattle.reader.proofs.BeginningSteps.{ending_marker, ending_short, ending_at_law}
use Rattle.reader.proofs.Deserializer.ending.Goals as goal

pub returns-in_err-e-in-Xcdr1 : goal.returns-in_err-e-in-Xcdr1
returns-in_err-e-in-Xcdr1 c = λ t. rw (exits c.from_residual.ensures.1) (ending_short _ _ _ _ _ t c.in-Xcdr1.is _ c.sentinel_from.ensures _ c.in_err-e-in-Xcdr1.was)

pub returns-in_ok-e-in-Xcdr1 : goal.returns-in_ok-e-in-Xcdr1
returns-in_ok-e-in-Xcdr1 c = λ t. ending_marker _ _ _ _ _ t c.in-Xcdr1.is _ c.sentinel_from.ensures _ c.in_ok-e-in-Xcdr1.was

pub returns-in-Xcdr2 : goal.returns-in-Xcdr2
returns-in-Xcdr2 c = search (rules, ending_at_law)
