use Rattle.std.proofs.Common.{◌∙◌, arith, rules}
use Rattle.ground.proofs.Exits.{exits}
use Rattle.wire.proofs.Contents.{dheader_parts, dheader_there, dheader_read, dheader_short}
use Rattle.wire.proofs.reader.Reader.dheader.Goals as goal

pub returns-then-end-self : goal.returns-then-end-self
returns-then-end-self c = search (rules, dheader_there)

pub overflow_add-c : goal.overflow_add-c
overflow_add-c c = omega (arith, dheader_parts _ _ _ _ c.read_number.ensures _ _ c.in_ok-n.was)

pub returns-in_err-n : goal.returns-in_err-n
returns-in_err-n c = exits c.from_residual.ensures.1 ∙ dheader_short _ _ _ _ c.read_number.ensures _ c.in_err-n.was

pub returns : goal.returns
returns c = search (rules, dheader_read, c.in_ok-n.was)
