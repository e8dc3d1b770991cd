use Rattle.std.proofs.Common.{◌∙◌, rules}
use Rattle.ground.proofs.Exits.{exits}
use Rattle.wire.proofs.Numbers.{boolean_short, boolean_got, boolean_some, boolean_small}
use Rattle.wire.proofs.reader.Reader.read_boolean.Goals as goal

pub read_number-requires : goal.read_number-requires
read_number-requires c = search (rules, boolean_some, boolean_small)

pub returns-in_err-v : goal.returns-in_err-v
returns-in_err-v c = exits c.from_residual.ensures.1 ∙ boolean_short _ _ _ _ _ (c.from-width.ensures ∙ c.align_of.ensures) c.read_number.ensures _ c.in_err-v.was

pub returns : goal.returns
returns c = search (rules, boolean_got, c.in_ok-v.was)
