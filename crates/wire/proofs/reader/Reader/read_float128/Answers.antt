use Rattle.std.proofs.Common.{◌∙◌, rules}
use Rattle.ground.proofs.Exits.{exits}
use Rattle.wire.proofs.Numbers.{float128_some, read16_short, read16_at}
use Rattle.wire.proofs.reader.Reader.read_float128.Goals as goal

pub align-requires : goal.align-requires
align-requires c = search (rules, float128_some)

pub returns-in_err-c : goal.returns-in_err-c
returns-in_err-c c = exits c.from_residual.ensures.1 ∙ read16_short _ _ _ _ (c.from-alignment.ensures ∙ c.align_of.ensures) _ c.align.ensures _ c.in_err-c.was

pub returns : goal.returns
returns c = search (rules, read16_at, c.in_ok-c.was)
