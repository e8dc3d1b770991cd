use Rattle.ground.proofs.Exits.{exits}
use Rattle.values.proofs.Scalars.{width_some, width_most, number_below, number_row_law, number_short}
use Rattle.std.proofs.Common.{rules}
use Rattle.values.proofs.scalar.number.Goals as goal

pub word_of-requires : goal.word_of-requires
word_of-requires c = search (rules, width_some, width_most, number_below, c.in_ok-v.was)

pub returns-in_err-v : goal.returns-in_err-v
returns-in_err-v c = rw (exits c.from_residual.ensures.1) (number_short _ _ c.align_of-width.ensures _ _ _ _ c.read_number.ensures _ _ _ _ c.in_err-v.was)

pub returns : goal.returns
returns c = search (rules, number_row_law, c.in_ok-v.was)
