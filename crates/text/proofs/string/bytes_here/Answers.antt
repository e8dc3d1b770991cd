-- `text::string::bytes_here` meets its contract: one law for each way through. Assumes nothing.
use Rattle.std.proofs.Common.{◌∙◌, rules}
use Rattle.ground.proofs.Exits.{exits}
use Rattle.text.proofs.Strings.{block_short, block_fits, closing_short, well_formed, ill_formed}
use Rattle.text.proofs.string.bytes_here.Goals as goal

pub returns-in_err-closing : goal.returns-in_err-closing
returns-in_err-closing c = exits c.from_residual.ensures.1 ∙ block_short _ _ _ _ c.seek.ensures _ c.in_err-closing.was

pub returns-in_err-past : goal.returns-in_err-past
returns-in_err-past c = exits c.from_residual-in_err-past.ensures.1 ∙ closing_short _ _ _ _ c.seek.ensures _ c.in_ok-closing.was _ c.seek-2.ensures _ c.in_err-past.was

pub is_text-requires : goal.is_text-requires
is_text-requires c = block_fits _ _ _ _ c.seek.ensures _ c.in_ok-closing.was

pub returns-then-is_text : goal.returns-then-is_text
returns-then-is_text c = search (rules, well_formed, c.in_ok-closing.was, c.in_ok-past.was)

pub returns-else-is_text : goal.returns-else-is_text
returns-else-is_text c = search (rules, ill_formed, c.in_ok-closing.was, c.in_ok-past.was)
