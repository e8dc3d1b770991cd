-- `text::string::wstring_type` meets its contract: one law for each way through. Assumes nothing.
use Rattle.std.proofs.Common.{◌∙◌, rules}
use Rattle.ground.proofs.Exits.{exits}
use Rattle.text.proofs.Strings.{wstring_short, wstring_empty, wstring_odd, wstring_units}
use Rattle.text.proofs.string.wstring_type.Goals as goal

pub returns-in_err-n : goal.returns-in_err-n
returns-in_err-n c = exits c.from_residual.ensures.1 ∙ wstring_short _ _ _ _ c.read_number.ensures _ c.in_err-n.was

pub returns-then-n-eq0 : goal.returns-then-n-eq0
returns-then-n-eq0 c = search (rules, wstring_empty, c.in_ok-n.was)

pub returns-then-n-eq1 : goal.returns-then-n-eq1
returns-then-n-eq1 c = search (rules, wstring_odd, c.in_ok-n.was)

pub returns : goal.returns
returns c = search (rules, wstring_units, c.in_ok-n.was)
