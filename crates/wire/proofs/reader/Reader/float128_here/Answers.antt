use Rattle.std.proofs.Common.{◌∙◌, arith, rules}
use Rattle.ground.proofs.Exits.{exits}
use Rattle.wire.proofs.Numbers.{here16_short, here16_first, here16_second, here16_big, here16_little}
use Rattle.wire.proofs.reader.Reader.float128_here.Goals as goal

pub from_bytes-first-requires : goal.from_bytes-first-requires
from_bytes-first-requires c = search (rules, here16_first, c.in_ok-past.was)

pub overflow_add-at : goal.overflow_add-at
overflow_add-at c = omega (arith, here16_first _ _ _ c.seek.ensures _ c.in_ok-past.was)

pub from_bytes-second-requires : goal.from_bytes-second-requires
from_bytes-second-requires c = search (rules, here16_second, c.in_ok-past.was)

pub returns-in_err-past : goal.returns-in_err-past
returns-in_err-past c = exits c.from_residual.ensures.1 ∙ here16_short _ _ _ _ c.seek.ensures _ c.in_err-past.was

pub returns-in-BigEndian : goal.returns-in-BigEndian
returns-in-BigEndian c = search (rules, here16_big, c.in_ok-past.was)

pub returns-in-LittleEndian : goal.returns-in-LittleEndian
returns-in-LittleEndian c = search (rules, here16_little, c.in_ok-past.was)
