-- `text::utf8::sequence_at` meets its contract: one law for all lines of the table, and for the gaps before C2 and after F4. Assumes nothing.
use native.Mathlib.Omega.{arith}
use Rattle.text.specs.Unicode.{follow, table37}
use Rattle.text.proofs.Table.{line, one_byte, no_line}
use Rattle.text.proofs.utf8.sequence_at.Goals as goal

pub returns-in-224 : goal.returns-in-224
unfolding follow table37
returns-in-224 c = line 0xE0 0xE0 c.row.ensures tt (omega arith) (omega arith)

pub returns-in-237 : goal.returns-in-237
unfolding follow table37
returns-in-237 c = line 0xED 0xED c.row-in-237.ensures tt (omega arith) (omega arith)

pub returns-in-240 : goal.returns-in-240
unfolding follow table37
returns-in-240 c = line 0xF0 0xF0 c.row-in-240.ensures tt (omega arith) (omega arith)

pub returns-in-244 : goal.returns-in-244
unfolding follow table37
returns-in-244 c = line 0xF4 0xF4 c.row-in-244.ensures tt (omega arith) (omega arith)

pub returns-in-0-to-127 : goal.returns-in-0-to-127
unfolding follow table37
returns-in-0-to-127 c = line 0x00 0x7F (one_byte _ _ c.requires) tt (omega arith) (omega arith)

pub returns-in-194-to-223 : goal.returns-in-194-to-223
unfolding follow table37
returns-in-194-to-223 c = line 0xC2 0xDF c.row-in-194-to-223.ensures tt (omega arith) (omega arith)

pub returns-in-225-to-236 : goal.returns-in-225-to-236
unfolding follow table37
returns-in-225-to-236 c = line 0xE1 0xEC c.row-in-225-to-236.ensures tt (omega arith) (omega arith)

pub returns-in-238-to-239 : goal.returns-in-238-to-239
unfolding follow table37
returns-in-238-to-239 c = line 0xEE 0xEF c.row-in-238-to-239.ensures tt (omega arith) (omega arith)

pub returns-in-241-to-243 : goal.returns-in-241-to-243
unfolding follow table37
returns-in-241-to-243 c = line 0xF1 0xF3 c.row-in-241-to-243.ensures tt (omega arith) (omega arith)

pub returns-in_default : goal.returns-in_default
unfolding follow table37
returns-in_default c = line 0x80 0xC1 (no_line _ _ c.requires) tt (omega arith) (omega arith)

pub returns-in_default-2 : goal.returns-in_default-2
unfolding follow table37
returns-in_default-2 c = line 0xF5 0xFF (no_line _ _ c.requires) tt (omega arith) (omega (arith, c.shared_slice_known-2-1.given c.args.at))
