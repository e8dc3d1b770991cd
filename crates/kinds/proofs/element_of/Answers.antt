-- `kinds::element_of` meets its contract: the source's own column passes the test, which is computed here, and a code outside it has what NONE has.
-- Assumes nothing.
use Rattle.kinds.proofs.Table.{listed}
use Rattle.kinds.specs.Kinds.{element_size_of}
use Rattle.kinds.proofs.element_of.Goals as goal

pub returns-then-k-lt28 : goal.returns-then-k-lt28
unfolding element_size_of
returns-then-k-lt28 c = let h = c.if-k-lt28.true in
    let passed : Unit {0} = tt in
    rw (listed element_size_of)
