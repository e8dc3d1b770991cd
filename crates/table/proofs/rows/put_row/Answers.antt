use native.Mathlib.Omega.{arith}
use lib.ListN.{length-set}
use Rattle.table.proofs.Filling.{put_row_law}
use Rattle.table.proofs.rows.put_row.Goals as goal

pub bounds-t-i-2 : goal.bounds-t-i-2
bounds-t-i-2 c = simp length-set (omega arith)

pub bounds-t-i-3 : goal.bounds-t-i-3
bounds-t-i-3 c = simp length-set (omega arith)

pub bounds-t-i-4 : goal.bounds-t-i-4
bounds-t-i-4 c = simp length-set (omega arith)

pub bounds-t-i-5 : goal.bounds-t-i-5
bounds-t-i-5 c = simp length-set (omega arith)

pub returns : goal.returns
returns c = let a = c.args in put_row_law a.t.now a.n a.r c.requires
