use Rattle.table.proofs.Filling.{put_beneath}
use Rattle.table.proofs.rows.put_beneath.Goals as goal

pub returns : goal.returns
returns c = let a = c.args in put_beneath a.t.now a.n a.beneath c.requires
