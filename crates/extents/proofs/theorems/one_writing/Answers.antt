use Rattle.extents.proofs.Tables.{one_writing}
use Rattle.extents.proofs.theorems.one_writing.Goals as goal

pub returns : goal.returns
returns g c = one_writing g.T.Target.laws
