use Rattle.endian.proofs.Laws.{stand}
use Rattle.endian.proofs.little_endian.Goals as goal

pub returns : goal.returns
returns c = stand
