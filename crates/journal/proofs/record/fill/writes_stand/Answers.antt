use Rattle.journal.proofs.Filling.{stand}
use Rattle.journal.proofs.record.fill.writes_stand.Goals as goal

pub returns : goal.returns
returns c = stand
