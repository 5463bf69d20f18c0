use Rattle.journal.proofs.Layouts.{stand}
use Rattle.journal.proofs.record.one_slot_each.Goals as goal

pub returns : goal.returns
returns c = stand
