use Rattle.commands.proofs.Readings.{one_meaning}
use Rattle.commands.proofs.token.reader.one_meaning.Goals as goal

pub returns : goal.returns
returns c = one_meaning
