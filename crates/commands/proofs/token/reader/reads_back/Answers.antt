use Rattle.commands.proofs.Readings.{reads_back}
use Rattle.commands.proofs.token.reader.reads_back.Goals as goal

pub returns : goal.returns
returns c = reads_back
