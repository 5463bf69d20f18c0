use Rattle.commands.proofs.Readings.{found_from}
use Rattle.commands.proofs.token.reader.found_in.Goals as goal

pub returns : goal.returns
returns c = found_from c.args.line.now c.call_in.result c.call_in.ensures
