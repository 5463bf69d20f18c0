use Rattle.journal.proofs.Examples.{torn}
use Rattle.journal.proofs.found.scan.torn_log.Goals as goal

pub returns : goal.returns
returns c = torn
