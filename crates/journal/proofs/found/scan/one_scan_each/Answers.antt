use Rattle.journal.proofs.Scans.{stand}
use Rattle.journal.proofs.found.scan.one_scan_each.Goals as goal

pub returns : goal.returns
returns c = stand
