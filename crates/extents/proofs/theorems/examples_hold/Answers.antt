use Rattle.extents.proofs.Worked.{examples}
use Rattle.extents.proofs.theorems.examples_hold.Goals as goal

pub returns : goal.returns
returns c = examples
