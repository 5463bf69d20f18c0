use Rattle.lines.proofs.Buffered.{front_tells}
use Rattle.lines.proofs.front_tells.Goals as goal

pub returns : goal.returns
returns c = front_tells
