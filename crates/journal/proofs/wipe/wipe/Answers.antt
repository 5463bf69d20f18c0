use Rattle.std.proofs.Common.{arith}
use Rattle.journal.proofs.Wiping.{wiped_all}
use Rattle.journal.proofs.wipe.wipe.Goals as goal

pub returns : goal.returns
returns g c = wiped_all _ _ _ c.loop-slot.slot _ (omega arith) c.loop-slot.invariant
