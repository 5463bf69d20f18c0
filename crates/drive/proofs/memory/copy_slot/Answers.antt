use Rattle.std.proofs.Common.{arith}
use Rattle.drive.proofs.Areas.{rejoined}
use Rattle.drive.proofs.memory.copy_slot.Goals as goal

pub returns : goal.returns
returns c =
    rejoined 16 512 c.args.to.now c.args.from.now c.copy_from_slice-2.new.self c.copy_from_slice.new.self
    (omega arith)
    (omega arith)
    c.copy_from_slice-2.ensures.after
    c.copy_from_slice.ensures.after
