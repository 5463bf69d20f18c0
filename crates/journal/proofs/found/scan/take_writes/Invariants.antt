use Rattle.std.proofs.Common.{◌≡◌, ◌-◌, length}
use Rattle.journal.proofs.Taking.{Taken, Going}
use Rattle.journal.proofs.found.scan.take_writes.Given as goal

abbrev pub invariant-loop-i : goal.invariant-loop-i
invariant-loop-i g l = Going (g.D.Drive.meaning l.drive).current l.at l.i l.first

abbrev pub invariant-writes : goal.invariant-writes
invariant-writes g l =
    Taken (g.D.Drive.meaning l.drive).current l.blocks l.most l.from l.taken l.found.spans
    × (l.found.room ≡ l.fn.found.room)

abbrev pub decreases-writes : goal.decreases-writes
decreases-writes g l = length (g.D.Drive.meaning l.drive).current - l.taken
