use Rattle.journal.proofs.Wiping.{WipedUpto}
use Rattle.journal.proofs.wipe.wipe.Given as goal

abbrev pub invariant-loop-slot : goal.invariant-loop-slot
invariant-loop-slot g l = WipedUpto (g.D.Drive.meaning l.initial.drive) l.from l.upto l.slot (g.D.Drive.meaning l.drive)
