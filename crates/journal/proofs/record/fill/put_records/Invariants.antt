use Rattle.std.proofs.Common.{ℕ, List}
use Rattle.journal.specs.Fills.{AreBlocks}
use Rattle.journal.proofs.Filling.{Upto}
use Rattle.journal.proofs.record.fill.put_records.Given as goal

abbrev pub invariant-loop-i : goal.invariant-loop-i
invariant-loop-i g l =
    (bytes : List ℕ) → AreBlocks bytes l.blocks
    → Upto (g.D.Drive.meaning l.initial.drive) l.write.first.number l.write.first.address l.write.first.count bytes l.i (g.D.Drive.meaning l.drive)
