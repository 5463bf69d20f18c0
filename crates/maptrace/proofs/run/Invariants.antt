use Rattle.std.proofs.Common.{◌≡◌, length}
use Rattle.maptrace.proofs.run.Given as goal

abbrev pub invariant-loop-number : goal.invariant-loop-number
invariant-loop-number g l = length l.line ≡ 255
