use Rattle.std.proofs.Common.{◌≡◌, ◌++◌, take, drop}
use Rattle.drive.specs.Views.{mixed, bit}
use Rattle.drive.proofs.memory.take_over.Given as goal

-- what is left to be taken over completes the mix
abbrev pub invariant-loop-i : goal.invariant-loop-i
invariant-loop-i l = take l.i l.to ++ mixed (bit l.bits) (drop l.i l.from) (drop l.i l.to) ≡ mixed (bit l.initial.bits) l.from l.initial.to
