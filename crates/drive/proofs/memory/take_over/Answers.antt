use Rattle.std.proofs.Common.{sym, ◌∙◌, arith}
use Rattle.drive.proofs.Mixes.{mix_taken, mix_left, mix_done}
use Rattle.drive.proofs.memory.take_over.Goals as goal
use Rattle.drive.proofs.memory.take_over.Goals.{then-bits-eq1, else-bits-eq1}

pub loop-i-preserved : goal.loop-i-preserved
loop-i-preserved c =
    elim c.if-bits-eq1.branch [
      | then-bits-eq1 w ↦ mix_taken c.loop-i.bits c.loop-i.i c.args.from.now c.loop-i.to (omega arith) (omega arith) _ _ w.to-is w.if-bits-eq1.true c.loop-i.invariant
      | else-bits-eq1 w ↦ mix_left c.loop-i.bits c.loop-i.i c.args.from.now c.loop-i.to (omega arith) (omega arith) _ _ w.to-is w.if-bits-eq1.false c.loop-i.invariant
    ]

pub returns : goal.returns
returns c = sym (mix_done c.loop-i.bits c.loop-i.i c.args.from.now c.loop-i.to (omega arith) (omega arith)) ∙ c.loop-i.invariant
