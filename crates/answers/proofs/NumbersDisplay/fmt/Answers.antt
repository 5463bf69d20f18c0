use Rattle.std.proofs.Common.{◌<◌, length, refl, arith}
use Rattle.std.proofs.Output.{has_written_append, has_written_of_eq}
use Rattle.answers.proofs.Replies.{items_more, items_all}
use Rattle.answers.proofs.NumbersDisplay.fmt.Goals as goal

pub loop-n-preserved : goal.loop-n-preserved
loop-n-preserved g c = λ p.
    let xs = c.args.self.now.items.now in
    let i = c.loop-n.n-index in
    let lt : i < length xs = omega arith in
    let q = c.loop-n.invariant p in
    has_written_of_eq g.W.Write.write_str_gives _ _ _ _ (items_more xs i lt) (has_written_append g.W.Write.write_str_gives _ _ _ _ _ q (c.in_ok-write.ensures.writes q.plain refl))

pub returns-clause-writes : goal.returns-clause-writes
returns-clause-writes g c = λ p e. has_written_of_eq g.W.Write.write_str_gives _ _ _ _ (items_all c.args.self.now.items.now c.loop-n.n-index (omega arith)) (c.loop-n.invariant p)
