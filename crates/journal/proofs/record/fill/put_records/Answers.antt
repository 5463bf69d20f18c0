use Rattle.std.proofs.Common.{arith}
use Rattle.journal.proofs.Filling.{upto_none, upto_more, upto_all, block_at}
use Rattle.journal.proofs.record.fill.put_records.Goals as goal

pub loop-i-init : goal.loop-i-init
loop-i-init g c bytes are = upto_none _ _ _ _ _

pub loop-i-preserved : goal.loop-i-preserved
loop-i-preserved g c bytes are =
    let first = c.args.write.first in
    upto_more (g.D.Drive.meaning c.args.drive.now) first.number first.address first.count bytes c.loop-i.i
    (g.D.Drive.meaning c.loop-i.drive) _ _ _ (c.loop-i.invariant bytes are) c.head-head.ensures
    (block_at bytes c.args.blocks.now c.loop-i.i _ are (omega arith))
    c.put_record.ensures

pub returns : goal.returns
returns g c bytes are = upto_all _ _ _ _ _ c.loop-i.i _ (omega arith) (c.loop-i.invariant bytes are)
