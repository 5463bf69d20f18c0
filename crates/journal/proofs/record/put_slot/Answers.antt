use Rattle.std.proofs.Common.{length, refl, arith}
use Rattle.journal.proofs.Layouts.{begun, put_field, put_more, put_all}
use Rattle.journal.proofs.record.put_slot.Goals as goal

pub returns : goal.returns
returns c =
    let p1 = put_field (begun c.args.out.now) 8 _ (omega arith) c.put.ensures.put in
    let p2 = put_field p1 4 _ (omega arith) c.put-2.ensures.put in
    let p3 = put_field p2 2 _ (omega arith) c.put-3.ensures.put in
    let p4 = put_field p3 2 _ (omega arith) c.put-4.ensures.put in
    let p5 = put_more p4 (length c.args.block.now) c.args.block.now refl (omega arith) c.put_part.ensures.put in
    put_all p5 (omega arith)
