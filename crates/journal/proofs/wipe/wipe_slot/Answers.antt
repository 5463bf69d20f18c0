use Rattle.std.proofs.Common.{refl, ap}
use Rattle.drive.specs.Views.{zero_slot}
use Rattle.journal.proofs.Wiping.{slot_stays, slot_goes}
use Rattle.journal.proofs.wipe.wipe_slot.Goals as goal

pub returns-else-not-belongs_in : goal.returns-else-not-belongs_in
returns-else-not-belongs_in g c =
    slot_stays (g.D.Drive.meaning c.args.drive.now) c.args.run.now.start c.args.run.now.end c.args.slot c.slots.result _ _ c.read_from-head.result.number _ c.requires c.slots.ensures
    c.read.ensures (ap (λ h. h.number) c.read_from-head.ensures) c.belongs_in.result _ c.belongs_in.ensures c.if-not-belongs_in.false

pub returns-then-not-belongs_in : goal.returns-then-not-belongs_in
unfolding zero_slot
returns-then-not-belongs_in g c =
    slot_goes (g.D.Drive.meaning c.args.drive.now) c.args.run.now.start c.args.run.now.end c.args.slot c.slots.result _ _ c.read_from-head.result.number _ c.requires c.slots.ensures
    c.read.ensures (ap (λ h. h.number) c.read_from-head.ensures) c.belongs_in.result _ _ _ _ c.belongs_in.ensures c.if-not-belongs_in.true refl c.write.ensures
