use Rattle.std.proofs.Common.{◌+◌, ◌-◌, ap, ◌∙◌, arith}
use Rattle.journal.specs.Layout.{head_of}
use Rattle.journal.specs.Writes.{slot_at}
use Rattle.journal.proofs.Taking.{more, taken_done, not_begun, not_going}
use Rattle.journal.proofs.found.scan.take_writes.Goals as goal

pub add-requires : goal.add-requires
add-requires g c =
    let slots = (g.D.Drive.meaning c.args.drive.now).current in
    let some = (g.met.D.Drive.shaped c.args.drive.now).some in
    (more slots c.args.blocks c.args.most c.args.from c.writes.taken c.writes.found.spans c.head_at-first.result c.loop-i.i some c.writes.invariant.0
    c.head_at-first.ensures c.if-not-begins.ensures c.loop-i.invariant (omega arith)).room
    c.writes.found.room (omega (arith, c.writes.invariant.1))

pub writes-smaller : goal.writes-smaller
writes-smaller g c =
    let slots = (g.D.Drive.meaning c.args.drive.now).current in
    let some = (g.met.D.Drive.shaped c.args.drive.now).some in
    (more slots c.args.blocks c.args.most c.args.from c.writes.taken c.writes.found.spans c.head_at-first.result c.loop-i.i some c.writes.invariant.0
    c.head_at-first.ensures c.if-not-begins.ensures c.loop-i.invariant (omega arith)).less
    c.from-taken.result c.from-taken.ensures

pub writes-preserved : goal.writes-preserved
writes-preserved g c =
    let slots = (g.D.Drive.meaning c.args.drive.now).current in
    let some = (g.met.D.Drive.shaped c.args.drive.now).some in (
      (more slots c.args.blocks c.args.most c.args.from c.writes.taken c.writes.found.spans c.head_at-first.result c.loop-i.i some c.writes.invariant.0
          c.head_at-first.ensures c.if-not-begins.ensures c.loop-i.invariant (omega arith)).next
          c.from-taken.result _ c.from-taken.ensures (ap (λ v. v.spans) c.add.ensures),
      ap (λ v. v.room) c.add.ensures ∙ c.writes.invariant.1,
    )

pub returns-then-not-begins : goal.returns-then-not-begins
returns-then-not-begins g c =
    let slots = (g.D.Drive.meaning c.args.drive.now).current in
    let at = c.args.from + c.writes.taken in
    let none = not_begun slots at c.head_at-first.result c.head_at-first.ensures c.args.blocks (c.args.most - c.writes.taken) c.if-not-begins.ensures in
    record {
      scan = taken_done slots c.args.blocks c.args.most c.args.from c.writes.taken c.writes.found.spans c.writes.invariant.0 none;
      few = c.writes.invariant.0.few;
      taken = c.writes.invariant.0.total;
      room = c.writes.invariant.1;
    }

pub returns-then-not-is_of : goal.returns-then-not-is_of
returns-then-not-is_of g c =
    let slots = (g.D.Drive.meaning c.args.drive.now).current in
    let at = c.args.from + c.writes.taken in
    let read = c.head_at.ensures ∙ ap (λ j. head_of (slot_at slots (at + j))) c.from.ensures in
    let none = not_going slots at c.head_at-first.result c.head_at-first.ensures c.args.blocks (c.args.most - c.writes.taken) c.if-not-begins.ensures c.loop-i.i c.head_at.result read
    (omega arith) c.if-not-is_of.ensures in
    record {
      scan = taken_done slots c.args.blocks c.args.most c.args.from c.writes.taken c.writes.found.spans c.writes.invariant.0 none;
      few = c.writes.invariant.0.few;
      taken = c.writes.invariant.0.total;
      room = c.writes.invariant.1;
    }
