use Rattle.std.proofs.Common.{◌^◌, ◌<◌, sym, refl, ap, ◌∙◌, rules, arith}
use Rattle.objects.specs.Layout.{checkpoint, header_of, header_bytes}
use Rattle.objects.proofs.Ready.{ready_is, ready_room, checkpoint_built}
use Rattle.objects.proofs.Sound.{length_header}
use Rattle.objects.proofs.Puts.{put_part_of}
use Rattle.objects.proofs.states.checkpoint.Snapshot.built.Goals as goal

pub returns-then-not-ready : goal.returns-then-not-ready
returns-then-not-ready c =
    let s = c.args.self.now in
    let high : c.args.token.number < 2 ^ 32 = search rules in
    let is = ready_is c.args.token.number s.first s.blocks s.table.now c.args.buf.now high in
    (sym is ∙ sym c.ready.ensures ∙ c.if-not-ready.true, refl, refl)

pub returns : goal.returns
returns c =
    let s = c.args.self.now in
    let high : c.args.token.number < 2 ^ 32 = search rules in
    let is = ready_is c.args.token.number s.first s.blocks s.table.now c.args.buf.now high in
    let good = sym c.ready.ensures ∙ c.if-not-ready.false in
    let room = ready_room c.args.token.number s.first s.blocks s.table.now c.args.buf.now good in
    let header = header_of (checkpoint c.args.token.number s.first s.blocks s.table.now) in
    let put = put_part_of 0 24 c.args.buf.now c.to_bytes.result (header_bytes header) c.put_part.new.buf c.put_part.ensures.put (c.to_bytes.ensures ∙ ap header_bytes c.header.ensures) (length_header header) (omega arith) in
    (sym is ∙ good, λ i. record { token = c.args.token; stage = record { length = c.size.ensures i } }, checkpoint_built c.args.token.number s.first s.blocks s.table.now c.args.buf.now _ _ room put c.put_table.ensures)
