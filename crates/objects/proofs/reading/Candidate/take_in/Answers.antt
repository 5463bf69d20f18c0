use Rattle.std.proofs.Common.{◌^◌, ◌<◌, ap, sym, refl, ◌∙◌, rules}
use Rattle.std.proofs.lemmas.Result.{err_from_is_err_and}
use Rattle.objects.specs.Layout.{kind_number}
use Rattle.objects.proofs.Taking.{lay_facts, set_facts, taken, table_taken, past}
use Rattle.objects.proofs.reading.Candidate.take_in.Goals as goal

pub returns-in_err-count-in-Carrier : goal.returns-in_err-count-in-Carrier
returns-in_err-count-in-Carrier c =
    let object = c.args.self.now in
    let high : object.header.number < 2 ^ 32 = search rules in
    let kind = sym object.known ∙ ap kind_number c.in-Carrier.is in
    let p = err_from_is_err_and c.from_residual.result c.from_residual.ensures.1 in
    let fault = c.in_err-count-in-Carrier.ensures in
    rw (p.1, p.2, fault.0) (past c.in-Carrier.carrier object.header c.args.records object.bytes.now c.args.map.now object.each high object.read kind c.requires fault.1, refl)

pub lay-requires : goal.lay-requires
lay-requires c =
    let object = c.args.self.now in
    let kind = sym object.known ∙ ap kind_number c.in-Carrier.is in
    let f = lay_facts c.in-Carrier.carrier object.header c.args.map.now.blocks object.bytes.now c.entries.result.now object.read kind c.requires c.entries.ensures in
    record { few = f.few; fit = f.fit; sum = f.sum }

pub set_table-requires : goal.set_table-requires
set_table-requires c =
    let object = c.args.self.now in
    let kind = sym object.known ∙ ap kind_number c.in-Checkpoint.is in
    let f = set_facts object.header c.args.map.now.blocks object.bytes.now c.entries-in-Checkpoint.result.now object.read kind c.requires c.entries-in-Checkpoint.ensures in
    record { tabled = f.tabled; ranged = f.ranged }

pub returns-in_ok-count-in-Carrier : goal.returns-in_ok-count-in-Carrier
returns-in_ok-count-in-Carrier c =
    let object = c.args.self.now in
    let high : object.header.number < 2 ^ 32 = search rules in
    let kind = sym object.known ∙ ap kind_number c.in-Carrier.is in
    taken c.in-Carrier.carrier object.header c.args.records c.in_ok-count-in-Carrier.count object.bytes.now c.entries.result.now c.args.map.now c.lay.new.map object.each high object.read kind c.requires c.entries.ensures
    c.in_ok-count-in-Carrier.ensures c.lay.ensures.blocks c.lay.ensures.places

pub returns-in-Checkpoint : goal.returns-in-Checkpoint
returns-in-Checkpoint c =
    let object = c.args.self.now in
    let high : object.header.number < 2 ^ 32 = search rules in
    let kind = sym object.known ∙ ap kind_number c.in-Checkpoint.is in
    table_taken object.header c.args.records object.bytes.now c.entries-in-Checkpoint.result.now c.args.map.now c.set_table.new.map object.each high object.read kind c.requires c.entries-in-Checkpoint.ensures
    c.set_table.ensures.blocks c.set_table.ensures.table
