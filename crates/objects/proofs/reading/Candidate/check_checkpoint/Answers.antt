use Rattle.std.proofs.Common.{sym, ap, ◌∙◌}
use Rattle.std.proofs.lemmas.Result.{on_err_weaker}
use Rattle.objects.specs.Layout.{kind_number}
use Rattle.objects.proofs.Sound.{other_kind, not_third, damaged_checkpoint}
use Rattle.objects.proofs.reading.Candidate.check_checkpoint.Goals as goal

pub returns-in-Carrier-clause-bad : goal.returns-in-Carrier-clause-bad
returns-in-Carrier-clause-bad c =
    let object = c.args.self.now in
    other_kind c.args.name object.bytes.now object.header object.read (not_third c.in-Carrier.field-0 object.header.kind (ap kind_number (sym c.in-Carrier.is) ∙ object.known))

pub returns-in-Checkpoint-clause-bad : goal.returns-in-Checkpoint-clause-bad
returns-in-Checkpoint-clause-bad c =
    let object = c.args.self.now in
    on_err_weaker c.check.result (damaged_checkpoint c.args.name object.bytes.now object.header object.read) c.check.ensures.bad
