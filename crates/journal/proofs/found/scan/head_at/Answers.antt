use Rattle.std.proofs.Common.{ap, ◌∙◌, arith}
use Rattle.journal.specs.Layout.{head_of}
use Rattle.journal.proofs.Reading.{read_at}
use Rattle.journal.proofs.found.scan.head_at.Goals as goal

pub returns : goal.returns
returns g c =
    let v = g.D.Drive.meaning c.args.drive.now in
    let some = (g.met.D.Drive.shaped c.args.drive.now).some in
    c.read_from.ensures ∙ ap head_of (read_at v c.args.number c.from.result _ _ _ some (omega arith) c.read.ensures)
