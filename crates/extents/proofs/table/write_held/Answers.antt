use Rattle.std.proofs.Common.{length, sym, ap, ◌∙◌, arith}
use lib.Seq.{paste}
use Rattle.extents.specs.Steps.{listed}
use Rattle.extents.proofs.Splice.{set_pastes}
use Rattle.extents.proofs.table.write_held.Goals as goal

pub returns-in-Some : goal.returns-in-Some
returns-in-Some g c =
    let n = ap (λ o. length (listed o)) c.in-Some.is in
    set_pastes c.args.s.now c.args.at c.in-Some.v (omega arith) ∙ ap (λ o. paste c.args.s.now c.args.at (listed o) (length (listed o))) (sym c.in-Some.is)
