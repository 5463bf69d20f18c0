use Rattle.std.proofs.Common.{◌≡◌, ◌-◌, drop, refl, ap, ◌∙◌, arith}
use lib.Seq.{paste}
use Rattle.extents.proofs.Splice.{pasted_same}
use Rattle.extents.proofs.table.shift.Goals as goal

pub returns-else-to-from : goal.returns-else-to-from
returns-else-to-from g c =
    let s = c.args.s.now in
    let from = c.args.from in
    let n = c.args.upto - c.args.from in
    let same : from ≡ c.args.to = omega arith in
    record {
      len = refl;
      after = pasted_same s from n (omega (arith, c.requires.forward, c.requires.within)) ∙ ap (λ t. paste s t (drop from s) n) same;
    }
