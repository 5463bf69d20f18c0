use Rattle.std.proofs.Common.{◌≡◌, take, drop, sym, rules}
use Rattle.endian.specs.Fields.{le}
use Rattle.objects.proofs.Widths.{field_le}
use Rattle.objects.proofs.part.number_at.Goals as goal

pub returns-clause-says : goal.returns-clause-says
returns-clause-says g c small =
    let is : take g.row.N (drop c.args.at c.args.bytes.now) ≡ le g.row.N (g.T.Number.value c.unwrap.result) = search rules in
    sym (field_le g.row.N c.args.at (g.T.Number.value c.unwrap.result) c.args.bytes.now small is)
