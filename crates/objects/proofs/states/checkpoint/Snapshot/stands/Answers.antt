use Rattle.std.proofs.Common.{◌≡◌, rules}
use Rattle.objects.proofs.Chains.{at_copied}
use Rattle.objects.specs.Seen.{chained, no_extent}
use Rattle.objects.proofs.states.checkpoint.Snapshot.stands.Goals as goal

pub returns : goal.returns
returns c = at_copied c.copied.result c.args.self.now.table.now (λ table. c.chained.result ≡ chained c.args.number c.args.self.now.blocks no_extent table) c.chained.ensures (search rules)
