use Rattle.store.proofs.Holding.{holds}
use Rattle.store.proofs.Answered.{waits_view}
use Rattle.store.proofs.directory.objects.ObjectStore.pending_puts.Goals as goal

pub returns : goal.returns
returns g c = let s = c.args.self.now in waits_view (holds s g.met.S.Space.roomy g.met.S.Space.heavy (g.met.S.Space.covered s.space))
