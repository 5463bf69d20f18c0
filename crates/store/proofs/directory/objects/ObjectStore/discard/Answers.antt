use Rattle.std.proofs.Common.{refl, ap, ◌∙◌}
use Rattle.std.proofs.lemmas.Result.{err_from_is_err_and}
use Rattle.store.specs.Held.{held}
use Rattle.store.specs.Calls.{deleting}
use Rattle.store.proofs.Holding.{holds}
use Rattle.store.proofs.Answered.{delete_absent, delete_found}
use Rattle.store.proofs.directory.objects.ObjectStore.discard.Goals as goal

pub returns-in_err-at : goal.returns-in_err-at
returns-in_err-at g c =
    let s = c.args.self.now in
    let p = err_from_is_err_and c.from_residual.result c.from_residual.ensures.1 in
    let f = c.in_err-at.ensures in
    rw (p.1, p.2, f.0) (delete_absent (holds s g.met.S.Space.roomy g.met.S.Space.heavy (g.met.S.Space.covered s.space)) c.args.number f.1, refl)

pub returns : goal.returns
returns g c =
    let s = c.args.self.now in
    let f = c.in_ok-at.ensures in
    (delete_found (holds s g.met.S.Space.roomy g.met.S.Space.heavy (g.met.S.Space.covered s.space)) c.args.number c.in_ok-at.at f, c.remove.ensures.landed f.2 ∙ ap (deleting (held s)) f.1)
