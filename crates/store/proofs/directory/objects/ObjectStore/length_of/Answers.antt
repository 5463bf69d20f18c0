use Rattle.std.proofs.Common.{length, vec_items, refl, ap}
use Rattle.std.proofs.lemmas.List.{get_or_read_under}
use Rattle.std.proofs.lemmas.Result.{err_from_is_err_and}
use Rattle.store.specs.Entries.{blank}
use Rattle.store.proofs.Holding.{holds}
use Rattle.store.proofs.Answered.{sized_absent, sized_found}
use Rattle.store.proofs.directory.objects.ObjectStore.length_of.Goals as goal

pub returns-in_err-i : goal.returns-in_err-i
returns-in_err-i g c =
    let s = c.args.self.now in
    let p = err_from_is_err_and c.from_residual.result c.from_residual.ensures.1 in
    let f = c.in_err-i.ensures in
    rw (p.1, p.2, f.0) (sized_absent (holds s g.met.S.Space.roomy g.met.S.Space.heavy (g.met.S.Space.covered s.space)) c.args.number f.1)

pub returns : goal.returns
returns g c =
    let s = c.args.self.now in
    let es = vec_items s.directory.entries in
    let f = c.in_ok-i.ensures in
    let e = get_or_read_under es c.in_ok-i.i (length es) c.index.result.now blank c.index.ensures f.0 refl in
    sized_found (holds s g.met.S.Space.roomy g.met.S.Space.heavy (g.met.S.Space.covered s.space)) c.args.number c.in_ok-i.i _ f (ap (λ y. y.length) e)
