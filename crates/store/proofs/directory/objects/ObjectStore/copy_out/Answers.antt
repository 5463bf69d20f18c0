use Rattle.std.proofs.Common.{◌+◌, length, take, drop, sym, refl, ap, ◌∙◌, arith}
use Rattle.std.proofs.lemmas.Result.{err_from_is_err_and}
use Rattle.store.proofs.Holding.{holds}
use Rattle.store.proofs.Answered.{part_refused, part_at, get_granted, lies_within}
use Rattle.store.proofs.directory.objects.ObjectStore.copy_out.Goals as goal

pub returns-in_err-i : goal.returns-in_err-i
returns-in_err-i g c =
    let s = c.args.self.now in
    let p = err_from_is_err_and c.from_residual.result c.from_residual.ensures.1 in
    rw (p.1, p.2) (part_refused (holds s g.met.S.Space.roomy g.met.S.Space.heavy (g.met.S.Space.covered s.space)) c.args.number c.args.from (length c.args.out.now) c.in_err-i.field-0.0 c.in_err-i.ensures, refl)

pub overflow_add-start : goal.overflow_add-start
overflow_add-start g c =
    let s = c.args.self.now in
    let f = c.in_ok-i.ensures in
    let l = lies_within (holds s g.met.S.Space.roomy g.met.S.Space.heavy (g.met.S.Space.covered s.space)) c.in_ok-i.i f.0.0 in
    omega (arith, l, f.1, c.start.ensures, (g.met.S.Space.bounded s.space).0)

pub read-requires : goal.read-requires
read-requires g c =
    let s = c.args.self.now in
    let f = c.in_ok-i.ensures in
    let l = lies_within (holds s g.met.S.Space.roomy g.met.S.Space.heavy (g.met.S.Space.covered s.space)) c.in_ok-i.i f.0.0 in
    omega (arith, l, f.1, c.start.ensures)

pub returns : goal.returns
returns g c =
    let s = c.args.self.now in
    let i = c.in_ok-i.i in
    let count = length c.args.out.now in
    let f = c.in_ok-i.ensures in
    let h = holds s g.met.S.Space.roomy g.met.S.Space.heavy (g.met.S.Space.covered s.space) in (
      get_granted h c.args.number i c.args.from count f.0 f.1,
      c.read.ensures ∙ ap (λ z. take count (drop (z + c.args.from) (g.S.Space.bytes s.space))) c.start.ensures ∙ sym (part_at h c.args.number i c.args.from count f.0 f.1),
    )
