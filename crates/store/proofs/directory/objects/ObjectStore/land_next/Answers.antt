use Rattle.std.proofs.Common.{◌*◌, ◌+◌, take, vec_items, refl, sym, ap, ◌∙◌, arith}
use Rattle.store.specs.Entries.{waits}
use Rattle.store.proofs.Holding.{holds, lands, lands_next}
use Rattle.store.proofs.Answered.{none_pending}
use Rattle.store.proofs.Changes.{total_risen}
use Rattle.store.proofs.directory.objects.ObjectStore.land_next.Goals as goal

pub returns-in_err-i : goal.returns-in_err-i
returns-in_err-i g c =
    let s = c.args.self.now in
    let p = none_pending (holds s g.met.S.Space.roomy g.met.S.Space.heavy (g.met.S.Space.covered s.space)) c.in_err-i.ensures in
    rw c.from_residual.ensures record { any = (p, refl); turn = (p, refl) }

pub invariant_of-self : goal.invariant_of-self
invariant_of-self g c =
    let s = c.args.self.now in
    let es = vec_items s.directory.entries in
    let o = c.in_ok-i.ensures in
    record {
      used_is = s.used_is ∙ sym (total_risen g.S.Space.room es _ c.in_ok-i.i o.0 c.land.ensures.items);
      load_is = s.load_is ∙ sym (total_risen g.S.Space.weight es _ c.in_ok-i.i o.0 c.land.ensures.items);
      within = s.within;
      roomy = omega (arith, s.roomy, ap (λ z. g.S.Space.weight 1 * (z + 1)) c.land.ensures.capacity);
    }

pub returns : goal.returns
returns g c =
    let s = c.args.self.now in
    let es = vec_items s.directory.entries in
    let o = c.in_ok-i.ensures in
    let h = holds s g.met.S.Space.roomy g.met.S.Space.heavy (g.met.S.Space.covered s.space) in
    record {
      any = record { which = waits (take c.in_ok-i.i es); lands = lands h c.in_ok-i.i _ _ o.0 o.1 c.land.ensures.items c.land.ensures.number };
      turn = lands_next h g.S.Space.turn c.in_ok-i.i _ _ o c.land.ensures.items c.land.ensures.number;
    }
