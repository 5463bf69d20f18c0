use Rattle.std.proofs.Common.{◌+◌, ◌*◌, length, vec_items, sym, ap, ◌∙◌, arith}
use Rattle.store.specs.Held.{held}
use Rattle.store.proofs.Cuts.{cut_none, cut_to, cut_on_lands, cut_on_loses}
use Rattle.store.proofs.Holding.{holds, lands}
use Rattle.store.proofs.Answered.{none_pending, some_pending}
use Rattle.store.proofs.Changes.{total_risen}
use Rattle.store.proofs.directory.objects.ObjectStore.settle.Goals as goal
use Rattle.store.proofs.directory.objects.ObjectStore.settle.Goals.{then-bits-eq1, else-bits-eq1}

pub invariant_of-self : goal.invariant_of-self
invariant_of-self g c =
    let s = c.loop-i.self in
    let es = vec_items s.directory.entries in
    let o = c.in-Some.ensures in
    record {
      used_is = s.used_is ∙ sym (total_risen g.S.Space.room es _ c.in-Some.i o.0 c.land.ensures.items);
      load_is = s.load_is ∙ sym (total_risen g.S.Space.weight es _ c.in-Some.i o.0 c.land.ensures.items);
      within = s.within;
      roomy = omega (arith, s.roomy, ap (λ z. g.S.Space.weight 1 * (z + 1)) c.land.ensures.capacity);
    }

pub loop-i-preserved : goal.loop-i-preserved
loop-i-preserved g c =
    let s = c.loop-i.self in
    let o = c.in-Some.ensures in
    let h = holds s g.met.S.Space.roomy g.met.S.Space.heavy (g.met.S.Space.covered s.space) in
    let p = some_pending h c.in-Some.i o.0 o.1 in
    λ v k. c.loop-i.invariant v
    (elim c.if-bits-eq1.branch [
      | then-bits-eq1 w ↦ cut_on_lands (held s) _ _ v c.loop-i.bits _ _ (ap held w.self-is) (lands h c.in-Some.i _ _ o.0 o.1 w.land.ensures.items w.land.ensures.number) o.2 w.if-bits-eq1.true k
      | else-bits-eq1 w ↦ cut_on_loses (held s) _ _ v c.loop-i.bits _ p (ap held w.self-is) (w.remove.ensures.pending o.1) o.2 w.if-bits-eq1.false k
    ])

pub returns : goal.returns
returns g c =
    let s = c.loop-i.self in
    let p = none_pending (holds s g.met.S.Space.roomy g.met.S.Space.heavy (g.met.S.Space.covered s.space)) c.in_default.ensures in
    let b = c.loop-i.invariant (held s) (cut_none (held s) c.loop-i.bits (ap length p)) in
    record { any = cut_to c.args.survivors _ (held s) b; bits = b }
