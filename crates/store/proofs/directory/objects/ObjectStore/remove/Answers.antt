use Rattle.std.proofs.Common.{◌+◌, ◌*◌, vec_items, ap, arith}
use Rattle.store.specs.declared.directory.Entry.{Entry}
use Rattle.store.proofs.Changes.{total_removed}
use Rattle.store.proofs.Holding.{holds, lies, closes, deletes, vanishes}
use Rattle.store.proofs.directory.objects.ObjectStore.remove.Goals as goal

pub close-requires-clause-behind : goal.close-requires-clause-behind
close-requires-clause-behind g c =
    let s = c.args.self.now in
    let h = holds s g.met.S.Space.roomy g.met.S.Space.heavy (g.met.S.Space.covered s.space) in
    let l = lies h c.args.i c.start-start.result c.requires c.start-start.ensures in
    let z = ap (λ (e : Entry). g.S.Space.room e.length) c.take_out-e.ensures.gone in
    omega (arith, l.back, z)

pub close-requires-clause-within : goal.close-requires-clause-within
close-requires-clause-within g c =
    let s = c.args.self.now in
    let h = holds s g.met.S.Space.roomy g.met.S.Space.heavy (g.met.S.Space.covered s.space) in
    (lies h c.args.i c.start-start.result c.requires c.start-start.ensures).within

pub overflow_sub-self : goal.overflow_sub-self
overflow_sub-self g c =
    let s = c.args.self.now in
    let h = holds s g.met.S.Space.roomy g.met.S.Space.heavy (g.met.S.Space.covered s.space) in
    let l = lies h c.args.i c.start-start.result c.requires c.start-start.ensures in
    let z = ap (λ (e : Entry). g.S.Space.room e.length) c.take_out-e.ensures.gone in
    omega (arith, l.back, z, c.room.ensures)

pub overflow_sub-self-2 : goal.overflow_sub-self-2
overflow_sub-self-2 g c =
    let s = c.args.self.now in
    let h = holds s g.met.S.Space.roomy g.met.S.Space.heavy (g.met.S.Space.covered s.space) in
    let l = lies h c.args.i c.start-start.result c.requires c.start-start.ensures in
    let z = ap (λ e. g.S.Space.weight e.length) c.take_out-e.ensures.gone in
    omega (arith, l.weighs, z, c.weight.ensures)

pub invariant_of-self : goal.invariant_of-self
invariant_of-self g c =
    let s = c.args.self.now in
    let es = vec_items s.directory.entries in
    let r = total_removed g.S.Space.room es _ c.args.i c.requires c.take_out-e.ensures.items in
    let w = total_removed g.S.Space.weight es _ c.args.i c.requires c.take_out-e.ensures.items in
    let x = ap (λ (e : Entry). g.S.Space.room e.length) c.take_out-e.ensures.gone in
    let y = ap (λ e. g.S.Space.weight e.length) c.take_out-e.ensures.gone in
    record {
      used_is = omega (arith, r, x, c.room.ensures, s.used_is);
      load_is = omega (arith, w, y, c.weight.ensures, s.load_is);
      within = omega (arith, s.within, c.close.ensures.capacity);
      roomy = omega (arith, s.roomy, c.close.ensures.capacity, ap (λ z. g.S.Space.weight 1 * (z + 1)) c.take_out-e.ensures.capacity);
    }

pub returns-clause-landed : goal.returns-clause-landed
returns-clause-landed g c f =
    let s = c.args.self.now in
    let es = vec_items s.directory.entries in
    let b = g.S.Space.bytes c.close.new.self in
    let h = holds s g.met.S.Space.roomy g.met.S.Space.heavy (g.met.S.Space.covered s.space) in
    let k = closes h c.args.i c.start-start.result c.take_out-e.result b c.requires c.start-start.ensures c.take_out-e.ensures.gone c.close.ensures.before c.close.ensures.behind in
    deletes h c.args.i _ _ b c.requires f c.take_out-e.ensures.items c.close.ensures.capacity k

pub returns-clause-pending : goal.returns-clause-pending
returns-clause-pending g c f =
    let s = c.args.self.now in
    let es = vec_items s.directory.entries in
    let b = g.S.Space.bytes c.close.new.self in
    let h = holds s g.met.S.Space.roomy g.met.S.Space.heavy (g.met.S.Space.covered s.space) in
    let k = closes h c.args.i c.start-start.result c.take_out-e.result b c.requires c.start-start.ensures c.take_out-e.ensures.gone c.close.ensures.before c.close.ensures.behind in
    vanishes h c.args.i _ _ b c.requires f c.take_out-e.ensures.items c.close.ensures.capacity k
