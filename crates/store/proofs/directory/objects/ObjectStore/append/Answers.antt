use Rattle.std.proofs.Common.{◌+◌, ◌*◌, vec_items, vec_capacity, refl, ap, ◌∙◌, arith}
use Rattle.store.specs.Entries.{total}
use Rattle.store.proofs.Entered.{total_append}
use Rattle.store.proofs.Holding.{holds, granted, puts}
use Rattle.store.proofs.directory.objects.ObjectStore.append.Goals as goal

pub write-requires-clause-fits : goal.write-requires-clause-fits
write-requires-clause-fits g c =
    let s = c.args.self.now in
    let h = holds s g.met.S.Space.roomy g.met.S.Space.heavy (g.met.S.Space.covered s.space) in
    (granted h c.args.number c.args.bytes.now (vec_capacity s.directory.entries) s.roomy c.requires).fits

pub push-requires-clause-new : goal.push-requires-clause-new
push-requires-clause-new g c =
    let s = c.args.self.now in
    let h = holds s g.met.S.Space.roomy g.met.S.Space.heavy (g.met.S.Space.covered s.space) in
    (granted h c.args.number c.args.bytes.now (vec_capacity s.directory.entries) s.roomy c.requires).admits.new

pub push-requires-clause-few : goal.push-requires-clause-few
push-requires-clause-few g c =
    let s = c.args.self.now in
    let h = holds s g.met.S.Space.roomy g.met.S.Space.heavy (g.met.S.Space.covered s.space) in
    (granted h c.args.number c.args.bytes.now (vec_capacity s.directory.entries) s.roomy c.requires).admits.few

pub push-requires-clause-room : goal.push-requires-clause-room
push-requires-clause-room g c =
    let s = c.args.self.now in
    let h = holds s g.met.S.Space.roomy g.met.S.Space.heavy (g.met.S.Space.covered s.space) in
    let f = (granted h c.args.number c.args.bytes.now (vec_capacity s.directory.entries) s.roomy c.requires).free in
    omega (arith, f, s.directory.entries.ok.0)

pub overflow_add-self : goal.overflow_add-self
overflow_add-self g c =
    let s = c.args.self.now in
    let h = holds s g.met.S.Space.roomy g.met.S.Space.heavy (g.met.S.Space.covered s.space) in
    let f = (granted h c.args.number c.args.bytes.now (vec_capacity s.directory.entries) s.roomy c.requires).fits in
    omega (arith, f, c.room.ensures, (g.met.S.Space.bounded s.space).0)

pub invariant_of-self : goal.invariant_of-self
invariant_of-self g c =
    let s = c.args.self.now in
    let h = holds s g.met.S.Space.roomy g.met.S.Space.heavy (g.met.S.Space.covered s.space) in
    let l = (granted h c.args.number c.args.bytes.now (vec_capacity s.directory.entries) s.roomy c.requires).light in
    let r = ap (total g.S.Space.room) c.push.ensures.items ∙ total_append g.S.Space.room (vec_items s.directory.entries) _ in
    let w = ap (total g.S.Space.weight) c.push.ensures.items ∙ total_append g.S.Space.weight (vec_items s.directory.entries) _ in
    record {
      used_is = omega (arith, r, c.room.ensures, s.used_is);
      load_is = omega (arith, w, c.weight.ensures, s.load_is);
      within = omega (arith, l, c.weight.ensures, c.write.ensures.capacity);
      roomy = omega (arith, s.roomy, c.write.ensures.capacity, ap (λ z. g.S.Space.weight 1 * (z + 1)) c.push.ensures.capacity);
    }

pub returns : goal.returns
returns g c =
    let s = c.args.self.now in
    let h = holds s g.met.S.Space.roomy g.met.S.Space.heavy (g.met.S.Space.covered s.space) in
    puts h _ _ (g.S.Space.bytes c.write.new.self) c.args.bytes.now _ c.push.ensures.items refl c.write.ensures.capacity c.write.ensures.before c.write.ensures.object
